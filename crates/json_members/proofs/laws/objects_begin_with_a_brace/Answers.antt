use Rattle.json_members.proofs.Begun.{first_is, opens_before, back_opens}
use Rattle.json_members.proofs.laws.objects_begin_with_a_brace.Goals as goal

pub returns : goal.returns
returns c = record { first = first_is; front = opens_before; back = back_opens }
