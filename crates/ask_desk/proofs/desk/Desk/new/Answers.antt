use Rattle.std.proofs.Common.{refl}
use Rattle.ask_desk.proofs.Afters.{after_nothing_yet}
use Rattle.ask_desk.proofs.desk.Desk.new.Goals as goal

pub returns : goal.returns
returns c = after_nothing_yet _ refl c.new.ensures.items c.new-2.ensures.items refl refl c.new-4.ensures c.new-3.ensures
