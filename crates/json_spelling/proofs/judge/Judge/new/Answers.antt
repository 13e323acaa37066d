use Rattle.std.proofs.Common.{[], reverse, refl, sym, subst}
use Rattle.json_stack.specs.Machine.{state_after}
use Rattle.json_spelling.specs.Judge.{AreNoted}
use Rattle.json_spelling.proofs.judge.Judge.new.Goals as goal

pub returns : goal.returns
unfolding state_after
returns c = ([], tt, subst (λ bs. AreNoted [] (reverse bs)) (sym c.new.ensures.items) tt, refl, refl)
