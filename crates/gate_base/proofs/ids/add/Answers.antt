use Rattle.std.proofs.Common.{ap, Some, true, ◌∙◌, ◌^◌}
use Rattle.std.specs.Prelude.{◌||◌, ◌==◌}
use Rattle.gate_base.proofs.Turns.{turned, adds}
use Rattle.gate_base.proofs.ids.add.Goals as goal

pub returns-in-Some-clause-ok : goal.returns-in-Some-clause-ok
returns-in-Some-clause-ok c x fits =
    c.join-in-Some.ensures x ∙ c.join.ensures x
    ∙ adds _ _ c.args.id (2 ^ 64) (turned _ _ c.args.id (Some true) c.in-Ok.ensures.updates.1 c.in-Ok.ensures.updates.2) c.in_ok-part_behind.ensures.parted x fits
    ∙ ap (λ b. (x == c.args.id) || b) (c.part_behind.ensures.same x)

pub returns-in_default-checked_add-clause-ok : goal.returns-in_default-checked_add-clause-ok
returns-in_default-checked_add-clause-ok c x fits =
    c.join.ensures x
    ∙ adds _ _ c.args.id (2 ^ 64) (turned _ _ c.args.id (Some true) c.in-Ok.ensures.updates.1 c.in-Ok.ensures.updates.2) c.in_ok-part_behind.ensures.parted x fits
    ∙ ap (λ b. (x == c.args.id) || b) (c.part_behind.ensures.same x)
