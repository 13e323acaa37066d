use Rattle.std.proofs.Common.{ap, ◌∙◌, map}
use Rattle.std.specs.Rc.{rc_slice_items}
use Rattle.std.proofs.lemmas.Result.{IfOk-weaker}
use Rattle.grid.specs.Found.{found_bytes}
use Rattle.share_repair.proofs.Keeping.{standing_still}
use Rattle.share_repair.proofs.mending.judged.Goals as goal

pub returns-clause-stands : goal.returns-clause-stands
returns-clause-stands g c honest =
    IfOk-weaker c.judge_each.result _ _
    (λ judged same. standing_still rc_slice_items c.args.index c.in_ok-found.found.items judged.items c.args.grid.now c.gather.new.self
    (same ∙ ap (map (found_bytes rc_slice_items)) c.deref.ensures.value) (c.in_ok-found.ensures.stands honest) (c.in_ok-found.ensures.unchanged honest))
    c.judge_each.ensures.same
