use Rattle.std.proofs.Common.{◌≡◌, Bool, Some, subst, sym}
use Rattle.std.specs.Prelude.{IfOk, IsTrue}
use Rattle.std.specs.Rc.{rc_slice_items}
use Rattle.std.specs.declared.alloc.AllocError.{AllocError}
use Rattle.std.specs.declared.result.Result.{Result}
use Rattle.share_codec.specs.GoodShare.{good_share}
use Rattle.share_repair.specs.Files.{FileLabel, IsShareOf}
use Rattle.share_repair.proofs.label.is_share_of.Goals as goal
use Rattle.share_repair.proofs.label.is_share_of.Goals.{in-Ok, in-Err+then-is_out_of_memory, in-Err+else-is_out_of_memory}

pub returns-clause-good : goal.returns-clause-good
returns-clause-good c =
    let label = c.args.label.now in
    let s = rc_slice_items c.args.bytes.now in
    let P : Result Bool AllocError → Type 0 = λ r. IfOk r (λ good. IsTrue good → IsShareOf label c.args.number s) in
    elim c.match-read_share.branch [
      | in-Ok w ↦ subst P (sym w.result-is)
          (λ yes.
          let found = subst (λ (l : FileLabel). good_share s c.args.number l.params l.ueb ≡ Some w.in-Ok.field-0) c.label.view_is w.in-Ok.ensures.good in
          let read = c.good_shares_are_read.ensures.found s c.args.number label.params label.ueb _ found in
          (read.texts, w.in-Ok.field-0.ueb, read.meets))
      | in-Err+then-is_out_of_memory w ↦ subst P (sym w.result-is) tt
      | in-Err+else-is_out_of_memory w ↦ subst P (sym w.result-is) (λ yes. cc)
    ]
