use Rattle.std.proofs.Common.{◌≡◌, subst, sym}
use Rattle.std.specs.Rc.{rc_slice_items}
use Rattle.share_codec.specs.Meets.{Meets}
use Rattle.share_repair.specs.Files.{FileLabel, IsShareOf}
use Rattle.share_repair.proofs.label.label_of.Goals as goal

pub returns-in_default-clause-none : goal.returns-in_default-clause-none
returns-in_default-clause-none c label small good =
    let e = c.in_default.ensures c.args.number label.params label.ueb small (subst (λ s. Meets s c.args.number label.params label.ueb) (sym c.as_slice.ensures.value) good) in
    cc

pub returns-then-branch-clause-only : goal.returns-then-branch-clause-only
returns-then-branch-clause-only c label small good =
    let e = c.in-Some.ensures c.args.number label.params label.ueb small (subst (λ s. Meets s c.args.number label.params label.ueb) (sym c.as_slice.ensures.value) good) in
    cc

pub returns-else-branch-clause-none : goal.returns-else-branch-clause-none
returns-else-branch-clause-none c label small good =
    let e = c.in-Some.ensures c.args.number label.params label.ueb small (subst (λ s. Meets s c.args.number label.params label.ueb) (sym c.as_slice.ensures.value) good) in
    let same : label ≡ c.in-Some.label = cc in
    c.in_ok-is_share_of.ensures.bad c.if-branch.false
    (subst (λ (l : FileLabel). IsShareOf l c.args.number (rc_slice_items c.args.bytes.now)) same good)
