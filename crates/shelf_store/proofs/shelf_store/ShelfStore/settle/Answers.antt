use Rattle.std.proofs.Common.{None, refl, sym, ap, subst, ◌∙◌}
use Rattle.std.specs.Prelude.{IsTrue}
use Rattle.share_store.specs.Shares.{Shares}
use Rattle.share_shelf.specs.CrashStates.{Keeps}
use Rattle.shelf_store.specs.Known.{known}
use Rattle.shelf_store.specs.Sizes.{sizes_of}
use Rattle.shelf_store.specs.Standing.{standing}
use Rattle.shelf_store.proofs.Changes.{kept_step}
use Rattle.shelf_store.proofs.Forgetting.{ok_no_err}
use Rattle.shelf_store.proofs.shelf_store.ShelfStore.settle.Goals as goal

pub invariant_of-self : goal.invariant_of-self
invariant_of-self g c =
    let self = c.args.self.now in
    let mid = c.put_back.new.self in
    let m : Shares = standing self in
    let was : IsTrue (g.H.Shelf.honest mid.shelf) → IsTrue (g.H.Shelf.honest self.shelf) = λ h. subst IsTrue c.put_back.ensures.back.honest h in
    let kept : IsTrue (g.H.Shelf.honest mid.shelf) → Keeps g.H.Shelf.moment g.H.Shelf.left_since mid.shelf m = λ h. c.in-Ok.ensures.done (was h) in
    record {
      in_step = kept_step g.H.Shelf None mid.shelf (known mid.sizes) m refl kept (λ h. g.met.H.Shelf.keeps mid.shelf m h (kept h)) (λ h. mid.in_step.sizes h ∙ ap sizes_of (c.put_back.ensures.back.stands (was h)));
    }

pub returns-in-Ok-clause-back : goal.returns-in-Ok-clause-back
returns-in-Ok-clause-back g c =
    let back = c.put_back.ensures.back in
    let mid = c.put_back.new.self in
    record {
      crash = back.crash;
      stands = λ h. sym (g.met.H.Shelf.keeps mid.shelf (standing c.args.self.now) (subst IsTrue (sym back.honest) h) (c.in-Ok.ensures.done h));
      honest = back.honest;
      rises_below = back.rises_below;
      failed_in_doubt = λ more. absurd (ok_no_err (c.in-Ok.ensures.failed.1 more));
      sizes = back.sizes;
    }
