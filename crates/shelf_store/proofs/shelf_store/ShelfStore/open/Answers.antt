use Rattle.std.proofs.Common.{refl, subst, sym, ap, ◌∙◌}
use Rattle.std.specs.Prelude.{IsTrue}
use Rattle.share_shelf.specs.CrashStates.{Keeps}
use Rattle.shelf_store.specs.Sizes.{sizes_of}
use Rattle.shelf_store.proofs.Steps.{quiet_keeps}
use Rattle.shelf_store.proofs.shelf_store.ShelfStore.open.Goals as goal

pub invariant_of-result : goal.invariant_of-result
invariant_of-result g c =
    let shelf = c.take_all.new.shelf in
    let was : IsTrue (g.H.Shelf.honest shelf) → IsTrue (g.H.Shelf.honest c.args.shelf) = λ h. subst IsTrue c.take_all.ensures.read.read.honest h in
    let keeps : (h : IsTrue (g.H.Shelf.honest shelf)) → Keeps g.H.Shelf.moment g.H.Shelf.left_since shelf (c.requires (was h)).0 =
    λ h. quiet_keeps g.H.Shelf.moment g.H.Shelf.left_since c.args.shelf shelf (c.requires (was h)).0 c.take_all.ensures.read.read.quiet (c.requires (was h)).1 in
    record {
      in_step = record {
        sizes = λ h.
            let kept = c.requires (was h) in
            c.in-Ok.ensures.sizes (was h) kept.0 kept.1 ∙ ap sizes_of (g.met.H.Shelf.keeps shelf kept.0 h (keeps h));
        left = λ h e left. keeps h e left ∙ g.met.H.Shelf.keeps shelf (c.requires (was h)).0 h (keeps h);
      };
    }

pub returns-in-Ok-clause-opened : goal.returns-in-Ok-clause-opened
returns-in-Ok-clause-opened g c =
    let read = c.take_all.ensures.read.read in
    record {
      up = refl;
      none_failed = refl;
      room = c.in-Ok.ensures.room;
      read = read;
      shares = λ h m keeps.
          sym (g.met.H.Shelf.keeps c.take_all.new.shelf m (subst IsTrue (sym read.honest) h) (quiet_keeps g.H.Shelf.moment g.H.Shelf.left_since c.args.shelf c.take_all.new.shelf m read.quiet keeps));
    }
