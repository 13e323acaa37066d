use Rattle.std.proofs.Common.{None, Some, is_some, refl, sym, ap, ◌∙◌}
use Rattle.std.specs.Option.{option_map}
use Rattle.std.specs.FinMap.{insert, remove}
use Rattle.std.specs.Rc.{rc_slice_items}
use Rattle.share_store.specs.Shares.{Shares}
use Rattle.shelf_store.specs.Doubt.{in_doubt}
use Rattle.shelf_store.proofs.Changes.{IsToldBack, back_step, back_keeps, told_back}
use Rattle.shelf_store.proofs.Doubts.{key_of, changes_back, done_as}
use Rattle.shelf_store.proofs.shelf_store.ShelfStore.put_back.Given.{Over}
use Rattle.shelf_store.proofs.shelf_store.ShelfStore.put_back.Goals as goal
use Rattle.shelf_store.proofs.shelf_store.ShelfStore.put_back.Goals.{After-remove, After-put}

-- none stood there
taken : (g : Over) → (c : After-remove g) → IsToldBack c.args.self.now c.remove.new.self (λ (m : Shares). remove m (key_of c.in-Some.doubt))
taken g c = record {
  back = changes_back c.args.self.now.doubt c.in-Some.doubt None c.in-Some.is (sym c.in_ok-lent.ensures.same ∙ ap (option_map rc_slice_items) c.in-None.is);
  same_honest = c.remove.ensures.honest;
  crash = c.remove.ensures.crash_each;
  stands = c.remove.ensures.stands;
  narrows = g.met.H.Shelf.narrows;
}

-- these bytes stood there
put : (g : Over) → (c : After-put g) → IsToldBack c.args.self.now c.put.new.self (λ (m : Shares). insert m (key_of c.in-Some.doubt) (rc_slice_items c.in-Some-2.bytes))
put g c = record {
  back = changes_back c.args.self.now.doubt c.in-Some.doubt (Some (rc_slice_items c.in-Some-2.bytes)) c.in-Some.is (sym c.in_ok-lent.ensures.same ∙ ap (option_map rc_slice_items) c.in-Some-2.is);
  same_honest = c.put.ensures.honest;
  crash = c.put.ensures.crash_each;
  stands = c.put.ensures.stands;
  narrows = g.met.H.Shelf.narrows;
}

pub invariant_of-self : goal.invariant_of-self
invariant_of-self g c = record { in_step = back_step (taken g (goal.at.invariant_of-self g c).After-remove) }

pub returns-in-None-clause-back : goal.returns-in-None-clause-back
returns-in-None-clause-back g c =
    told_back (taken g (goal.at.returns-in-None-clause-back g c).After-remove) refl refl c.remove.ensures.rises (ap (λ d. is_some (in_doubt d)) c.in-Some.is)

pub returns-in-None-clause-done : goal.returns-in-None-clause-done
returns-in-None-clause-done g c h = done_as c.remove.result _ _ (back_keeps (taken g (goal.at.returns-in-None-clause-done g c).After-remove) h) (c.remove.ensures.done_each h)

pub invariant_of-self-in-Some-2 : goal.invariant_of-self-in-Some-2
invariant_of-self-in-Some-2 g c = record { in_step = back_step (put g (goal.at.invariant_of-self-in-Some-2 g c).After-put) }

pub returns-in-Some-2-clause-back : goal.returns-in-Some-2-clause-back
returns-in-Some-2-clause-back g c =
    told_back (put g (goal.at.returns-in-Some-2-clause-back g c).After-put) refl refl c.put.ensures.rises (ap (λ d. is_some (in_doubt d)) c.in-Some.is)

pub returns-in-Some-2-clause-done : goal.returns-in-Some-2-clause-done
returns-in-Some-2-clause-done g c h = done_as c.put.result _ _ (back_keeps (put g (goal.at.returns-in-Some-2-clause-done g c).After-put) h) (c.put.ensures.done_each h)
