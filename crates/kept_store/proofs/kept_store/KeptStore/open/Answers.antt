use Rattle.std.proofs.Common.{◌≡◌, [], List, Result, Ok, Err, get_or, sym, subst, ap, ◌∙◌}
use Rattle.std.specs.Prelude.{IsTrue, IsErrAnd}
use Rattle.std.specs.Rc.{rc_slice_items}
use Rattle.std.proofs.lemmas.Option.{slice_get-get_or}
use Rattle.share_store.specs.Shares.{ShareKey}
use Rattle.share_store.specs.Stored.{shares_in}
use Rattle.share_shelf.specs.CrashStates.{IsQuiet}
use Rattle.share_store.specs.declared.fault.StoreFault.TheVariants.{Full}
use Rattle.share_shelf.specs.declared.open_fault.OpenFault.TheVariants.{Empty, Store as StoreRefused}
use Rattle.kept_store.proofs.Steps.{quiet_trans, quiet_keeps}
use Rattle.kept_store.proofs.Fills.{next_put, all_put, too_many}
use Rattle.kept_store.proofs.kept_store.KeptStore.open.Goals as goal

err_is : {X E : Type 0} (r : Result X E) (x e : E) → IsErrAnd r (λ y. y ≡ x) → r ≡ Err e → x ≡ e
err_is (Ok y) x e h is = absurd h
err_is (Err y) x e h is = let same : y ≡ e = cc in sym h ∙ same

pub returns-in_err-take_in-clause-empty : goal.returns-in_err-take_in-clause-empty
returns-in_err-take_in-clause-empty g c is h m keeps =
    let inv = c.loop-name.invariant in
    let same : c.in_err-take_in.field-0.0 ≡ Empty = err_is c.from_residual-in_err-take_in.result c.in_err-take_in.field-0.0 Empty c.from_residual-in_err-take_in.ensures.1 is in
    (get_or c.deref-name-items.result.now c.loop-name.name-index ([], 0), c.in_err-take_in.ensures.empty (ap Err same) (subst IsTrue (sym inv.same_honest) h) m (quiet_keeps g.H.Shelf.moment g.H.Shelf.left_since g.H.Shelf.honest c.args.shelf c.loop-name.shelf m inv.quiet keeps))

pub returns-in_err-take_in-clause-full : goal.returns-in_err-take_in-clause-full
returns-in_err-take_in-clause-full g c is h m keeps =
    let inv = c.loop-name.invariant in
    let names : List ShareKey = c.deref-name-items.result.now in
    let same : c.in_err-take_in.field-0.0 ≡ StoreRefused Full = err_is c.from_residual-in_err-take_in.result c.in_err-take_in.field-0.0 (StoreRefused Full) c.from_residual-in_err-take_in.ensures.1 is in
    let too_long = c.in_err-take_in.ensures.full (ap Err same) (subst IsTrue (sym inv.same_honest) h) m (quiet_keeps g.H.Shelf.moment g.H.Shelf.left_since g.H.Shelf.honest c.args.shelf c.loop-name.shelf m inv.quiet keeps) in
    too_many c.size_laws.ensures m names c.loop-name.name-index (get_or names c.loop-name.name-index ([], 0)) (shares_in rc_slice_items c.loop-name.memory.shares.indexes) c.loop-name.memory.room c.loop-name.memory.held c.args.room
    (c.deref-name-items.ensures.value ∙ c.in_ok-names.ensures.found h m keeps) (slice_get-get_or names c.loop-name.name-index ([], 0) c.loop-name-test.true) (inv.filled h m keeps) too_long c.loop-name.memory.summed inv.same_room

pub loop-name-preserved : goal.loop-name-preserved
loop-name-preserved g c =
    let inv = c.loop-name.invariant in
    let quiet : IsQuiet g.H.Shelf.moment g.H.Shelf.left_since c.args.shelf c.take_in.new.shelf = quiet_trans g.H.Shelf.moment g.H.Shelf.left_since g.H.Shelf.honest c.args.shelf c.loop-name.shelf c.take_in.new.shelf inv.quiet c.take_in.ensures.quiet in
    record {
      quiet = quiet;
      same_honest = c.take_in.ensures.honest ∙ inv.same_honest;
      same_history = λ h. c.take_in.ensures.same_history (subst IsTrue (sym inv.same_honest) h) ∙ inv.same_history h;
      same_room = c.take_in.ensures.room ∙ inv.same_room;
      filled = λ h m keeps.
          let taken = c.in_ok-take_in.ensures.taken (subst IsTrue (sym inv.same_honest) h) m (quiet_keeps g.H.Shelf.moment g.H.Shelf.left_since g.H.Shelf.honest c.args.shelf c.loop-name.shelf m inv.quiet keeps) in
          let names : List ShareKey = c.deref-name-items.result.now in
          next_put m names c.loop-name.name-index (get_or names c.loop-name.name-index ([], 0)) (shares_in rc_slice_items c.loop-name.memory.shares.indexes) (shares_in rc_slice_items c.take_in.new.memory.shares.indexes)
          (c.deref-name-items.ensures.value ∙ c.in_ok-names.ensures.found h m keeps) (slice_get-get_or names c.loop-name.name-index ([], 0) c.loop-name-test.true) (inv.filled h m keeps) taken;
    }

pub invariant_of-result : goal.invariant_of-result
invariant_of-result g c = record {
  in_step = λ up h d left.
      let inv = c.loop-name.invariant in
      let h' : IsTrue (g.H.Shelf.honest c.args.shelf) = subst IsTrue inv.same_honest h in
      let kept = c.requires h' in
      let keeps = quiet_keeps g.H.Shelf.moment g.H.Shelf.left_since g.H.Shelf.honest c.args.shelf c.loop-name.shelf kept.0 inv.quiet kept.1 in
      keeps d left ∙ sym (all_put kept.0 c.deref-name-items.result.now c.loop-name.name-index (shares_in rc_slice_items c.loop-name.memory.shares.indexes) (c.deref-name-items.ensures.value ∙ c.in_ok-names.ensures.found h' kept.0 kept.1) c.loop-name-test.false (inv.filled h' kept.0 kept.1));
}

pub returns-clause-shares : goal.returns-clause-shares
returns-clause-shares g c h m keeps =
    all_put m c.deref-name-items.result.now c.loop-name.name-index (shares_in rc_slice_items c.loop-name.memory.shares.indexes) (c.deref-name-items.ensures.value ∙ c.in_ok-names.ensures.found h m keeps) c.loop-name-test.false (c.loop-name.invariant.filled h m keeps)
