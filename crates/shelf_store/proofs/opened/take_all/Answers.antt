use Rattle.std.proofs.Common.{◌≡◌, ℕ, [], List, Result, Ok, Err, get_or, sym, subst, ap, ◌∙◌, length}
use Rattle.std.proofs.lemmas.List.{length-replicate}
use Rattle.std.specs.Prelude.{IsTrue, IsErrAnd}
use Rattle.std.proofs.lemmas.Option.{slice_get-get_or}
use Rattle.std.specs.FinMap.{entries}
use Rattle.share_store.specs.Shares.{ShareKey}
use Rattle.share_shelf.specs.CrashStates.{IsQuiet}
use Rattle.share_store.specs.declared.fault.StoreFault.TheVariants.{Full}
use Rattle.share_shelf.specs.declared.open_fault.OpenFault.TheVariants.{Empty, Shelf as ShelfRefused, Store as StoreRefused}
use Rattle.share_shelf.specs.declared.fault.ShelfFault.TheVariants.{Failed}
use Rattle.shelf_store.specs.Known.{known}
use Rattle.share_store.specs.Stored.{blank}
use Rattle.shelf_store.proofs.Steps.{quiet_trans, quiet_keeps, calm}
use Rattle.shelf_store.proofs.Opens.{begun_none, next_taken, all_taken, too_many}
use Rattle.shelf_store.proofs.opened.take_all.Goals as goal

err_is : {X E : Type 0} (r : Result X E) (x e : E) → IsErrAnd r (λ y. y ≡ x) → r ≡ Err e → x ≡ e
err_is (Ok y) x e h is = absurd h
err_is (Err y) x e h is = let same : y ≡ e = cc in sym h ∙ same

blank_long : (size : ℕ) → length (blank size) ≡ size
blank_long size = length-replicate size 0

pub returns-in_err-take_in-clause-empty : goal.returns-in_err-take_in-clause-empty
returns-in_err-take_in-clause-empty g c is h m keeps =
    let inv = c.loop-name.invariant in
    let same : c.in_err-take_in.field-0.0 ≡ Empty = err_is c.from_residual-in_err-take_in.result c.in_err-take_in.field-0.0 Empty c.from_residual-in_err-take_in.ensures.1 is in
    (get_or c.deref-name-items.result.now c.loop-name.name-index ([], 0), c.in_err-take_in.ensures.empty (ap Err same) (subst IsTrue (sym inv.same_honest) h) m (quiet_keeps g.H.Shelf.moment g.H.Shelf.left_since c.args.shelf.now c.loop-name.shelf m inv.quiet keeps))

pub returns-in_err-take_in-clause-full : goal.returns-in_err-take_in-clause-full
returns-in_err-take_in-clause-full g c is h m keeps =
    let inv = c.loop-name.invariant in
    let names : List ShareKey = c.deref-name-items.result.now in
    let same : c.in_err-take_in.field-0.0 ≡ StoreRefused Full = err_is c.from_residual-in_err-take_in.result c.in_err-take_in.field-0.0 (StoreRefused Full) c.from_residual-in_err-take_in.ensures.1 is in
    let too_long = c.in_err-take_in.ensures.full (ap Err same) (subst IsTrue (sym inv.same_honest) h) m (quiet_keeps g.H.Shelf.moment g.H.Shelf.left_since c.args.shelf.now c.loop-name.shelf m inv.quiet keeps) in
    too_many m names c.loop-name.name-index (get_or names c.loop-name.name-index ([], 0)) (known c.loop-name.taken) c.loop-name.taken.room c.loop-name.taken.held c.args.room
    (c.deref-name-items.ensures.value ∙ c.in_ok-names.ensures.found h m keeps) (slice_get-get_or names c.loop-name.name-index ([], 0) c.loop-name-test.true) (inv.begun h m keeps) (λ b found. (too_long b found).1) c.loop-name.taken.summed inv.same_room

pub loop-name-init : goal.loop-name-init
loop-name-init g c = record {
  quiet = c.list.ensures.quiet;
  same_honest = c.list.ensures.honest;
  rises = calm c.list.result c.in_ok-names.names Failed _ _ c.in_ok-names.was c.list.ensures.failed.1 c.list.ensures.rises;
  same_room = c.new-taken.ensures.room;
  begun = λ h m keeps. begun_none (known c.new-taken.result) (entries m) c.new-taken.ensures.lengths;
}

pub loop-name-preserved : goal.loop-name-preserved
loop-name-preserved g c =
    let inv = c.loop-name.invariant in
    let quiet : IsQuiet g.H.Shelf.moment g.H.Shelf.left_since c.args.shelf.now c.take_in.new.shelf = quiet_trans g.H.Shelf.moment g.H.Shelf.left_since c.args.shelf.now c.loop-name.shelf c.take_in.new.shelf inv.quiet c.take_in.ensures.read.read.quiet in
    record {
      quiet = quiet;
      same_honest = c.take_in.ensures.read.read.honest ∙ inv.same_honest;
      rises = calm c.take_in.result c.in_ok-take_in.field-0 (ShelfRefused Failed) _ _ c.in_ok-take_in.was c.take_in.ensures.read.failed.1 c.take_in.ensures.read.read.rises ∙ inv.rises;
      same_room = c.take_in.ensures.room ∙ inv.same_room;
      begun = λ h m keeps.
          let taken = c.in_ok-take_in.ensures.taken (subst IsTrue (sym inv.same_honest) h) m (quiet_keeps g.H.Shelf.moment g.H.Shelf.left_since c.args.shelf.now c.loop-name.shelf m inv.quiet keeps) in
          let names : List ShareKey = c.deref-name-items.result.now in
          next_taken m names c.loop-name.name-index (get_or names c.loop-name.name-index ([], 0)) (known c.loop-name.taken) (known c.take_in.new.taken) blank blank_long
          (c.deref-name-items.ensures.value ∙ c.in_ok-names.ensures.found h m keeps) (slice_get-get_or names c.loop-name.name-index ([], 0) c.loop-name-test.true) (inv.begun h m keeps) taken;
    }

pub returns-clause-sizes : goal.returns-clause-sizes
returns-clause-sizes g c h m keeps =
    let inv = c.loop-name.invariant in
    all_taken m c.deref-name-items.result.now c.loop-name.name-index (known c.loop-name.taken) (c.deref-name-items.ensures.value ∙ c.in_ok-names.ensures.found h m keeps) c.loop-name-test.false (inv.begun h m keeps)
