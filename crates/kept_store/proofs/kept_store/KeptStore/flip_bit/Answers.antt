use Rattle.std.proofs.Common.{◌≡◌, ◌<◌, ℕ, Some, length, refl, sym, ap, ◌∙◌, List, arith}
use Rattle.std.specs.Option.{option_map}
use Rattle.std.specs.FinMap.{get, insert}
use Rattle.std.specs.Rc.{rc_slice_items}
use Rattle.share_store.specs.Shares.{Shares}
use Rattle.share_store.specs.Toggle.{toggled, with_toggle}
use Rattle.kept_store.specs.Changed.{shares_in_memory, WritesThrough}
use Rattle.kept_store.specs.declared.kept_store.KeptStore.{KeptStore}
use Rattle.kept_store.proofs.Steps.{told, toggles_as}
use Rattle.kept_store.proofs.kept_store.KeptStore.flip_bit.Given.{Over}
use Rattle.kept_store.proofs.kept_store.KeptStore.flip_bit.Goals as goal
use Rattle.kept_store.proofs.kept_store.KeptStore.flip_bit.Goals.{After-put}

-- the shelf was told to put it with that bit changed
through : (g : Over) → (c : After-put g) → {new : KeptStore g.row.H.Denot g.H.Shelf} → new.shelf ≡ c.put.new.self → WritesThrough (λ (m : Shares). with_toggle m (c.args.index, c.args.number) c.args.place) c.args.self.now new
through g c same =
    let was : List ℕ = rc_slice_items c.in-Some.bytes in
    let b : List ℕ = rc_slice_items c.in_ok-lent.lent in
    let found : get (shares_in_memory c.args.self.now) (c.args.index, c.args.number) ≡ Some was = sym (c.in_ok-bytes.ensures.found refl refl) ∙ ap (option_map rc_slice_items) c.in-Some.is in
    let is : b ≡ toggled was c.args.place = c.in_ok-lent.ensures.cases ∙ c.in_ok-changed.ensures ∙ ap (λ l. toggled l c.args.place) c.as_slice.ensures.value in
    let lt : c.args.place < length was = omega (arith, c.len.ensures, c.if-place-len.false) in
    told c.put.new.self (λ (m : Shares). insert m (c.args.index, c.args.number) b) c.if-self.false same (toggles_as (shares_in_memory c.args.self.now) (c.args.index, c.args.number) c.args.place was b found lt is)
    c.put.ensures.honest c.put.ensures.crash c.put.ensures.history

pub returns-in-Ok-clause-through : goal.returns-in-Ok-clause-through
returns-in-Ok-clause-through g c = through g (goal.at.returns-in-Ok-clause-through g c).After-put refl

pub returns-in-Err-NoMemory-clause-through : goal.returns-in-Err-NoMemory-clause-through
returns-in-Err-NoMemory-clause-through g c = through g (goal.at.returns-in-Err-NoMemory-clause-through g c).After-put refl

pub returns-in-Err-Failed-clause-through : goal.returns-in-Err-Failed-clause-through
returns-in-Err-Failed-clause-through g c = through g (goal.at.returns-in-Err-Failed-clause-through g c).After-put c.refuse-in-Err-Failed.ensures.shelf
