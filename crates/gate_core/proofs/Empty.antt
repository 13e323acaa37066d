-- Stores that hold nothing.
use Rattle.std.proofs.Common.{◌≡◌, ◌⊎◌, inl, inr, ◌<◌, ◌≤◌, ℕ, zero, List, [], ◌∷◌, length, map, All, Option, Some, None, slice_get, get_or, refl, ap, subst, ◌∙◌, arith}
use Rattle.std.specs.Prelude.{Bool, IsTrue, option_and_then}
use Rattle.std.proofs.lemmas.Option.{slice_get-map, slice_get_cases}
use Rattle.std.proofs.lemmas.List.Elements.{All-tail, All-cons, All-nil}
use Rattle.std.proofs.lemmas.List.Sums.{sum_by-cons}
use Rattle.std.specs.Option.{option_map}
use Rattle.std.specs.FinMap as finite
use Rattle.share_store.specs.History.{History}
use Rattle.share_store.specs.Shares.{Shares, ShareKey, ShareEntry, bytes_in, bytes_of, key_cmp}
use Rattle.grid.specs.Standing.{standing}
use Rattle.grid.specs.GridState.{StoreState, states, stood, maps_of, IsHonest}
use Rattle.chk_file.specs.World.{empty}
use Rattle.chk_file.specs.Marks.{shown}

All-unmap : {X Y : Type 0} (P : Y → Type 0) (f : X → Y) (xs : List X) → All P (map f xs) → All (λ x. P (f x)) xs
All-unmap P f [] all = All-nil (λ x. P (f x))
All-unmap P f (x ∷ xs) all = All-cons (λ x. P (f x)) x xs (all zero (f x) (omega arith)) (All-unmap P f xs (All-tail P (f x) (map f xs) all))

-- entries none of which is empty have a byte each
length_le_bytes : (es : List ShareEntry) → All (λ e. 0 < length e.1) es → length es ≤ bytes_in es
length_le_bytes [] all = omega arith
length_le_bytes (e ∷ es) all = omega (arith, length_le_bytes es (All-tail (λ e. 0 < length e.1) e es all), all zero e (omega arith), sum_by-cons (λ (f : ShareEntry). length f.1) e es)

no_entries : (es : List ShareEntry) → length es ≤ 0 → es ≡ []
no_entries [] le = refl
no_entries (e ∷ es) le = absurd (omega arith)

-- where stores hold nothing, nothing stands
module _ {S : Type 0} (shares : S → Shares) (room held failures : S → ℕ) (honest : S → Bool) (history : S → History) (held_is : (store : S) → IsTrue (honest store) → held store ≡ bytes_of (shares store))
    (none_empty : (store : S) → IsTrue (honest store) → All (λ e. 0 < length e.1) (finite.entries (shares store))) (stores : List S) (nothing : All (λ store. held store ≡ 0) stores)
    (all : IsHonest (states shares room held failures honest history stores)) where
  abbrev state_of : S → StoreState
  state_of store = record { shares = shares store; room = room store; held = held store; failures = failures store; honest = honest store; history = history store }

  map_at : (s : ℕ) → slice_get (maps_of (states shares room held failures honest history stores)) s ≡ option_map shares (slice_get stores s)
  map_at s = slice_get-map (λ (t : StoreState). t.shares) (map state_of stores) s ∙ ap (option_map (λ (t : StoreState). t.shares)) (slice_get-map state_of stores s) ∙ same (slice_get stores s)
    where
      same : (o : Option S) → option_map (λ (t : StoreState). t.shares) (option_map state_of o) ≡ option_map shares o
      same None = refl
      same (Some x) = refl

  none_in : (x : S) (q : ShareKey) → IsTrue (honest x) → held x ≡ 0 → finite.get (shares x) q ≡ None
  none_in x q good zero_held =
      finite.get-entries (shares x) q
      ∙ ap (finite.find key_cmp q) (no_entries (finite.entries (shares x)) (omega (arith, length_le_bytes (finite.entries (shares x)) (none_empty x good), held_is x good, zero_held)))

  none_at : (s : ℕ) (q : ShareKey) → standing (maps_of (states shares room held failures honest history stores)) s q ≡ None
  none_at s q = ap (option_and_then (λ m. finite.get m q)) (map_at s) ∙ by_case (slice_get_cases stores s).1
    where
      by_case : ((x : S) × (s < length stores) × (slice_get stores s ≡ Some x) × (get_or stores s x ≡ x)) ⊎ ((length stores ≤ s) × (slice_get stores s ≡ None)) → option_and_then (λ m. finite.get m q) (option_map shares (slice_get stores s)) ≡ None
      by_case (inl (x, lt, at, read)) =
          ap (λ o. option_and_then (λ m. finite.get m q) (option_map shares o)) at
          ∙ none_in x q (subst (λ y. IsTrue (honest y)) read (All-unmap (λ (t : StoreState). IsTrue t.honest) (λ store. record { shares = shares store; room = room store; held = held store; failures = failures store; honest = honest store; history = history store }) stores all s x lt)) (subst (λ y. held y ≡ 0) read (nothing s x lt))
      by_case (inr h) = ap (λ o. option_and_then (λ m. finite.get m q) (option_map shares o)) h.1

  pub nothing_stood : stood (states shares room held failures honest history stores) ≡ shown empty.marks
  nothing_stood i s q = none_at s q i
