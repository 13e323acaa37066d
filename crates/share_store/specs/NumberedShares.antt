-- The shares under a storage index that a call gives.
use Rattle.std.specs.Prelude.{◌≡◌, ◌⊎◌, ℕ, List, [], ◌∷◌, map, filter, nat_lt, Option, None, Some}
use Rattle.std.specs.FinMap.{entries}
use Rattle.share_store.specs.Shares.{Shares}
use Rattle.share_store.specs.Numbers.{of_index}

-- the shares that stand there, in the order of their numbers, each with its number
abbrev pub shares_for : Shares → List ℕ → List (ℕ × List ℕ)
shares_for shares index = map (λ e. (e.0.1, e.1)) (of_index index (entries shares))

-- a share with its number, as bytes
abbrev pub numbered_bytes : {A : Type 0} → (A → List ℕ) → ℕ × A → ℕ × List ℕ
numbered_bytes bytes share = (share.0, bytes share.1)

-- those of numbers below a limit, where there is one
abbrev pub below_limit : {A : Type 0} → (A → ℕ) → Option ℕ → List A → List A
below_limit number None all = all
below_limit number (Some limit) all = filter (λ x. nat_lt (number x) limit) all

-- all of these in their order, less some of those that may be missing
abbrev pub AllBut : {A : Type 0} → (A → Type 0) → List A → List A → Type 0
AllBut may_miss [] given = given ≡ []
AllBut {A} may_miss (x ∷ all) given = (may_miss x × AllBut may_miss all given) ⊎ ((rest : List A) × (given ≡ x ∷ rest) × AllBut may_miss all rest)
