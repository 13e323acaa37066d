-- What a store tells of its past.
use Rattle.std.specs.Prelude.{◌≡◌, ◌⊎◌, List, ◌++◌, Option, Some}
use Rattle.std.specs.List.{AllByRecursion}
use Rattle.share_store.specs.Shares.{Shares}

-- what a crash, or another's look, might have found in it so far, the oldest first; none of a store that doesn't tell
abbrev pub History : Type 0
History = Option (List Shares)

-- one of these two
abbrev pub IsEither : Shares → Shares → Shares → Type 0
IsEither a b c = (c ≡ a) ⊎ (c ≡ b)

-- What was told stays, and what is told besides has P.
abbrev pub GoesOnBy : (Shares → Type 0) → History → History → Type 0
GoesOnBy P old new = (before : List Shares) → old ≡ Some before → (more : List Shares) × ((new ≡ Some (before ++ more)) × AllByRecursion P more)
