-- What is seen of the shares in an engine.
use Rattle.std.specs.Prelude.{◌≡◌, ◌<◌, ℕ, suc, Bool, true, false, List, [], ◌∷◌, ◌++◌, Option, None, Some, is_some, IsSome, Contains}
use Rattle.std.specs.List.{range_with_len, AllZip}
use Rattle.std.specs.FinMap.{get}
use Rattle.folder_shelf.specs.Names.{IsKeyInRange}
use Rattle.share_store.specs.Shares.{Shares}
use Rattle.share_store.specs.History.{History}
use Rattle.share_store.specs.Shared.{StoodAmid}
use Rattle.redis_store.specs.Keys.{key}
use Rattle.redis_store.specs.Answers.{numbered_share}
use Rattle.redis_store.specs.Engine.{EngineValue, EngineState, nothing, of_bytes, of_other_kind, is_something, StoodUnder}

-- ---- shares

-- the share that a value is: bytes, one at least
abbrev pub value_share : EngineValue → Option (List ℕ)
value_share nothing = None
value_share (of_bytes []) = None
value_share (of_bytes (byte ∷ bytes)) = Some (byte ∷ bytes)
value_share of_other_kind = None

-- These are the shares of a grid that stand in a state: what stands under the keys of numbers below as many as it
-- makes, where that is a share, and nothing else.
pub record AreSharesOf (grid : List ℕ) (made : ℕ) (state : EngineState) (shares : Shares) : Type 0 where
  pub each : (index : List ℕ) (number : ℕ) → IsKeyInRange index number → number < made
      → get shares (index, number) ≡ value_share (state (key grid index number))
  pub none_else : (index : List ℕ) (number : ℕ) → IsSome (get shares (index, number))
      → IsKeyInRange index number × (number < made)

-- In these states nothing but shares stands under a grid's keys.
abbrev pub HaveSharesAlone : List ℕ → List EngineState → Type 0
HaveSharesAlone grid states = (state : EngineState) → Contains states state
    → (index : List ℕ) (number : ℕ) → IsKeyInRange index number
    → is_something (state (key grid index number)) ≡ is_some (value_share (state (key grid index number)))

-- ---- what is seen in an exchange

-- In some of these states each of these values stood under the key of its number, from 0 on: each at a moment of its
-- own.
abbrev pub AreSeenUnder : List EngineState → List ℕ → List ℕ → ℕ → List EngineValue → Type 0
AreSeenUnder states grid index count values =
    AllZip (λ number value. StoodUnder states (key grid index number) value) (range_with_len 0 count) values

-- the shares that values are, each with its number, from this one on
abbrev pub shares_seen : ℕ → List EngineValue → List (ℕ × List ℕ)
shares_seen number [] = []
shares_seen number (value ∷ values) = numbered_share number (value_share value) ++ shares_seen (suc number) values

-- a number, if it is so
abbrev pub number_if : ℕ → Bool → List ℕ
number_if number false = []
number_if number true = number ∷ []

-- the numbers, from this one on, under which something stands
abbrev pub numbers_seen : ℕ → List EngineValue → List ℕ
numbers_seen number [] = []
numbers_seen number (value ∷ values) = number_if number (is_something value) ++ numbers_seen (suc number) values

-- ---- a store that tells these states

-- A storage index and each of so many numbers are a share's.
abbrev pub AreKeysInRange : List ℕ → ℕ → Type 0
AreKeysInRange index made = (number : ℕ) → number < made → IsKeyInRange index number

-- Each state of an exchange stood at some moment of a call of a store that tells of its past, as a grid's shares do.
abbrev pub AreToldAmid : History → History → List ℕ → ℕ → List EngineState → Type 0
AreToldAmid old new grid made states = (state : EngineState) → Contains states state
    → (c : Shares) × StoodAmid old new c × AreSharesOf grid made state c
