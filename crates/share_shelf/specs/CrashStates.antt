-- What a crash may leave of a shelf.
use Rattle.std.specs.Prelude.{◌≡◌, ◌≤◌, ◌⊎◌, ℕ}
use Rattle.std.specs.Coded.{Coded-set, coded×, coded_ℕ, coded_list}
use Rattle.std.specs.FinMap as finite
use Rattle.share_store.specs.Shares.{Shares, key_cmp}
pub use Rattle.share_store.specs.History.{IsEither}

module _ {H : Type 0} (moment : H → ℕ) (left_since : H → ℕ → Shares → Type 0) where
  -- a crash now leaves these shares and nothing else
  abbrev pub Keeps : H → Shares → Type 0
  Keeps shelf m = (c : Shares) → left_since shelf (moment shelf) c → c ≡ m

  -- A crash at any moment from old to new leaves shares that have P. What was said of a run that began earlier goes on.
  pub record LeavesOnly (old new : H) (P : Shares → Type 0) : Type 0 where
    pub later : moment old ≤ moment new
    pub since : (t : ℕ) (c : Shares) → t ≤ moment old → left_since new t c → left_since old t c ⊎ P c

  -- what a crash now might leave, after this change
  abbrev pub IsChanged : H → (Shares → Shares) → Shares → Type 0
  IsChanged shelf change c = (d : Shares) × left_since shelf (moment shelf) d × (c ≡ change d)

  -- what a crash now might leave, before this change or after it
  abbrev pub MayBeChanged : H → (Shares → Shares) → Shares → Type 0
  MayBeChanged shelf change c = (d : Shares) × left_since shelf (moment shelf) d × IsEither d (change d) c

  -- no moment passed, and a crash leaves nothing else
  pub record IsQuiet (old new : H) : Type 0 where
    pub same_moment : moment new ≡ moment old
    pub nothing_else : (t : ℕ) (c : Shares) → left_since new t c → left_since old t c

-- an equation of shares has one proof
pub shares-set : (a b : Shares) → IsProp (a ≡ b)
shares-set a b = Coded-set (finite.code {R = key_cmp} (coded× (coded_list coded_ℕ) coded_ℕ) (coded_list coded_ℕ)) a b
