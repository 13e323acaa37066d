-- What a repair keeps of a grid over honest stores.
use Rattle.std.specs.Prelude.{◌≡◌, ◌⊎◌, ℕ, List, Some, None}
use Rattle.std.specs.Rc.{rc_slice_items}
use Rattle.share_store.specs.Shares.{ShareKey}
use Rattle.grid.specs.GridState.{GridState, stood}
use Rattle.share_repair.specs.Files.{Verifies}
use Rattle.share_repair.specs.declared.judging.Judged.{Judged}

-- each string that stood stands still, but for what is a good share of no file under this storage index
pub record KeepsGood (index : List ℕ) (old new : GridState) : Type 0 where
  pub kept : (server : ℕ) (key : ShareKey) (s : List ℕ) → stood old server key ≡ Some s → (key.0 ≡ index → Verifies key.1 s) → stood new server key ≡ Some s

-- it is what stands there; for private clauses
abbrev pub IsStandingShare : GridState → List ℕ → Judged → Type 0
IsStandingShare grid index judged = stood grid judged.server (index, judged.number) ≡ Some (rc_slice_items judged.bytes)

-- nothing was changed but that this may be gone, if it is a good share of no file; for private clauses
pub record LosesAtMost (index : List ℕ) (judged : Judged) (old new : GridState) : Type 0 where
  pub each : (server : ℕ) (key : ShareKey) → (stood new server key ≡ stood old server key)
      ⊎ ((stood new server key ≡ None) × (server ≡ judged.server) × (key ≡ (index, judged.number)) × ¬ (Verifies judged.number (rc_slice_items judged.bytes)))
