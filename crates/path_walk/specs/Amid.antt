-- What a walk ends with where its reads see stores that others change, each read for itself.
use Rattle.std.specs.Prelude.{◌≡◌, ◌⊎◌, ⊤, ℕ, List, [], ◌∷◌, Contains, Option, Some, Result, Ok, Err}
use Rattle.grid.specs.GridState.{GridState}
use Rattle.caps.specs.Fields.{ReadValue}
use Rattle.caps.specs.StorageIndex.{index_of}
use Rattle.caps.specs.declared.cap.Cap.{Cap}
use Rattle.caps.specs.declared.cap.Cap.TheVariants.{Chk, Lit, DirChk, DirLit, ChkVerify, DirChkVerify}
use Rattle.file_shares.specs.Fit.{fit}
use Rattle.chk_file.specs.Cached.{CacheEntry}
use Rattle.chk_file.specs.Amid.{SeesReached}
use Rattle.path_walk.specs.Walk.{FileLookup, child_below}
use Rattle.path_walk.specs.declared.fault.WalkFault.{WalkFault}

-- ---- what one read gives

-- the cache has these bytes for the fields, at whichever stamp they were read
pub record IsCached (cache : List CacheEntry) (f : ReadValue) (found : Option (List ℕ)) : Type 0 where
  pub stamp : ℕ
  pub bytes : List ℕ
  pub there : Contains cache (f, (stamp, bytes))
  pub is : found ≡ Some bytes

-- What a read in a call gives: bytes that were kept before the call, or what verification finds, be it bytes or none, in a
-- row that was reached of what the call saw.
abbrev pub IsGivenAmid : List CacheEntry → GridState → GridState → ReadValue → Option (List ℕ) → Type 0
IsGivenAmid cache old new f found = IsCached cache f found ⊎ SeesReached old new (index_of f.key) (λ row. fit row f ≡ found)

-- ---- walks of which each step has a look of its own

-- at the fields of a stored directory the look gives what a read gives; of other caps nothing is read
abbrev pub GivesAt : (ReadValue → Option (List ℕ) → Type 0) → FileLookup → Cap → Type 0
GivesAt Given gives (Chk fields) = ⊤
GivesAt Given gives (Lit bytes) = ⊤
GivesAt Given gives (DirChk fields) = Given fields (gives fields)
GivesAt Given gives (DirLit bytes) = ⊤
GivesAt Given gives (ChkVerify fields) = ⊤
GivesAt Given gives (DirChkVerify fields) = ⊤

-- the child of that name, or why there is none, by such a look
pub record IsStepBy (Given : ReadValue → Option (List ℕ) → Type 0) (cap : Cap) (name : List ℕ) (result : Result Cap WalkFault) : Type 0 where
  pub gives : FileLookup
  pub given : GivesAt Given gives cap
  pub is : result ≡ child_below gives cap name

-- what is said of the child, or the fault is the result
abbrev pub StepsOn : (Cap → Result Cap WalkFault → Type 0) → Result Cap WalkFault → Result Cap WalkFault → Type 0
StepsOn Says (Ok child) result = Says child result
StepsOn Says (Err fault) result = result ≡ Err fault

-- the names lead to the result by such steps, or the first that fails has its fault
abbrev pub WalksBy : (ReadValue → Option (List ℕ) → Type 0) → Cap → List (List ℕ) → Result Cap WalkFault → Type 0
WalksBy Given cap [] result = result ≡ Ok cap
WalksBy Given cap (name ∷ more) result = (step : Result Cap WalkFault) × IsStepBy Given cap name step × StepsOn (λ child. WalksBy Given child more) step result
