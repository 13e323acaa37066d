-- What is known of a walk over stores of which nothing is known.
use Rattle.std.specs.Prelude.{◌≡◌, ◌⊎◌, ℕ, List, [], ◌∷◌, Ok, Err}
use Rattle.caps.specs.declared.cap.Cap.{Cap}
use Rattle.caps.specs.declared.cap.Cap.TheVariants.{Chk, Lit, DirChk, DirLit, ChkVerify, DirChkVerify}
use Rattle.file_shares.specs.Bound.{Bound}
use Rattle.path_walk.specs.Walk.{child_in}
use Rattle.path_walk.specs.declared.fault.WalkFault.{WalkFault}
use Rattle.path_walk.specs.declared.fault.WalkFault.TheVariants.{NotDirectory, NotEnoughShares}

-- the bytes are a directory cap's: bound to its fields, or those that stand in it
abbrev pub AreBytesOf : Cap → List ℕ → Type 0
AreBytesOf (Chk fields) bytes = ⊥
AreBytesOf (Lit own) bytes = ⊥
AreBytesOf (DirChk fields) bytes = Bound fields bytes
AreBytesOf (DirLit own) bytes = bytes ≡ own
AreBytesOf (ChkVerify fields) bytes = ⊥
AreBytesOf (DirChkVerify fields) bytes = ⊥

-- bytes of the cap are a directory text, and the child has that name there
pub record IsChild (cap : Cap) (name : List ℕ) (child : Cap) : Type 0 where
  pub bytes : List ℕ
  pub of_cap : AreBytesOf cap bytes
  pub found : child_in name bytes ≡ Ok child

-- the names lead from the cap to the end, from child to child
abbrev pub NamesLeadTo : Cap → List (List ℕ) → Cap → Type 0
NamesLeadTo cap [] end = end ≡ cap
NamesLeadTo cap (name ∷ more) end = (child : Cap) × (IsChild cap name child × NamesLeadTo child more end)

-- why there is no step from a cap: no bytes of it were found, they have no such child, or it reads no directory
abbrev pub IsStop : Cap → List ℕ → WalkFault → Type 0
IsStop (Chk fields) name fault = fault ≡ NotDirectory
IsStop (Lit own) name fault = fault ≡ NotDirectory
IsStop (DirChk fields) name fault = (fault ≡ NotEnoughShares) ⊎ ((bytes : List ℕ) × (Bound fields bytes × (child_in name bytes ≡ Err fault)))
IsStop (DirLit own) name fault = child_in name own ≡ Err fault
IsStop (ChkVerify fields) name fault = fault ≡ NotDirectory
IsStop (DirChkVerify fields) name fault = fault ≡ NotDirectory

-- the first names lead to a cap from which there is no step by the next
abbrev pub WalkStops : Cap → List (List ℕ) → WalkFault → Type 0
WalkStops cap [] fault = ⊥
WalkStops cap (name ∷ more) fault = IsStop cap name fault ⊎ ((child : Cap) × (IsChild cap name child × WalkStops child more fault))
