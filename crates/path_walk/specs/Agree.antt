-- Looks that agree.
use Rattle.std.specs.Prelude.{◌≡◌, ⊤, List, All}
use Rattle.caps.specs.declared.cap.Cap.{Cap}
use Rattle.caps.specs.declared.cap.Cap.TheVariants.{Chk, Lit, DirChk, DirLit, ChkVerify, DirChkVerify}
use Rattle.path_walk.specs.Walk.{FileLookup}

-- they give the same for the fields of a stored directory
abbrev pub GivesSameAt : FileLookup → FileLookup → Cap → Type 0
GivesSameAt gives other (Chk fields) = ⊤
GivesSameAt gives other (Lit bytes) = ⊤
GivesSameAt gives other (DirChk fields) = gives fields ≡ other fields
GivesSameAt gives other (DirLit bytes) = ⊤
GivesSameAt gives other (ChkVerify fields) = ⊤
GivesSameAt gives other (DirChkVerify fields) = ⊤

-- and for each of the caps
abbrev pub GiveSameOn : FileLookup → FileLookup → List Cap → Type 0
GiveSameOn gives other caps = All (GivesSameAt gives other) caps
