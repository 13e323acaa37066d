-- Looks that agree on what requests look at.
use Rattle.std.specs.Prelude.{◌≡◌, ⊤, List, All}
use Rattle.caps.specs.declared.cap.Cap.{Cap}
use Rattle.caps.specs.declared.cap.Cap.TheVariants.{Chk, Lit, DirChk, DirLit, ChkVerify, DirChkVerify}
use Rattle.caps.specs.StorageIndex.{index_of}
use Rattle.caps.specs.Fields.{ReadValue}
use Rattle.chk_file.specs.Look.{Look}

-- the same bytes for read fields, and the same shares under their storage index
abbrev pub AgreesFor : Look → Look → ReadValue → Type 0
AgreesFor look other f = (look.gives f ≡ other.gives f) × (look.stood (index_of f.key) ≡ other.stood (index_of f.key))

-- the same for what a cap names
abbrev pub AgreesAt : Look → Look → Cap → Type 0
AgreesAt look other (Chk fields) = AgreesFor look other fields
AgreesAt look other (Lit bytes) = ⊤
AgreesAt look other (DirChk fields) = AgreesFor look other fields
AgreesAt look other (DirLit bytes) = ⊤
AgreesAt look other (ChkVerify fields) = look.stood fields.si ≡ other.stood fields.si
AgreesAt look other (DirChkVerify fields) = look.stood fields.si ≡ other.stood fields.si

-- and for each of the caps
abbrev pub AgreeOn : Look → Look → List Cap → Type 0
AgreeOn look other caps = All (AgreesAt look other) caps
