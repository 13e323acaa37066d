-- Walks from a cap down the names of a path (Tahoe-LAFS's webapi document, on the names behind a directory's cap).
use Rattle.std.specs.Prelude.{ℕ, List, [], ◌∷◌, Option, Some, None, option_map, Result, Ok, Err}
use Rattle.caps.specs.Fields.{ReadValue}
use Rattle.caps.specs.declared.cap.Cap.{Cap}
use Rattle.caps.specs.declared.cap.Cap.TheVariants.{Chk, Lit, DirChk, DirLit, ChkVerify, DirChkVerify}
use Rattle.dir_codec.specs.declared.entry.Entry.{Entry}
use Rattle.dir_codec.specs.Find.{child_named}
use Rattle.dir_codec.specs.Reading.{children}
use Rattle.path_walk.specs.declared.fault.WalkFault.{WalkFault}
use Rattle.path_walk.specs.declared.fault.WalkFault.TheVariants.{NoChild, NotDirectory, NotEnoughShares}

-- the bytes that read fields give, or none
abbrev pub FileLookup : Type 0
FileLookup = ReadValue → Option (List ℕ)

-- the value, or else a fault
abbrev pub or_walk_fault : {A : Type 0} → WalkFault → Option A → Result A WalkFault
or_walk_fault fault (Some x) = Ok x
or_walk_fault fault None = Err fault

-- what f makes of the value, if there is one
abbrev pub then_on : {A B : Type 0} → (A → Result B WalkFault) → Result A WalkFault → Result B WalkFault
then_on f (Ok x) = f x
then_on f (Err fault) = Err fault

-- the bytes of the directory that a cap reads
abbrev pub directory_bytes : FileLookup → Cap → Result (List ℕ) WalkFault
directory_bytes gives (Chk fields) = Err NotDirectory
directory_bytes gives (Lit bytes) = Err NotDirectory
directory_bytes gives (DirChk fields) = or_walk_fault NotEnoughShares (gives fields)
directory_bytes gives (DirLit bytes) = Ok bytes
directory_bytes gives (ChkVerify fields) = Err NotDirectory
directory_bytes gives (DirChkVerify fields) = Err NotDirectory

-- the cap under a name among entries
abbrev pub cap_named : List ℕ → List Entry → Option Cap
cap_named name entries = option_map (λ (entry : Entry). entry.cap) (child_named name entries)

-- the child of that name in the directory whose text these bytes are
unfoldable pub child_in : List ℕ → List ℕ → Result Cap WalkFault
child_in name bytes = then_on (λ entries. or_walk_fault (NoChild name) (cap_named name entries)) (or_walk_fault NotDirectory (children bytes))

-- the child of that name in the directory that a cap reads
abbrev pub child_below : FileLookup → Cap → List ℕ → Result Cap WalkFault
child_below gives cap name = then_on (child_in name) (directory_bytes gives cap)

-- the cap that the names lead to, or the fault of the first step that fails
abbrev pub walked : FileLookup → Cap → List (List ℕ) → Result Cap WalkFault
walked gives cap [] = Ok cap
walked gives cap (name ∷ more) = then_on (λ child. walked gives child more) (child_below gives cap name)

-- what f lists of the child, if there is one
abbrev pub listed_below : (Cap → List Cap) → Result Cap WalkFault → List Cap
listed_below f (Ok child) = f child
listed_below f (Err fault) = []

-- the caps that a walk meets: the one it begins at, and each child that it goes on to, the last one too
abbrev pub met : FileLookup → Cap → List (List ℕ) → List Cap
met gives cap [] = cap ∷ []
met gives cap (name ∷ more) = cap ∷ listed_below (λ child. met gives child more) (child_below gives cap name)
