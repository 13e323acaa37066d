-- What is below a walk as the walk's own; for private clauses.
use Rattle.std.specs.Prelude.{ℕ, List, Result, Ok, Err}
use Rattle.file_shares.specs.declared.fault.ReadFault.{ReadFault}
use Rattle.file_shares.specs.declared.fault.ReadFault.TheVariants.{NotEnoughShares as ReadNotEnough, NoMemory as ReadNoMemory}
use Rattle.caps.specs.declared.cap.Cap.{Cap}
use Rattle.dir_codec.specs.declared.finder.Sought.{Sought}
use Rattle.dir_codec.specs.declared.finder.Sought.TheVariants.{Child, NoChild as SoughtNone, NoDirectory}
use Rattle.path_walk.specs.declared.fault.WalkFault.{WalkFault}
use Rattle.path_walk.specs.declared.fault.WalkFault.TheVariants.{NoChild, NotDirectory, NotEnoughShares, NoMemory}

-- of a read
abbrev pub fault_of_read : ReadFault → WalkFault
fault_of_read ReadNotEnough = NotEnoughShares
fault_of_read ReadNoMemory = NoMemory

-- of what was found under a name in a text: what is none is no directory
abbrev pub child_of_sought : List ℕ → Sought → Result Cap WalkFault
child_of_sought name (Child cap) = Ok cap
child_of_sought name SoughtNone = Err (NoChild name)
child_of_sought name NoDirectory = Err NotDirectory
