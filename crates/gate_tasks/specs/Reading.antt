-- What reading a line takes of a reader; for private clauses.
use Rattle.std.specs.Prelude.{◌≡◌, ℕ, List, [], ◌++◌, length, Bool, true, false, Option, Result, Ok, Err, IfSome, OnSome}
use Rattle.std.specs.Io.KnownBytes.{Consumes, IsAtEnd}
use Rattle.gate_tasks.specs.Lines.{Line, LacksLf, line_bytes, fits, is_within}
use Rattle.gate_tasks.specs.declared.lines.Part.{Part}
use Rattle.gate_tasks.specs.declared.lines.Part.TheVariants.{More, Ended, AtEnd}
use Rattle.gate_tasks.specs.declared.fault.ScriptFault.{ScriptFault}
use Rattle.gate_tasks.specs.declared.fault.ScriptFault.TheVariants.{BadLine, ReadFailed, WriteFailed, NoMemory, TooLong}

-- the bytes begin with a line
pub record BeginsWithLine (bytes : List ℕ) (line : Line) : Type 0 where
  pub rest : List ℕ
  pub parts : bytes ≡ line_bytes line ++ rest
  pub before : LacksLf line.bytes

-- a part of a line, which the bytes are where no LF stands in them
pub record IsLinePart (bytes : List ℕ) (part : Line) : Type 0 where
  pub begins : BeginsWithLine bytes part
  pub whole : part.ended ≡ false → bytes ≡ part.bytes

-- bytes without an LF were taken
pub record TakesPart (old new : Option (List ℕ)) : Type 0 where
  pub part : List ℕ
  pub taken : Consumes old new part
  pub lacks : LacksLf part

-- the bytes go on with a line that is over a limit, of which `before` was taken
pub record IsLineTooLong (read : ℕ) (before bytes : List ℕ) : Type 0 where
  pub part : Line
  pub begins : BeginsWithLine bytes part
  pub over : fits read (length (before ++ part.bytes)) part.ended ≡ false

-- a line was read
pub record ReadsLine (read : ℕ) (old new : Option (List ℕ)) (line : Line) : Type 0 where
  pub taken : Consumes old new (line_bytes line)
  pub lacks : LacksLf line.bytes
  pub last : line.ended ≡ false → OnSome old (IsAtEnd new)
  pub within : is_within read line ≡ true

-- what came of reading a line
abbrev pub LineReads : ℕ → Option (List ℕ) → Option (List ℕ) → Result Bool ScriptFault → List ℕ → Type 0
LineReads read old new (Ok ended) line = ReadsLine read old new (record { bytes = line; ended = ended })
LineReads read old new (Err (BadLine number)) line = ⊥
LineReads read old new (Err ReadFailed) line = TakesPart old new
LineReads read old new (Err WriteFailed) line = ⊥
LineReads read old new (Err NoMemory) line = TakesPart old new
LineReads read old new (Err TooLong) line = IfSome old (IsLineTooLong read [])

-- one more part of a line was read
pub record ReadsPart (read : ℕ) (old new : Option (List ℕ)) (before line : List ℕ) (ended : Bool) : Type 0 where
  pub part : List ℕ
  pub taken : Consumes old new (line_bytes (record { bytes = part; ended = ended }))
  pub joined : line ≡ before ++ part
  pub lacks : LacksLf part
  pub within : fits read (length line) ended ≡ true

-- what came of reading a part of a line
abbrev pub PartReads : ℕ → Option (List ℕ) → Option (List ℕ) → Result Part ScriptFault → List ℕ → List ℕ → Type 0
PartReads read old new (Ok More) before line = ReadsPart read old new before line false
PartReads read old new (Ok Ended) before line = ReadsPart read old new before line true
PartReads read old new (Ok AtEnd) before line = OnSome old (IsAtEnd new) × Consumes old new [] × (line ≡ before)
PartReads read old new (Err (BadLine number)) before line = ⊥
PartReads read old new (Err ReadFailed) before line = Consumes old new []
PartReads read old new (Err WriteFailed) before line = ⊥
PartReads read old new (Err NoMemory) before line = Consumes old new []
PartReads read old new (Err TooLong) before line = IfSome old (IsLineTooLong read before)
