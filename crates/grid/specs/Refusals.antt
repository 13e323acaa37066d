-- Which refusals a call gives.
use Rattle.grid.specs.declared.fault.GridFault.{GridFault}
use Rattle.grid.specs.declared.fault.GridFault.TheVariants.{Full, Down, NoServer, BadImage, ReadFailed, WriteFailed, NoMemory}

-- a refusal of a call that puts shares
abbrev pub IsPutRefusal : GridFault → Type 0
IsPutRefusal (Full s) = Unit {0}
IsPutRefusal (Down s) = Unit {0}
IsPutRefusal NoServer = ⊥
IsPutRefusal (BadImage place) = ⊥
IsPutRefusal ReadFailed = ⊥
IsPutRefusal WriteFailed = ⊥
IsPutRefusal NoMemory = Unit {0}

-- a refusal of a call that changes one share
abbrev pub IsChangeRefusal : GridFault → Type 0
IsChangeRefusal (Full s) = ⊥
IsChangeRefusal (Down s) = Unit {0}
IsChangeRefusal NoServer = Unit {0}
IsChangeRefusal (BadImage place) = ⊥
IsChangeRefusal ReadFailed = ⊥
IsChangeRefusal WriteFailed = ⊥
IsChangeRefusal NoMemory = Unit {0}

-- a refusal of a call that only looks; for private clauses
abbrev pub IsLookRefusal : GridFault → Type 0
IsLookRefusal (Full s) = ⊥
IsLookRefusal (Down s) = Unit {0}
IsLookRefusal NoServer = ⊥
IsLookRefusal (BadImage place) = ⊥
IsLookRefusal ReadFailed = ⊥
IsLookRefusal WriteFailed = ⊥
IsLookRefusal NoMemory = Unit {0}

-- a refusal of a call that writes an image
abbrev pub IsWriteRefusal : GridFault → Type 0
IsWriteRefusal (Full s) = ⊥
IsWriteRefusal (Down s) = Unit {0}
IsWriteRefusal NoServer = ⊥
IsWriteRefusal (BadImage place) = Unit {0}
IsWriteRefusal ReadFailed = ⊥
IsWriteRefusal WriteFailed = Unit {0}
IsWriteRefusal NoMemory = Unit {0}

-- a refusal of a call that only reads bytes; for private clauses
abbrev pub IsReaderRefusal : GridFault → Type 0
IsReaderRefusal (Full s) = ⊥
IsReaderRefusal (Down s) = ⊥
IsReaderRefusal NoServer = ⊥
IsReaderRefusal (BadImage place) = ⊥
IsReaderRefusal ReadFailed = Unit {0}
IsReaderRefusal WriteFailed = ⊥
IsReaderRefusal NoMemory = Unit {0}

-- a refusal of a call that reads a part of an image; for private clauses
abbrev pub IsPartRefusal : GridFault → Type 0
IsPartRefusal (Full s) = ⊥
IsPartRefusal (Down s) = ⊥
IsPartRefusal NoServer = ⊥
IsPartRefusal (BadImage place) = Unit {0}
IsPartRefusal ReadFailed = Unit {0}
IsPartRefusal WriteFailed = ⊥
IsPartRefusal NoMemory = Unit {0}

-- a refusal of a call that reads an image
abbrev pub IsReadRefusal : GridFault → Type 0
IsReadRefusal (Full s) = Unit {0}
IsReadRefusal (Down s) = Unit {0}
IsReadRefusal NoServer = ⊥
IsReadRefusal (BadImage place) = Unit {0}
IsReadRefusal ReadFailed = Unit {0}
IsReadRefusal WriteFailed = ⊥
IsReadRefusal NoMemory = Unit {0}
