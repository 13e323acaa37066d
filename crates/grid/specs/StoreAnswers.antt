-- What a store's answer says of its server; for private clauses.
use Rattle.std.specs.Prelude.{ℕ, Result, Ok, Err}
use Rattle.share_store.specs.declared.fault.StoreFault.{StoreFault}
use Rattle.share_store.specs.declared.fault.StoreFault.TheVariants.{Full as StoreFull, Down as StoreDown, NoMemory as StoreNoMemory}
use Rattle.grid.specs.declared.fault.GridFault.{GridFault}
use Rattle.grid.specs.declared.fault.GridFault.TheVariants.{Full, Down, NoMemory}

-- the same answer, where a refusal names the server
abbrev pub answer_of : {T : Type 0} → ℕ → Result T StoreFault → Result T GridFault
answer_of server (Ok x) = Ok x
answer_of server (Err StoreFull) = Err (Full server)
answer_of server (Err StoreDown) = Err (Down server)
answer_of server (Err StoreNoMemory) = Err NoMemory
