-- What others will do to a store in memory.
use Rattle.std.specs.Prelude.{List}
use Rattle.share_store.specs.Changes.{ChangeMade, script_of}
use Rattle.share_store.specs.declared.shared_memory.SharedMemory.{SharedMemory}

-- the batches to come
abbrev pub script_left : SharedMemory → List (List ChangeMade)
script_left store = script_of store.others.items
