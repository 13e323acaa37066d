use Rattle.std.proofs.Common.{◌≡◌, ◌++◌, take}
use Rattle.share_store.specs.Changes.{changes_made, later_batches, script_of}
use Rattle.share_store.proofs.shared_memory.SharedMemory.others_come.Given as goal

abbrev pub invariant-loop-change : goal.invariant-loop-change
invariant-loop-change l = record {
  done : changes_made l.self.changes.items ≡ changes_made l.fn.self.changes.items ++ take l.change-index (changes_made l.change-items);
  others : script_of l.self.others.items ≡ later_batches (script_of l.fn.self.others.items);
}
