use Rattle.share_store.proofs.Parts.{Passed}
use Rattle.share_store.proofs.share_map.ShareMap.nth.Given as goal

-- what stands before the indexes that are left
abbrev pub invariant-loop-index : goal.invariant-loop-index
invariant-loop-index g l = Passed g.B.ShareValue.bytes_in l.fn.self.indexes.entries l.index-iterator l.before l.at
