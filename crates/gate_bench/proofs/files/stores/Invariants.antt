use Rattle.std.proofs.Common.{◌≡◌, All}
use Rattle.share_store.specs.declared.mem_store.MemStore.{MemStore}
use Rattle.gate_bench.proofs.files.stores.Given as goal

-- each store that was made holds nothing
abbrev pub invariant-loop-server : goal.invariant-loop-server
invariant-loop-server l = All (λ (store : MemStore). store.held ≡ 0) l.stores.items
