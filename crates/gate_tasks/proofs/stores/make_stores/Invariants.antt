use Rattle.std.proofs.Common.{◌≡◌, All, vec_len}
use Rattle.std.specs.Prelude.{map, replicate}
use Rattle.share_store.specs.declared.mem_store.MemStore.{MemStore}
use Rattle.gate_tasks.specs.Stores.{fresh}
use Rattle.gate_tasks.proofs.StoreLists.{state_of}
use Rattle.gate_tasks.proofs.stores.make_stores.Given as goal

-- so many stores were made
abbrev pub invariant-loop-server : goal.invariant-loop-server
invariant-loop-server l = record {
  count : vec_len l.stores ≡ l._server;
  empty : All (λ (store : MemStore). store.held ≡ 0) l.stores.items;
  fresh : map state_of l.stores.items ≡ replicate l._server (fresh l.room);
}
