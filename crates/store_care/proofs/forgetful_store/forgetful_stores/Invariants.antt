use Rattle.std.proofs.Common.{◌≡◌, vec_len}
use Rattle.store_care.proofs.forgetful_store.forgetful_stores.Given as goal

-- so many stores were made
abbrev pub invariant-loop-server : goal.invariant-loop-server
invariant-loop-server l = vec_len l.stores ≡ l._server
