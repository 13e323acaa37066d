use Rattle.std.proofs.Common.{ap, sym, ◌∙◌}
use Rattle.share_store.specs.Shares.{bytes_of}
use Rattle.share_store.proofs.Sizes.{bytes-empty}
use Rattle.share_store.proofs.Stands.{empty_has_none}
use Rattle.share_store.proofs.mem_store.MemStore.new.Goals as goal

pub invariant_of-result-clause-summed : goal.invariant_of-result-clause-summed
invariant_of-result-clause-summed c = sym (ap bytes_of c.new.ensures ∙ bytes-empty)

pub invariant_of-result-clause-some : goal.invariant_of-result-clause-some
invariant_of-result-clause-some c = empty_has_none _ c.new.ensures
