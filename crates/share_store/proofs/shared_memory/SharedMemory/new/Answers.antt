use Rattle.std.proofs.Common.{List, [], false, sym, ap, subst}
use Rattle.share_store.specs.Changes.{ChangeMade, changes_made}
use Rattle.share_store.specs.Shared.{IsShared}
use Rattle.share_store.proofs.Along.{told_along, along_shared}
use Rattle.share_store.proofs.shared_memory.SharedMemory.new.Goals as goal

pub returns-clause-shared : goal.returns-clause-shared
returns-clause-shared c = subst (λ (l : List ChangeMade). IsShared false (told_along l)) (sym (ap changes_made c.new-2.ensures.items)) (along_shared [])
