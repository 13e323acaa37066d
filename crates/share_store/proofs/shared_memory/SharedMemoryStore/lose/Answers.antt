use Rattle.std.proofs.Common.{◌++◌, ◌∷◌, [], List, None, ap, ◌∙◌, append_assoc}
use Rattle.share_store.specs.Changes.{ChangeMade, changes_made, next_batch, script_of}
use Rattle.share_store.proofs.Along.{along_tells}
use Rattle.share_store.proofs.shared_memory.SharedMemoryStore.lose.Goals as goal

pub returns-in_err-lost-clause-told : goal.returns-in_err-lost-clause-told
returns-in_err-lost-clause-told c shared = along_tells _ _ _ (c.in_err-lost.ensures.same ∙ c.in_ok-others_come.ensures.done)

pub returns-clause-told : goal.returns-clause-told
returns-clause-told c shared =
    let one : ChangeMade = ((c.args.index, c.args.number), None) in
    let batch : List ChangeMade = next_batch (script_of c.args.self.now.others.items) in
    let was : List ChangeMade = changes_made c.args.self.now.changes.items in
    along_tells was (changes_made c.lose_change.new.self.changes.items) (batch ++ one ∷ [])
    (c.in_ok-lost.ensures.done ∙ ap (λ (l : List ChangeMade). l ++ one ∷ []) c.in_ok-others_come.ensures.done ∙ append_assoc was batch (one ∷ []))
