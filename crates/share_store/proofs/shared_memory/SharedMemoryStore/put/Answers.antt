use Rattle.std.proofs.Common.{◌++◌, ◌∷◌, [], List, Some, IsSome, sym, ap, subst, ◌∙◌, append_assoc}
use Rattle.std.specs.FinMap.{empty, get}
use Rattle.std.specs.Rc.{rc_slice_items}
use Rattle.share_store.specs.Shares.{Shares, ShareKey}
use Rattle.share_store.specs.Changes.{ChangeMade, changes_made, left_by, next_batch, script_of}
use Rattle.share_store.proofs.Along.{along_amid, along_tells, left_by-push, stands_put}
use Rattle.share_store.proofs.shared_memory.SharedMemoryStore.put.Goals as goal

pub returns-in_err-put-clause-told : goal.returns-in_err-put-clause-told
returns-in_err-put-clause-told c shared = along_tells _ _ _ (c.in_err-put.ensures.same ∙ c.in_ok-others_come.ensures.done)

pub returns-clause-told : goal.returns-clause-told
returns-clause-told c shared =
    let one : ChangeMade = ((c.args.index, c.args.number), Some (rc_slice_items c.args.bytes)) in
    let batch : List ChangeMade = next_batch (script_of c.args.self.now.others.items) in
    let was : List ChangeMade = changes_made c.args.self.now.changes.items in
    along_tells was (changes_made c.put_change.new.self.changes.items) (batch ++ one ∷ [])
    (c.in_ok-put.ensures.done ∙ ap (λ (l : List ChangeMade). l ++ one ∷ []) c.in_ok-others_come.ensures.done ∙ append_assoc was batch (one ∷ []))

pub returns-clause-stood : goal.returns-clause-stood
returns-clause-stood c shared =
    let key : ShareKey = (c.args.index, c.args.number) in
    let one : ChangeMade = (key, Some (rc_slice_items c.args.bytes)) in
    let batch : List ChangeMade = next_batch (script_of c.args.self.now.others.items) in
    let was : List ChangeMade = changes_made c.args.self.now.changes.items in
    let mid : List ChangeMade = changes_made c.others_come.new.self.changes.items in
    let now : List ChangeMade = changes_made c.put_change.new.self.changes.items in (
      left_by now empty,
      along_amid was now (batch ++ one ∷ []) (c.in_ok-put.ensures.done ∙ ap (λ (l : List ChangeMade). l ++ one ∷ []) c.in_ok-others_come.ensures.done ∙ append_assoc was batch (one ∷ [])),
      subst (λ (m : Shares). IsSome (get m key)) (sym (ap (λ (l : List ChangeMade). left_by l empty) c.in_ok-put.ensures.done ∙ left_by-push empty mid one)) (stands_put (left_by mid empty) key (rc_slice_items c.args.bytes)),
    )
