use Rattle.std.proofs.Common.{◌≡◌, ◌++◌, ◌∷◌, [], List, Some, slice_get, sym, ap, ◌∙◌, take, append_assoc}
use Rattle.std.proofs.lemmas.Option.{slice_get-get_or}
use Rattle.share_store.specs.Changes.{ChangeMade, change_made, changes_made, script_of}
use Rattle.share_store.specs.declared.shared_memory.ShareChange.{ShareChange}
use Rattle.share_store.proofs.Along.{along_tells, take_change}
use Rattle.share_store.proofs.shared_memory.SharedMemory.others_come.Goals as goal

pub loop-change-preserved : goal.loop-change-preserved
loop-change-preserved c =
    let batch : List ShareChange = c.deref-change-items.result.now in
    let i = c.loop-change.change-index in
    let one : ShareChange = c.change-item.result in
    let at : slice_get batch i ≡ Some one = slice_get-get_or batch i one c.loop-change-test.true ∙ ap Some (sym c.change-item.is) in
    record {
      done = c.in_ok-change.ensures.done
          ∙ ap (λ (l : List ChangeMade). l ++ change_made one ∷ []) c.loop-change.invariant.done
          ∙ append_assoc _ (take i (changes_made batch)) (change_made one ∷ [])
          ∙ ap (λ (l : List ChangeMade). changes_made c.args.self.now.changes.items ++ l) (sym (take_change batch i one at));
      others = ap (λ o. script_of o.items) c.in_ok-change.ensures.others ∙ c.loop-change.invariant.others;
    }

pub returns-in_err-change-clause-told : goal.returns-in_err-change-clause-told
returns-in_err-change-clause-told c shared = along_tells _ _ _ (c.in_err-change.ensures.same ∙ c.loop-change.invariant.done)

pub returns-clause-told : goal.returns-clause-told
returns-clause-told c shared = along_tells _ _ _ c.loop-change.invariant.done
