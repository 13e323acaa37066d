use Rattle.std.proofs.Common.{ap, sym, ◌∙◌, None, List}
use Rattle.std.specs.FinMap.{empty, remove}
use Rattle.share_store.specs.Shares.{Shares}
use Rattle.share_shelf.specs.Kept.{told_of, after_changes}
use Rattle.share_shelf.specs.declared.mem_shelf.Change.{Change}
use Rattle.share_shelf.proofs.Moments.{after_more}
use Rattle.share_shelf.proofs.mem_shelf.MemShelf.tell_remove.Goals as goal

pub invariant_of-self-2 : goal.invariant_of-self-2
invariant_of-self-2 c =
    let change : Change = record { index = c.args.index; number = c.args.number; bytes = None } in
    let past : List Change = c.args.self.now.changes.items in
    record {
      told = c.remove-bytes.ensures.shares
          ∙ ap (λ (n : Shares). remove n (c.args.index, c.args.number)) c.args.self.now.told
          ∙ sym (after_more past change empty)
          ∙ ap (λ (l : List Change). after_changes (told_of l) empty) (sym c.in_ok-push.ensures.items);
    }
