use Rattle.std.proofs.Common.{◌≡◌, refl, sym, ◌∙◌}
use Rattle.std.specs.FinMap.{remove}
use Rattle.share_store.specs.Shares.{Shares}
use Rattle.kept_store.specs.Changed.{shares_in_memory, WritesThrough}
use Rattle.kept_store.specs.declared.kept_store.KeptStore.{KeptStore}
use Rattle.kept_store.proofs.Steps.{looked_room, told, remove_none}
use Rattle.kept_store.proofs.kept_store.KeptStore.lose_share.Given.{Over}
use Rattle.kept_store.proofs.kept_store.KeptStore.lose_share.Goals as goal
use Rattle.kept_store.proofs.kept_store.KeptStore.lose_share.Goals.{After-remove}

-- the shelf was told to take it away
through : (g : Over) → (c : After-remove g) → {new : KeptStore g.row.H.Denot g.H.Shelf} → new.shelf ≡ c.remove.new.self → WritesThrough (λ (m : Shares). remove m (c.args.index, c.args.number)) c.args.self.now new
through g c same = told c.remove.new.self (λ (m : Shares). remove m (c.args.index, c.args.number)) c.if-self.false same refl c.remove.ensures.honest c.remove.ensures.crash c.remove.ensures.history

pub returns-then-not-branch-clause-done : goal.returns-then-not-branch-clause-done
returns-then-not-branch-clause-done g c =
    let none = sym (c.in_ok-has.ensures.found refl refl) ∙ c.if-not-branch.true in
    record {
      shares = c.has.ensures.looked.same_shares refl ∙ sym (remove_none (shares_in_memory c.args.self.now) (c.args.index, c.args.number) none);
      err = tt;
      room = looked_room c.args.self.now.memory c.has.new.self (c.has.ensures.looked.same_shares refl) (c.has.ensures.looked.same_room refl);
    }

pub returns-in-Ok-clause-through : goal.returns-in-Ok-clause-through
returns-in-Ok-clause-through g c = through g (goal.at.returns-in-Ok-clause-through g c).After-remove refl

pub returns-in-Err-NoMemory-clause-through : goal.returns-in-Err-NoMemory-clause-through
returns-in-Err-NoMemory-clause-through g c = through g (goal.at.returns-in-Err-NoMemory-clause-through g c).After-remove refl

pub returns-in-Err-Failed-clause-through : goal.returns-in-Err-Failed-clause-through
returns-in-Err-Failed-clause-through g c = through g (goal.at.returns-in-Err-Failed-clause-through g c).After-remove c.refuse-in-Err-Failed.ensures.shelf
