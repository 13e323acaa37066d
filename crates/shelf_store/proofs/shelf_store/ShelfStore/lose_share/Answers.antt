use Rattle.std.proofs.Common.{◌≡◌, Err, not, refl, sym, ap, subst, ◌∙◌}
use Rattle.std.specs.Prelude.{IsTrue}
use Rattle.std.specs.Option.{option_map}
use Rattle.std.specs.FinMap.{get, remove, contains_key}
use Rattle.std.specs.Rc.{rc_slice_items}
use Rattle.share_store.specs.Shares.{Shares}
use Rattle.share_store.specs.declared.fault.StoreFault.TheVariants.{NoMemory}
use Rattle.shelf_store.specs.Known.{known}
use Rattle.shelf_store.specs.Sizes.{sizes_of}
use Rattle.shelf_store.specs.Standing.{standing, IsHonest}
use Rattle.shelf_store.proofs.Changes.{CrashesTo, IsTold, crash_none, crash_left, crash_read, crash_counted, read_stands, looked, refused, crash_told, failed_step, failed_stands, done_step, done_stands, quiet_step, quiet_stands}
use Rattle.shelf_store.proofs.Forgetting.{err_not}
use Rattle.shelf_store.proofs.Sizes.{lost_as}
use Rattle.shelf_store.proofs.Steps.{same_but_lost, remove_none, is_in}
use Rattle.shelf_store.proofs.shelf_store.ShelfStore.lose_share.Given.{Over}
use Rattle.shelf_store.proofs.shelf_store.ShelfStore.lose_share.Goals as goal
use Rattle.shelf_store.proofs.shelf_store.ShelfStore.lose_share.Goals.{After-is_none, After-stood, After-remove}

-- whether the share stands, by the index
there : (g : Over) → (c : After-is_none g) → IsHonest c.args.self.now → contains_key (standing c.args.self.now) (c.args.index, c.args.number) ≡ not c.is_none.result
there g c h = is_in (known c.args.self.now.sizes) (standing c.args.self.now) (c.args.self.now.in_step.sizes h) (c.args.index, c.args.number) (not c.is_none.result) c.get.result (sym c.is_none.ensures) c.get.ensures

-- what a crash may leave once the share was read, and no more
read : (g : Over) → (c : After-stood g) → CrashesTo c.args.self.now c.stood.new.self.shelf (remove (standing c.args.self.now) (c.args.index, c.args.number))
read g c = crash_read c.args.self.now c.settle.ensures.back c.stood.ensures.reads

-- the shelf was told to take it away
told : (g : Over) → (c : After-remove g)
    → IsTold c.args.self.now c.stood.new.self c.remove.new.self (c.args.index, c.args.number) (option_map rc_slice_items c.in-Ok.before) (λ (m : Shares). remove m (c.args.index, c.args.number)) (remove (standing c.args.self.now) (c.args.index, c.args.number))
told g c = record {
  settled = looked c.in_ok-settle.ensures.up c.settle.ensures.back c.stood.ensures.reads;
  found = λ h. ap (λ (m : Shares). get m (c.args.index, c.args.number)) (sym (c.settle.ensures.back.stands h)) ∙ sym (c.in-Ok.ensures.given (subst IsTrue (sym c.settle.ensures.back.honest) h));
  only_there = same_but_lost (c.args.index, c.args.number);
  makes = λ h. refl;
  same_honest = c.remove.ensures.honest;
  crash = c.remove.ensures.crash;
  stands = c.remove.ensures.stands;
  narrows = g.met.H.Shelf.narrows;
  keeps = g.met.H.Shelf.keeps;
}

pub returns-then-is_none-clause-done : goal.returns-then-is_none-clause-done
returns-then-is_none-clause-done g c =
    let there_is = there g (goal.at.returns-then-is_none-clause-done g c).After-is_none in
    record {
      answer = λ h. sym (there_is h ∙ ap not c.if-is_none.true);
      shares = λ h. sym (remove_none _ _ (there_is h ∙ ap not c.if-is_none.true));
      err = λ h. tt;
      crash = crash_none c.args.self.now;
    }

pub returns-in_err-settle-clause-done : goal.returns-in_err-settle-clause-done
returns-in_err-settle-clause-done g c = refused c.from_residual.result (err_not _ c.from_residual.result c.from_residual.ensures.1) c.settle.ensures.back.stands (crash_left c.args.self.now c.settle.ensures.back)

pub returns-in-Err-NoMemory-clause-done : goal.returns-in-Err-NoMemory-clause-done
returns-in-Err-NoMemory-clause-done g c = refused (Err NoMemory) tt (read_stands c.settle.ensures.back c.stood.ensures.reads) (read g (goal.at.returns-in-Err-NoMemory-clause-done g c).After-stood)

pub returns-in-Err-Failed-clause-done : goal.returns-in-Err-Failed-clause-done
returns-in-Err-Failed-clause-done g c =
    let counts = c.refuse.ensures.counts in
    refused (Err c.refuse.result) tt (λ h. counts.stands ∙ read_stands c.settle.ensures.back c.stood.ensures.reads h) (crash_counted c.args.self.now counts.shelf (read g (goal.at.returns-in-Err-Failed-clause-done g c).After-stood))

pub returns-in-Ok-remove-clause-done : goal.returns-in-Ok-remove-clause-done
returns-in-Ok-remove-clause-done g c =
    let at = goal.at.returns-in-Ok-remove-clause-done g c in
    record {
      answer = λ h. sym (there g at.After-is_none h ∙ ap not c.if-is_none.false);
      shares = done_stands (told g at.After-remove) c.in-Ok-remove.ensures.done;
      err = λ h. tt;
      crash = crash_told (told g at.After-remove);
    }

pub invariant_of-self : goal.invariant_of-self
invariant_of-self g c =
    record {
      in_step = done_step (told g (goal.at.invariant_of-self g c).After-remove) c.in-Ok-remove.ensures.done
          (λ m found is. ap sizes_of c.remove-in-Ok-remove.ensures.shares ∙ lost_as (known c.stood.new.self.sizes) m (c.args.index, c.args.number) is);
    }

pub returns-in-Err-NoMemory-remove-clause-done : goal.returns-in-Err-NoMemory-remove-clause-done
returns-in-Err-NoMemory-remove-clause-done g c =
    let was_told = told g (goal.at.returns-in-Err-NoMemory-remove-clause-done g c).After-remove in
    refused (Err NoMemory) tt (quiet_stands was_told (c.in-Err-NoMemory-remove.ensures.no_memory (ap Err c.in-Err-NoMemory-remove.field-0-is))) (crash_told was_told)

pub invariant_of-self-in-Err-NoMemory-remove : goal.invariant_of-self-in-Err-NoMemory-remove
invariant_of-self-in-Err-NoMemory-remove g c =
    record { in_step = quiet_step (told g (goal.at.invariant_of-self-in-Err-NoMemory-remove g c).After-remove) (c.in-Err-NoMemory-remove.ensures.no_memory (ap Err c.in-Err-NoMemory-remove.field-0-is)) refl }

pub returns-in-Err-Failed-remove-clause-done : goal.returns-in-Err-Failed-remove-clause-done
returns-in-Err-Failed-remove-clause-done g c =
    let counts = c.refuse-in-Err-Failed-remove.ensures.counts in
    let was_told = told g (goal.at.returns-in-Err-Failed-remove-clause-done g c).After-remove in
    refused (Err c.refuse-in-Err-Failed-remove.result) tt (λ h. counts.stands ∙ failed_stands was_told h) (crash_counted c.args.self.now counts.shelf (crash_told was_told))

pub invariant_of-self-in-Err-Failed-remove : goal.invariant_of-self-in-Err-Failed-remove
invariant_of-self-in-Err-Failed-remove g c = record { in_step = failed_step (told g (goal.at.invariant_of-self-in-Err-Failed-remove g c).After-remove) refl }
