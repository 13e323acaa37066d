use Rattle.std.proofs.Common.{◌≡◌, None, is_some, Err, length, not, sym, ap, ◌∙◌}
use Rattle.std.proofs.lemmas.List.{length-replicate}
use Rattle.std.specs.FinMap.{get, insert, remove, contains_key}
use Rattle.std.specs.Rc.{rc_slice_items}
use Rattle.share_store.specs.Put.{put_once}
use Rattle.share_store.specs.Shares.{Shares}
use Rattle.share_store.specs.declared.fault.StoreFault.TheVariants.{NoMemory}
use Rattle.share_store.specs.Stored.{blank}
use Rattle.shelf_store.specs.Known.{known}
use Rattle.shelf_store.specs.Sizes.{sizes_of}
use Rattle.shelf_store.specs.Standing.{standing, IsHonest}
use Rattle.shelf_store.proofs.Changes.{IsTold, crash_none, crash_left, crash_counted, crash_told, settled, refused, failed_step, failed_stands, done_step, done_stands, quiet_step, quiet_stands}
use Rattle.shelf_store.proofs.Forgetting.{err_not}
use Rattle.shelf_store.proofs.Sizes.{none_as, put_as}
use Rattle.shelf_store.proofs.Steps.{same_but_put, put_stays, put_is, put_undone, is_in, absent}
use Rattle.shelf_store.proofs.shelf_store.ShelfStore.put_share.Given.{Over}
use Rattle.shelf_store.proofs.shelf_store.ShelfStore.put_share.Goals as goal
use Rattle.shelf_store.proofs.shelf_store.ShelfStore.put_share.Goals.{Then-is_some, Else-is_some, In_ok-put, After-put-2}

-- one stands there
there : (g : Over) → (c : Then-is_some g) → IsHonest c.args.self.now → contains_key (standing c.args.self.now) (c.args.index, c.args.number) ≡ c.is_some.result
there g c h = is_in (known c.args.self.now.sizes) (standing c.args.self.now) (c.args.self.now.in_step.sizes h) (c.args.index, c.args.number) c.is_some.result c.get.result c.is_some.ensures c.get.ensures

-- none stands there
unknown : (g : Over) → (c : Else-is_some g) → get (known c.args.self.now.sizes) (c.args.index, c.args.number) ≡ None
unknown g c = absent (known c.args.self.now.sizes) (c.args.index, c.args.number) c.is_some.result c.get.result c.is_some.ensures c.get.ensures c.if-is_some.false

none : (g : Over) → (c : Else-is_some g) → IsHonest c.args.self.now → get (standing c.args.self.now) (c.args.index, c.args.number) ≡ None
none g c h = none_as (known c.args.self.now.sizes) (standing c.args.self.now) (c.args.self.now.in_step.sizes h) (c.args.index, c.args.number) (unknown g c)

-- taken out of the index again
back : (g : Over) → (c : In_ok-put g) → get (known c.args.self.now.sizes) (c.args.index, c.args.number) ≡ None → (m : Shares) → m ≡ remove (known c.put.new.self) (c.args.index, c.args.number) → m ≡ known c.settle.new.self.sizes
back g c missing m is =
    is ∙ ap (λ (m : Shares). remove m (c.args.index, c.args.number)) c.in_ok-put.ensures.ok
    ∙ put_undone (known c.settle.new.self.sizes) (c.args.index, c.args.number) (blank c.len-size.result) (ap (λ i. contains_key (known i) (c.args.index, c.args.number)) c.settle.ensures.back.sizes ∙ ap is_some missing)

-- the shelf was told to put it
told : (g : Over) → (c : After-put-2 g) → (IsHonest c.args.self.now → get (standing c.args.self.now) (c.args.index, c.args.number) ≡ None)
    → IsTold c.args.self.now c.settle.new.self c.put-2.new.self (c.args.index, c.args.number) None
    (λ (m : Shares). insert m (c.args.index, c.args.number) (rc_slice_items c.args.bytes)) (put_once (standing c.args.self.now) (c.args.index, c.args.number) (rc_slice_items c.args.bytes))
told g c missing = record {
  settled = settled c.in_ok-settle.ensures.up c.settle.ensures.back;
  found = missing;
  only_there = λ m. same_but_put (c.args.index, c.args.number) m (rc_slice_items c.args.bytes);
  makes = λ h. sym (put_is (standing c.args.self.now) (c.args.index, c.args.number) (rc_slice_items c.args.bytes) (ap is_some (missing h)));
  same_honest = c.put-2.ensures.honest;
  crash = c.put-2.ensures.crash;
  stands = c.put-2.ensures.stands;
  narrows = g.met.H.Shelf.narrows;
  keeps = g.met.H.Shelf.keeps;
}

pub returns-then-is_some-clause-done : goal.returns-then-is_some-clause-done
returns-then-is_some-clause-done g c =
    let there_is = there g (goal.at.returns-then-is_some-clause-done g c).Then-is_some in
    record {
      answer = λ h. sym (ap not (there_is h ∙ c.if-is_some.true));
      shares = λ h. sym (put_stays _ _ (rc_slice_items c.args.bytes) (there_is h ∙ c.if-is_some.true));
      err = λ h. tt;
      crash = crash_none c.args.self.now;
    }

pub returns-in_err-settle-clause-done : goal.returns-in_err-settle-clause-done
returns-in_err-settle-clause-done g c = refused c.from_residual.result (err_not _ c.from_residual.result c.from_residual.ensures.1) c.settle.ensures.back.stands (crash_left c.args.self.now c.settle.ensures.back)

pub returns-in_err-put-clause-done : goal.returns-in_err-put-clause-done
returns-in_err-put-clause-done g c = refused c.from_residual-in_err-put.result (err_not _ c.from_residual-in_err-put.result c.from_residual-in_err-put.ensures.1) c.settle.ensures.back.stands (crash_left c.args.self.now c.settle.ensures.back)

pub returns-in_err-put-clause-full_only : goal.returns-in_err-put-clause-full_only
returns-in_err-put-clause-full_only g c full h = none g (goal.at.returns-in_err-put-clause-full_only g c).Else-is_some h

pub returns-in-Ok-clause-done : goal.returns-in-Ok-clause-done
returns-in-Ok-clause-done g c =
    let at = goal.at.returns-in-Ok-clause-done g c in
    let was_told = told g at.After-put-2 (none g at.Else-is_some) in
    record {
      answer = λ h. sym (ap (λ o. not (is_some o)) (none g at.Else-is_some h));
      shares = done_stands was_told c.in-Ok.ensures.done;
      err = λ h. tt;
      crash = crash_told was_told;
    }

pub invariant_of-self-in-Ok : goal.invariant_of-self-in-Ok
invariant_of-self-in-Ok g c =
    let at = goal.at.invariant_of-self-in-Ok g c in
    let long : length (blank c.len-size.result) ≡ length (rc_slice_items c.args.bytes) = length-replicate c.len-size.result 0 ∙ c.len-size.ensures in
    record {
      in_step = done_step (told g at.After-put-2 (none g at.Else-is_some)) c.in-Ok.ensures.done
          (λ m found is. ap sizes_of c.in_ok-put.ensures.ok ∙ put_as (known c.settle.new.self.sizes) m (c.args.index, c.args.number) (blank c.len-size.result) (rc_slice_items c.args.bytes) is long);
    }

pub returns-in-Err-NoMemory-clause-done : goal.returns-in-Err-NoMemory-clause-done
returns-in-Err-NoMemory-clause-done g c =
    let at = goal.at.returns-in-Err-NoMemory-clause-done g c in
    let was_told = told g at.After-put-2 (none g at.Else-is_some) in
    refused (Err NoMemory) tt (quiet_stands was_told (c.in-Err-NoMemory.ensures.no_memory (ap Err c.in-Err-NoMemory.field-0-is))) (crash_told was_told)

pub invariant_of-self-in-Err-NoMemory : goal.invariant_of-self-in-Err-NoMemory
invariant_of-self-in-Err-NoMemory g c =
    let at = goal.at.invariant_of-self-in-Err-NoMemory g c in
    record {
      in_step = quiet_step (told g at.After-put-2 (none g at.Else-is_some)) (c.in-Err-NoMemory.ensures.no_memory (ap Err c.in-Err-NoMemory.field-0-is))
          (back g at.In_ok-put (unknown g at.Else-is_some) (known c.remove.new.self) c.remove.ensures.shares);
    }

pub returns-in-Err-Failed-clause-done : goal.returns-in-Err-Failed-clause-done
returns-in-Err-Failed-clause-done g c =
    let at = goal.at.returns-in-Err-Failed-clause-done g c in
    let was_told = told g at.After-put-2 (none g at.Else-is_some) in
    refused (Err c.refuse.result) tt (λ h. c.refuse.ensures.counts.stands ∙ failed_stands was_told h) (crash_counted c.args.self.now c.refuse.ensures.counts.shelf (crash_told was_told))

pub invariant_of-self-in-Err-Failed : goal.invariant_of-self-in-Err-Failed
invariant_of-self-in-Err-Failed g c =
    let at = goal.at.invariant_of-self-in-Err-Failed g c in
    record { in_step = failed_step (told g at.After-put-2 (none g at.Else-is_some)) (back g at.In_ok-put (unknown g at.Else-is_some) (known c.remove-in-Err-Failed.new.self) c.remove-in-Err-Failed.ensures.shares) }
