use Rattle.std.proofs.Common.{◌≡◌, ◌<◌, Some, Ok, Err, length, false, refl, sym, ap, subst, ◌∙◌, arith}
use Rattle.std.specs.Prelude.{IsTrue, IfSome}
use Rattle.std.specs.Option.{option_map}
use Rattle.std.specs.FinMap.{get, insert}
use Rattle.std.specs.Rc.{rc_slice_items}
use Rattle.share_store.specs.Shares.{Shares}
use Rattle.share_store.specs.declared.fault.StoreFault.TheVariants.{NoMemory, Down}
use Rattle.share_store.specs.Stored.{blank}
use Rattle.share_store.specs.Toggle.{toggled, has_byte, with_toggle}
use Rattle.shelf_store.specs.Known.{known}
use Rattle.shelf_store.specs.Standing.{standing, IsHonest}
use Rattle.shelf_store.proofs.Changes.{CrashesTo, IsTold, crash_none, crash_left, crash_read, crash_counted, read_stands, looked, refused, crash_told, failed_step, failed_stands, done_step, done_stands, quiet_step, quiet_stands}
use Rattle.shelf_store.proofs.Forgetting.{err_not}
use Rattle.shelf_store.proofs.Sizes.{changed_as}
use Rattle.shelf_store.proofs.Steps.{same_but_put, toggles_as, no_failure, byte_there, no_byte, none_no_byte, toggles_none}
use Rattle.shelf_store.proofs.shelf_store.ShelfStore.flip_bit.Given.{Over}
use Rattle.shelf_store.proofs.shelf_store.ShelfStore.flip_bit.Goals as goal
use Rattle.shelf_store.proofs.shelf_store.ShelfStore.flip_bit.Goals.{In_default, Then-place-size, After-whole, In-Some-2, In_ok-changed, After-put}

-- no share stands there
none : (g : Over) → (c : In_default g) → IsHonest c.args.self.now → has_byte (standing c.args.self.now) (c.args.index, c.args.number) c.args.place ≡ false
none g c h = none_no_byte (known c.args.self.now.sizes) _ _ c.args.place (c.args.self.now.in_step.sizes h) (sym c.get.ensures ∙ ap (option_map blank) c.in_default.is)

-- one stands that ends before this byte
past_end : (g : Over) → (c : Then-place-size g) → IsHonest c.args.self.now → has_byte (standing c.args.self.now) (c.args.index, c.args.number) c.args.place ≡ false
past_end g c h = no_byte (known c.args.self.now.sizes) _ _ c.args.place c.in-Some.size (c.args.self.now.in_step.sizes h) (sym c.get.ensures ∙ ap (option_map blank) c.in-Some.is) c.if-place-size.true

-- what a crash may leave once the share was read, and no more
read : (g : Over) → (c : After-whole g) → CrashesTo c.args.self.now c.whole.new.self.shelf (with_toggle (standing c.args.self.now) (c.args.index, c.args.number) c.args.place)
read g c = crash_read c.args.self.now c.settle.ensures.back c.whole.ensures.reads

-- what was read has this byte
within : (g : Over) → (c : In-Some-2 g) → c.args.place < length (rc_slice_items c.in-Some-2.before)
within g c =
    let long : length (rc_slice_items c.in-Some-2.before) ≡ c.in-Some.size = subst (λ o. IfSome o (λ b. length (rc_slice_items b) ≡ c.in-Some.size)) c.in-Some-2.is c.in_ok-before.ensures.sized in
    omega (arith, long, c.if-place-size.false)

-- and is as long once its bit is changed
as_long : (g : Over) → (c : In_ok-changed g) → length (rc_slice_items c.in_ok-changed.changed) ≡ length (rc_slice_items c.in-Some-2.before)
as_long g c = ap length c.in_ok-changed.ensures ∙ c.toggle_laws.ensures.keeps_length c.as_slice.result.now c.args.place ∙ ap length c.as_slice.ensures.value

-- the shelf was told to put it so
told : (g : Over) → (c : After-put g) → c.args.place < length (rc_slice_items c.in-Some-2.before)
    → IsTold c.args.self.now c.whole.new.self c.put.new.self (c.args.index, c.args.number) (Some (rc_slice_items c.in-Some-2.before))
    (λ (m : Shares). insert m (c.args.index, c.args.number) (rc_slice_items c.in_ok-changed.changed)) (with_toggle (standing c.args.self.now) (c.args.index, c.args.number) c.args.place)
told g c lt =
    let calm : c.whole.new.self.failures ≡ c.settle.new.self.failures =
    no_failure c.whole.result c.in-Some-2.before c.settle.new.self.failures c.whole.new.self.failures (c.in_ok-before.was ∙ ap Ok c.in-Some-2.is) c.whole.ensures.failed.1 c.whole.ensures.rises in
    let found : IsHonest c.args.self.now → get (standing c.args.self.now) (c.args.index, c.args.number) ≡ Some (rc_slice_items c.in-Some-2.before) =
    λ h. ap (λ (m : Shares). get m (c.args.index, c.args.number)) (sym (c.settle.ensures.back.stands h)) ∙ sym (c.in_ok-before.ensures.given (subst IsTrue (sym c.settle.ensures.back.honest) h) calm) ∙ ap (option_map rc_slice_items) c.in-Some-2.is in
    record {
      settled = looked c.in_ok-settle.ensures.up c.settle.ensures.back c.whole.ensures.reads;
      found = found;
      only_there = λ m. same_but_put (c.args.index, c.args.number) m (rc_slice_items c.in_ok-changed.changed);
      makes = λ h. toggles_as _ _ c.args.place (rc_slice_items c.in-Some-2.before) (rc_slice_items c.in_ok-changed.changed) (found h) lt (c.in_ok-changed.ensures ∙ ap (λ l. toggled l c.args.place) c.as_slice.ensures.value);
      same_honest = c.put.ensures.honest;
      crash = c.put.ensures.crash;
      stands = c.put.ensures.stands;
      narrows = g.met.H.Shelf.narrows;
      keeps = g.met.H.Shelf.keeps;
    }

pub returns-in_default-clause-done : goal.returns-in_default-clause-done
returns-in_default-clause-done g c = record {
  answer = λ h. sym (none g c h);
  shares = λ h. sym (toggles_none _ _ c.args.place (none g c h));
  err = λ h. tt;
  crash = crash_none c.args.self.now;
}

pub returns-then-place-size-clause-done : goal.returns-then-place-size-clause-done
returns-then-place-size-clause-done g c = record {
  answer = λ h. sym (past_end g c h);
  shares = λ h. sym (toggles_none _ _ c.args.place (past_end g c h));
  err = λ h. tt;
  crash = crash_none c.args.self.now;
}

pub returns-in_err-settle-clause-done : goal.returns-in_err-settle-clause-done
returns-in_err-settle-clause-done g c = refused c.from_residual.result (err_not _ c.from_residual.result c.from_residual.ensures.1) c.settle.ensures.back.stands (crash_left c.args.self.now c.settle.ensures.back)

pub whole-requires : goal.whole-requires
whole-requires g c = ap (λ i. get (known i) (c.args.index, c.args.number)) c.settle.ensures.back.sizes ∙ sym c.get.ensures ∙ ap (option_map blank) c.in-Some.is

pub returns-in_err-before-clause-done : goal.returns-in_err-before-clause-done
returns-in_err-before-clause-done g c =
    refused c.from_residual-in_err-before.result (err_not _ c.from_residual-in_err-before.result c.from_residual-in_err-before.ensures.1) (read_stands c.settle.ensures.back c.whole.ensures.reads) (read g (goal.at.returns-in_err-before-clause-done g c).After-whole)

pub returns-in_default-2-clause-done : goal.returns-in_default-2-clause-done
returns-in_default-2-clause-done g c = refused (Err Down) tt (read_stands c.settle.ensures.back c.whole.ensures.reads) (read g (goal.at.returns-in_default-2-clause-done g c).After-whole)

pub returns-in_err-changed-clause-done : goal.returns-in_err-changed-clause-done
returns-in_err-changed-clause-done g c =
    refused c.from_residual-in_err-changed.result (err_not _ c.from_residual-in_err-changed.result c.from_residual-in_err-changed.ensures.1) (read_stands c.settle.ensures.back c.whole.ensures.reads) (read g (goal.at.returns-in_err-changed-clause-done g c).After-whole)

pub with_bit_changed-requires : goal.with_bit_changed-requires
with_bit_changed-requires g c = omega (arith, within g (goal.at.with_bit_changed-requires g c).In-Some-2, ap length c.as_slice.ensures.value)

pub put-requires : goal.put-requires
put-requires g c = let at = goal.at.put-requires g c in omega (arith, within g at.In-Some-2, as_long g at.In_ok-changed)

pub returns-in-Ok-clause-done : goal.returns-in-Ok-clause-done
returns-in-Ok-clause-done g c =
    let at = goal.at.returns-in-Ok-clause-done g c in
    let was_told = told g at.After-put (within g at.In-Some-2) in
    record {
      answer = λ h. sym (byte_there _ _ c.args.place (rc_slice_items c.in-Some-2.before) (was_told.found h) (within g at.In-Some-2));
      shares = done_stands was_told c.in-Ok.ensures.done;
      err = λ h. tt;
      crash = crash_told was_told;
    }

pub invariant_of-self : goal.invariant_of-self
invariant_of-self g c =
    let at = goal.at.invariant_of-self g c in
    record {
      in_step = done_step (told g at.After-put (within g at.In-Some-2)) c.in-Ok.ensures.done
          (λ m found is. is ∙ sym (changed_as m (c.args.index, c.args.number) (rc_slice_items c.in-Some-2.before) (rc_slice_items c.in_ok-changed.changed) found (as_long g at.In_ok-changed)));
    }

pub returns-in-Err-NoMemory-clause-done : goal.returns-in-Err-NoMemory-clause-done
returns-in-Err-NoMemory-clause-done g c =
    let at = goal.at.returns-in-Err-NoMemory-clause-done g c in
    let was_told = told g at.After-put (within g at.In-Some-2) in
    refused (Err NoMemory) tt (quiet_stands was_told (c.in-Err-NoMemory.ensures.no_memory (ap Err c.in-Err-NoMemory.field-0-is))) (crash_told was_told)

pub invariant_of-self-in-Err-NoMemory : goal.invariant_of-self-in-Err-NoMemory
invariant_of-self-in-Err-NoMemory g c =
    let at = goal.at.invariant_of-self-in-Err-NoMemory g c in
    record { in_step = quiet_step (told g at.After-put (within g at.In-Some-2)) (c.in-Err-NoMemory.ensures.no_memory (ap Err c.in-Err-NoMemory.field-0-is)) refl }

pub returns-in-Err-Failed-clause-done : goal.returns-in-Err-Failed-clause-done
returns-in-Err-Failed-clause-done g c =
    let at = goal.at.returns-in-Err-Failed-clause-done g c in
    let was_told = told g at.After-put (within g at.In-Some-2) in
    refused (Err c.refuse.result) tt (λ h. c.refuse.ensures.counts.stands ∙ failed_stands was_told h) (crash_counted c.args.self.now c.refuse.ensures.counts.shelf (crash_told was_told))

pub invariant_of-self-in-Err-Failed : goal.invariant_of-self-in-Err-Failed
invariant_of-self-in-Err-Failed g c = let at = goal.at.invariant_of-self-in-Err-Failed g c in record { in_step = failed_step (told g at.After-put (within g at.In-Some-2)) refl }
