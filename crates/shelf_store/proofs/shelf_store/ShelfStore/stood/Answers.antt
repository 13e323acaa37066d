use Rattle.std.proofs.Common.{◌≡◌, ◌<◌, ◌∙◌, sym, ap, Some, true, false, length, arith}
use Rattle.std.proofs.lemmas.Bool.{eqb-true}
use Rattle.std.specs.Option.{option_map}
use Rattle.std.specs.FinMap.{get}
use Rattle.std.specs.Rc.{rc_slice_items}
use Rattle.share_store.proofs.Stands.{found_from_all}
use Rattle.share_store.specs.Shares.{Shares, ShareKey}
use Rattle.shelf_store.specs.Known.{known}
use Rattle.shelf_store.specs.SizeLaws.{some_as}
use Rattle.shelf_store.specs.Standing.{standing, IsHonest}
use Rattle.shelf_store.specs.declared.doubt.Doubt.{Doubt}
use Rattle.shelf_store.proofs.Doubts.{key_of, same_key, at_known, elsewhere, other_key}
use Rattle.shelf_store.proofs.shelf_store.ShelfStore.stood.Given.{Over}
use Rattle.shelf_store.proofs.shelf_store.ShelfStore.stood.Goals as goal
use Rattle.shelf_store.proofs.shelf_store.ShelfStore.stood.Goals.{in-Some+else-is_of, in_default, In_ok-bytes}

-- what the shelf gave, where the change in doubt is of another share
read : (g : Over) → (c : In_ok-bytes g) → IsHonest c.args.self.now → option_map rc_slice_items c.in_ok-bytes.field-0 ≡ get (standing c.args.self.now) (c.args.index, c.args.number)
read g c h =
    let self = c.args.self.now in
    let key : ShareKey = (c.args.index, c.args.number) in
    let other : (x : Doubt) → self.doubt ≡ Some x → key ≡ key_of x → ⊥ =
    elim c.match-self.branch [
      | in-Some+else-is_of w ↦ other_key self.doubt w.in-Some.doubt c.args.index c.args.number w.in-Some.is (λ p. let yes : w.is_of.result ≡ true = w.is_of.ensures.1 p in let no : w.is_of.result ≡ false = w.if-is_of.false in cc)
      | in_default w ↦ λ x is same. w.in_default.not-Some x is
    ] in
    let given = c.in_ok-bytes.ensures.given h in
    given.2 ∙ sym (elsewhere self.doubt key other given.0) ∙ ap (λ (m : Shares). get m key) (self.in_step.left h given.0 given.1)

pub returns-then-is_of-clause-given : goal.returns-then-is_of-clause-given
returns-then-is_of-clause-given g c h =
    let key : ShareKey = (c.args.index, c.args.number) in
    c.in_ok-lent.ensures.same
    ∙ sym (at_known c.args.self.now.doubt c.in-Some.doubt key (g.H.Shelf.shares c.args.self.now.shelf) c.in-Some.is (same_key c.args.index c.args.number c.in-Some.doubt (c.is_of.ensures.0 c.if-is_of.true)))

pub returns-in_default-2-clause-given : goal.returns-in_default-2-clause-given
returns-in_default-2-clause-given g c h = sym (ap (option_map rc_slice_items) c.in_default-2.is) ∙ read g (goal.at.returns-in_default-2-clause-given g c).In_ok-bytes h

pub returns-clause-given : goal.returns-clause-given
returns-clause-given g c h = sym (ap (option_map rc_slice_items) c.in-Some-2.is) ∙ read g (goal.at.returns-clause-given g c).In_ok-bytes h

-- no share has no bytes
pub returns-then-is_empty-clause-given : goal.returns-then-is_empty-clause-given
returns-then-is_empty-clause-given g c h =
    let self = c.args.self.now in
    let found : get (standing self) (c.args.index, c.args.number) ≡ Some (rc_slice_items c.in-Some-2.bytes) =
    sym (read g (goal.at.returns-then-is_empty-clause-given g c).In_ok-bytes h) ∙ ap (option_map rc_slice_items) c.in-Some-2.is in
    let some : 0 < length (rc_slice_items c.in-Some-2.bytes) =
    found_from_all (standing self) (some_as (known self.sizes) (standing self) (self.in_step.sizes h) self.sizes.some) (c.args.index, c.args.number) (rc_slice_items c.in-Some-2.bytes) found in
    let none : length c.deref.result.now ≡ 0 = eqb-true (length c.deref.result.now) 0 (sym c.is_empty.ensures ∙ c.if-is_empty.true) in
    absurd (omega (arith, some, none, c.deref.ensures.len))
