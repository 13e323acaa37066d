use Rattle.std.proofs.Common.{◌∙◌, ap, sym, Some, None, refl, arith, length}
use Rattle.std.specs.Option.{option_map, option_copied_mut}
use Rattle.std.specs.BTreeMap as tree
use Rattle.share_store.specs.Stored.{shares_in}
use Rattle.share_store.proofs.Levels.{by_bytes, get_under, lost_there, Changed}
use Rattle.share_store.proofs.Edits.{stands_under, kept_written, kept_removed, changed_under, changed_last, is_there, absent_lost, left_some}
use Rattle.share_store.proofs.Parts.{nothing_before}
use Rattle.share_store.proofs.share_map.ShareMap.remove.Goals as goal
use Rattle.share_store.proofs.share_map.ShareMap.remove.Goals.{then-is_empty+in-Some-1, then-is_empty+in-None-1, else-is_empty}

pub returns-in_err-numbers-clause-value : goal.returns-in_err-numbers-clause-value
returns-in_err-numbers-clause-value g c =
    let m = c.args.self.now in
    let absent = sym (ap option_copied_mut (sym c.in_err-numbers.was) ∙ c.get_mut.ensures.value) in
    ap (option_map g.B.ShareValue.bytes_in) c.from_residual.ensures ∙ sym (get_under g.B.ShareValue.bytes_in m.indexes m.kept c.args.index.now c.args.number None absent)

pub returns-in_err-numbers-clause-shares : goal.returns-in_err-numbers-clause-shares
returns-in_err-numbers-clause-shares g c =
    let m = c.args.self.now in
    let absent = sym (ap option_copied_mut (sym c.in_err-numbers.was) ∙ c.get_mut.ensures.value) in
    ap (shares_in g.B.ShareValue.bytes_in) c.get_mut.follows.holds-at-none
    ∙ lost_there m.indexes m.indexes c.args.index.now c.args.number None (absent_lost m.indexes c.args.index.now c.args.number absent) g.B.ShareValue.bytes_in m.kept m.kept refl

pub invariant_of-self-in-Break-branch-2 : goal.invariant_of-self-in-Break-branch-2
invariant_of-self-in-Break-branch-2 g c =
    let m = c.args.self.now in
    let w = c.get_mut.follows.holds c.remove.new.self in
    let found = sym (ap option_copied_mut (sym c.in_ok-numbers.was) ∙ c.get_mut.ensures.value) in
    let some = stands_under m.indexes c.args.index.now c.in_ok-numbers.numbers.now m.kept found in
    record {
      kept = kept_written m.indexes (c.get_mut.follows.lender c.remove.new.self) c.args.index.now c.remove.new.self m.kept w.0 w.4 c.remove.ensures.ordered
          (omega (arith, some, ap length c.in_err-value.ensures.unchanged));
      counted = nothing_before g.B.ShareValue.bytes_in (c.get_mut.follows.lender c.remove.new.self).entries;
    }

pub returns-in_err-value-clause-value : goal.returns-in_err-value-clause-value
returns-in_err-value-clause-value g c =
    let m = c.args.self.now in
    let found = sym (ap option_copied_mut (sym c.in_ok-numbers.was) ∙ c.get_mut.ensures.value) in
    ap (option_map g.B.ShareValue.bytes_in) (c.from_residual-in_err-value.ensures ∙ sym c.in_err-value.was ∙ c.remove.ensures.value)
    ∙ sym (get_under g.B.ShareValue.bytes_in m.indexes m.kept c.args.index.now c.args.number (Some c.in_ok-numbers.numbers.now) found)

pub returns-in_err-value-clause-shares : goal.returns-in_err-value-clause-shares
returns-in_err-value-clause-shares g c =
    let m = c.args.self.now in
    let n = c.get_mut.follows.lender c.remove.new.self in
    let w = c.get_mut.follows.holds c.remove.new.self in
    let found = sym (ap option_copied_mut (sym c.in_ok-numbers.was) ∙ c.get_mut.ensures.value) in
    let some = stands_under m.indexes c.args.index.now c.in_ok-numbers.numbers.now m.kept found in
    let kept = kept_written m.indexes n c.args.index.now c.remove.new.self m.kept w.0 w.4 c.remove.ensures.ordered (omega (arith, some, ap length c.in_err-value.ensures.unchanged)) in
    let changed = changed_under m.indexes n c.args.index.now c.args.number None c.in_ok-numbers.numbers.now c.remove.new.self found (w.3 (is_there _ _ found)).0 c.remove.ensures.updates.0 in
    lost_there m.indexes n c.args.index.now c.args.number None changed g.B.ShareValue.bytes_in m.kept kept refl

pub invariant_of-self-then-is_empty : goal.invariant_of-self-then-is_empty
invariant_of-self-then-is_empty g c =
    let m = c.args.self.now in
    let w = c.get_mut.follows.holds c.remove.new.self in
    record {
      kept = kept_removed m.indexes (c.get_mut.follows.lender c.remove.new.self) c.remove-numbers.new.self c.args.index.now c.remove.new.self m.kept w.0 c.remove-numbers.ensures.entries c.remove-numbers.ensures.ordered;
      counted = nothing_before g.B.ShareValue.bytes_in c.remove-numbers.new.self.entries;
    }

pub invariant_of-self-else-is_empty : goal.invariant_of-self-else-is_empty
invariant_of-self-else-is_empty g c =
    let m = c.args.self.now in
    let w = c.get_mut.follows.holds c.remove.new.self in
    record {
      kept = kept_written m.indexes (c.get_mut.follows.lender c.remove.new.self) c.args.index.now c.remove.new.self m.kept w.0 w.4 c.remove.ensures.ordered
          (left_some c.remove.new.self c.is_empty.result c.is_empty.ensures c.if-is_empty.false);
      counted = nothing_before g.B.ShareValue.bytes_in (c.get_mut.follows.lender c.remove.new.self).entries;
    }

pub returns-clause-value : goal.returns-clause-value
returns-clause-value g c =
    let m = c.args.self.now in
    let found = sym (ap option_copied_mut (sym c.in_ok-numbers.was) ∙ c.get_mut.ensures.value) in
    ap (option_map g.B.ShareValue.bytes_in) (sym c.in_ok-value.was ∙ c.remove.ensures.value)
    ∙ sym (get_under g.B.ShareValue.bytes_in m.indexes m.kept c.args.index.now c.args.number (Some c.in_ok-numbers.numbers.now) found)

pub returns-clause-shares : goal.returns-clause-shares
returns-clause-shares g c =
    let m = c.args.self.now in
    let written = c.get_mut.follows.lender c.remove.new.self in
    let last = c.if-is_empty.self in
    let found = sym (ap option_copied_mut (sym c.in_ok-numbers.was) ∙ c.get_mut.ensures.value) in
    let inner = c.remove.ensures.updates.0 in
    let outer = ((c.get_mut.follows.holds c.remove.new.self).3 (is_there _ _ found)).0 in
    let lost = λ (changed : Changed m.indexes last.indexes c.args.index.now c.args.number None). lost_there m.indexes last.indexes c.args.index.now c.args.number None changed g.B.ShareValue.bytes_in m.kept last.kept refl in
    elim c.if-is_empty.branch [
      | then-is_empty+in-Some-1 v ↦ lost (changed_last m.indexes written last.indexes c.args.index.now c.args.number c.in_ok-numbers.numbers.now c.remove.new.self found (c.is_empty.ensures.0 v.if-is_empty.true)
          outer (λ q. ap (λ s. tree.get by_bytes s.indexes q) v.self-is ∙ v.remove-numbers.ensures.updates.0 q) inner)
      | then-is_empty+in-None-1 v ↦ lost (changed_last m.indexes written last.indexes c.args.index.now c.args.number c.in_ok-numbers.numbers.now c.remove.new.self found (c.is_empty.ensures.0 v.if-is_empty.true)
          outer (λ q. ap (λ s. tree.get by_bytes s.indexes q) v.self-is ∙ v.remove-numbers.ensures.updates.0 q) inner)
      | else-is_empty v ↦ lost (changed_under m.indexes last.indexes c.args.index.now c.args.number None c.in_ok-numbers.numbers.now c.remove.new.self found (λ q. ap (λ s. tree.get by_bytes s.indexes q) v.self-is ∙ outer q) inner)
    ]

pub invariant_of-self-clause-counted : goal.invariant_of-self-clause-counted
invariant_of-self-clause-counted g c = nothing_before g.B.ShareValue.bytes_in c.get_mut.follows.lender-at-none.entries
