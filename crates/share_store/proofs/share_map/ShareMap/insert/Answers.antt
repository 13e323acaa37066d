use Rattle.std.proofs.Common.{◌∙◌, ap, sym, subst, Some, None, refl, cond}
use Rattle.std.specs.Prelude.{is_some}
use Rattle.std.specs.Option.{option_copied_mut, option_map}
use Rattle.std.specs.BTreeMap as tree
use Rattle.std.specs.FinMap as finite
use Rattle.share_store.specs.Stored.{IsKept, shares_in}
use Rattle.share_store.proofs.Levels.{by_bytes, put_there, get_under}
use Rattle.share_store.proofs.Edits.{stands_under, kept_written, stays_not_empty, changed_under, changed_first, unwritten, is_there, on_err, kept_put, not_empty_at}
use Rattle.share_store.proofs.Parts.{nothing_before}
use Rattle.share_store.proofs.share_map.ShareMap.insert.Goals as goal

pub invariant_of-self : goal.invariant_of-self
invariant_of-self g c =
    let m = c.args.self.now in
    let w = c.get_mut.follows.holds c.insert.new.self in
    let found = sym (ap option_copied_mut (sym c.in-Some.is) ∙ c.get_mut.ensures.value) in
    record {
      kept = kept_written m.indexes (c.get_mut.follows.lender c.insert.new.self) c.args.index c.insert.new.self m.kept w.0 w.4 c.insert.ensures.ordered
          (stays_not_empty c.in-Some.numbers.now c.insert.new.self c.insert.result (λ before. cond (is_some before) 0 1) (stands_under m.indexes c.args.index c.in-Some.numbers.now m.kept found) c.insert.ensures.len c.insert.ensures.err);
      counted = nothing_before g.B.ShareValue.bytes_in (c.get_mut.follows.lender c.insert.new.self).entries;
    }

pub returns-in_err-_before-in-Some-clause-err : goal.returns-in_err-_before-in-Some-clause-err
returns-in_err-_before-in-Some-clause-err g c =
    let m = c.args.self.now in
    let n = c.get_mut.follows.lender c.insert.new.self in
    let w = c.get_mut.follows.holds c.insert.new.self in
    let found = sym (ap option_copied_mut (sym c.in-Some.is) ∙ c.get_mut.ensures.value) in
    let kept = kept_written m.indexes n c.args.index c.insert.new.self m.kept w.0 w.4 c.insert.ensures.ordered
    (stays_not_empty c.in-Some.numbers.now c.insert.new.self c.insert.result (λ before. cond (is_some before) 0 1) (stands_under m.indexes c.args.index c.in-Some.numbers.now m.kept found) c.insert.ensures.len c.insert.ensures.err) in
    on_err c.from_residual.result (unwritten g.B.ShareValue.bytes_in m.indexes n c.args.index c.in-Some.numbers.now c.insert.new.self m.kept kept found (w.3 (is_there _ _ found)).0 c.in_err-_before-in-Some.ensures.err)

pub returns-in_ok-_before-in-Some-clause-ok : goal.returns-in_ok-_before-in-Some-clause-ok
returns-in_ok-_before-in-Some-clause-ok g c =
    let m = c.args.self.now in
    let n = c.get_mut.follows.lender c.insert.new.self in
    let w = c.get_mut.follows.holds c.insert.new.self in
    let found = sym (ap option_copied_mut (sym c.in-Some.is) ∙ c.get_mut.ensures.value) in
    let kept = kept_written m.indexes n c.args.index c.insert.new.self m.kept w.0 w.4 c.insert.ensures.ordered
    (stays_not_empty c.in-Some.numbers.now c.insert.new.self c.insert.result (λ before. cond (is_some before) 0 1) (stands_under m.indexes c.args.index c.in-Some.numbers.now m.kept found) c.insert.ensures.len c.insert.ensures.err) in
    let changed = changed_under m.indexes n c.args.index c.args.number (Some c.args.value) c.in-Some.numbers.now c.insert.new.self found (w.3 (is_there _ _ found)).0 c.in_ok-_before-in-Some.ensures.updates.0 in
    put_there m.indexes n c.args.index c.args.number (Some c.args.value) changed g.B.ShareValue.bytes_in m.kept kept c.args.value refl

pub invariant_of-self-in-None : goal.invariant_of-self-in-None
invariant_of-self-in-None g c =
    let m = c.get_mut.follows.lender-at-none in
    let kept : IsKept m = subst IsKept (sym c.get_mut.follows.holds-at-none) c.args.self.now.kept in
    let last = c.insert-in-None-2 in
    record {
      kept = kept_put m last.new.self c.args.index c.insert-in-None.new.self last.result kept last.ensures.entries last.ensures.err last.ensures.ordered c.insert-in-None.ensures.ordered
          (not_empty_at c.insert-in-None.new.self c.args.number c.args.value c.in_ok-_none-in-None.ensures.updates.1);
      counted = nothing_before g.B.ShareValue.bytes_in last.new.self.entries;
    }

pub returns-in_ok-_nothing-in-None-clause-ok : goal.returns-in_ok-_nothing-in-None-clause-ok
returns-in_ok-_nothing-in-None-clause-ok g c =
    let m = c.get_mut.follows.lender-at-none in
    let same = c.get_mut.follows.holds-at-none in
    let kept_m : IsKept m = subst IsKept (sym same) c.args.self.now.kept in
    let last = c.insert-in-None-2 in
    let kept = kept_put m last.new.self c.args.index c.insert-in-None.new.self last.result kept_m last.ensures.entries last.ensures.err last.ensures.ordered c.insert-in-None.ensures.ordered
    (not_empty_at c.insert-in-None.new.self c.args.number c.args.value c.in_ok-_none-in-None.ensures.updates.1) in
    let absent = ap (λ n. tree.get by_bytes n c.args.index) same ∙ sym (ap option_copied_mut (sym c.in-None.is) ∙ c.get_mut.ensures.value) in
    let changed = changed_first m last.new.self c.args.index c.args.number (Some c.args.value) c.new-numbers.result c.insert-in-None.new.self absent c.new-numbers.ensures.empty c.in_ok-_nothing-in-None.ensures.updates.0 c.in_ok-_none-in-None.ensures.updates.0 in
    put_there m last.new.self c.args.index c.args.number (Some c.args.value) changed g.B.ShareValue.bytes_in kept_m kept c.args.value refl
    ∙ ap (λ n. finite.insert (shares_in g.B.ShareValue.bytes_in n) (c.args.index, c.args.number) (g.B.ShareValue.bytes_in c.args.value)) same

pub invariant_of-self-in-Break-branch-2 : goal.invariant_of-self-in-Break-branch-2
invariant_of-self-in-Break-branch-2 g c = record {
  kept = subst IsKept (sym c.get_mut.follows.holds-at-none) c.args.self.now.kept;
  counted = nothing_before g.B.ShareValue.bytes_in c.get_mut.follows.lender-at-none.entries;
}

pub returns-in_err-_before-in-Some-clause-absent : goal.returns-in_err-_before-in-Some-clause-absent
returns-in_err-_before-in-Some-clause-absent g c =
    let m = c.args.self.now in
    let found = sym (ap option_copied_mut (sym c.in-Some.is) ∙ c.get_mut.ensures.value) in
    on_err c.from_residual.result (get_under g.B.ShareValue.bytes_in m.indexes m.kept c.args.index c.args.number (Some c.in-Some.numbers.now) found
    ∙ ap (option_map g.B.ShareValue.bytes_in) c.in_err-_before-in-Some.ensures.absent)

pub returns-in_err-_none-in-None-clause-absent : goal.returns-in_err-_none-in-None-clause-absent
returns-in_err-_none-in-None-clause-absent g c =
    let m = c.args.self.now in
    let absent = sym (ap option_copied_mut (sym c.in-None.is) ∙ c.get_mut.ensures.value) in
    on_err c.from_residual-in_err-_none-in-None.result (get_under g.B.ShareValue.bytes_in m.indexes m.kept c.args.index c.args.number None absent)

pub returns-in_err-_nothing-in-None-clause-absent : goal.returns-in_err-_nothing-in-None-clause-absent
returns-in_err-_nothing-in-None-clause-absent g c =
    let m = c.args.self.now in
    let absent = sym (ap option_copied_mut (sym c.in-None.is) ∙ c.get_mut.ensures.value) in
    on_err c.from_residual-in_err-_nothing-in-None.result (get_under g.B.ShareValue.bytes_in m.indexes m.kept c.args.index c.args.number None absent)
