use Rattle.std.proofs.Common.{rules, ◌∙◌, ℕ, Vec, Global, sym, subst, ap}
use Rattle.std.specs.declared.rc.RcSlice.{RcSlice}
use Rattle.std.specs.Prelude.{All, Any}
use Rattle.std.specs.Rc.{rc_slice_items}
use Rattle.std.proofs.lemmas.List.Elements.{All-push}
use Rattle.share_repair.specs.Judged.{IsTheGiven}
use Rattle.share_repair.proofs.choosing.given.Goals.{in-Some+in_ok-clone+in_ok-push, in_default}
use Rattle.share_repair.proofs.choosing.given.Goals as goal

pub loop-number-preserved : goal.loop-number-preserved
loop-number-preserved c = elim c.match-first_of.branch [
  | in-Some+in_ok-clone+in_ok-push w ↦
      let P = (λ (g : ℕ × RcSlice ℕ Global). Any (IsTheGiven g.0 (rc_slice_items g.1)) c.args.judged.now) in
      let found = w.in-Some.ensures in
      subst (All P) (sym w.in_ok-push.ensures.items ∙ sym (ap (λ (v : Vec (ℕ × RcSlice ℕ Global) Global). v.items) w.given-is))
      (All-push P c.loop-number.given.items (c.loop-number.number, w.in_ok-clone.field-0) c.loop-number.invariant
      (found.0.0, w.in-Some.one.now, found.0.1, found.0.2, (found.1, search rules)))
  | in_default w ↦ subst (λ (v : Vec (ℕ × RcSlice ℕ Global) Global). All (λ (g : ℕ × RcSlice ℕ Global). Any (IsTheGiven g.0 (rc_slice_items g.1)) c.args.judged.now) v.items) (sym w.given-is) c.loop-number.invariant
]
