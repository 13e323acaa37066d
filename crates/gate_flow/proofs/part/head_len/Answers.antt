use Rattle.std.proofs.Common.{◌≡◌, ◌≤◌, ◌+◌, ◌-◌, ℕ, zero, suc, List, length, take, drop, false, refl, sym, ◌∙◌, subst, arith, inl, inr, ⊎_elim}
use Rattle.http_edge.specs.Line.{ends_in_empty_line}
use Rattle.gate_flow.proofs.Blanks.{none_yet}
use Rattle.std.proofs.lemmas.Bool.Decides.{leb_tells}
use Rattle.std.proofs.lemmas.List.{length-drop, length-take-le}
use Rattle.gate_flow.proofs.part.head_len.Goals as goal

-- the bytes from a place on are as many as there are behind it
rest : (bytes : List ℕ) (end : ℕ) → length (take (length bytes - end) (drop end bytes)) ≡ length bytes - end
rest bytes end = length-take-le (length bytes - end) (drop end bytes) (omega (length-drop end bytes, arith))

-- before the first byte no line ended
none_at_first : (bytes : List ℕ) (m : ℕ) → m ≤ 0 → ends_in_empty_line (take m bytes) ≡ false
none_at_first bytes zero le = refl
none_at_first bytes (suc m) le = absurd (omega (le, arith))

pub lines-init : goal.lines-init
lines-init c = (omega arith, none_at_first c.args.bytes.now)

pub returns-then-ends_blank : goal.returns-then-ends_blank
returns-then-ends_blank c = record {
  some = omega arith;
  within = omega (rest c.args.bytes.now c.lines.end, c.in-Some.ensures.0.high, c.lines.invariant.0, arith);
  first = λ m le. none_yet c.args.bytes.now c.lines.end c.in-Some.at (c.lines.invariant.1) (c.in-Some.ensures.0.before) (omega (rest c.args.bytes.now c.lines.end, c.in-Some.ensures.0.high, c.lines.invariant.0, arith)) m (omega (le, arith));
  end = inr (sym c.if-ends_blank.ensures);
}

pub lines-preserved : goal.lines-preserved
lines-preserved c = (within, none)
  where
    end : ℕ
    end = c.lines.end + (c.in-Some.at + 1)

    within : end ≤ length c.args.bytes.now
    within = omega (rest c.args.bytes.now c.lines.end, c.in-Some.ensures.0.high, c.lines.invariant.0, arith)

    last : ends_in_empty_line (take end c.args.bytes.now) ≡ false
    last = sym c.ends_blank.ensures ∙ c.if-ends_blank.false

    none : (m : ℕ) → m ≤ end → ends_in_empty_line (take m c.args.bytes.now) ≡ false
    none m le = ⊎_elim
        (λ t. none_yet c.args.bytes.now c.lines.end c.in-Some.at (c.lines.invariant.1) (c.in-Some.ensures.0.before) (omega (within, arith)) m (t.1))
        (λ t. subst (λ n. ends_in_empty_line (take n c.args.bytes.now) ≡ false) {x = end} {y = m} (omega (t.1, le, arith)) last)
        (leb_tells m (c.lines.end + c.in-Some.at))

pub returns : goal.returns
returns c = record {
  some = c.requires;
  within = omega arith;
  first = λ m le. none_yet c.args.bytes.now c.lines.end (length c.args.bytes.now - c.lines.end) (c.lines.invariant.1)
      (λ k low high. c.in_default.ensures k low (omega (rest c.args.bytes.now c.lines.end, high, arith))) (omega (c.lines.invariant.0, arith)) m (omega (le, c.lines.invariant.0, arith));
  end = inl refl;
}
