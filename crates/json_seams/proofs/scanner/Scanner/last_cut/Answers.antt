use Rattle.std.proofs.Common.{◌+◌, take, sym, ap, ◌∙◌, subst, arith}
use Rattle.std.proofs.lemmas.Grind.{common_steps}
use Rattle.std.proofs.lemmas.Bool.{true≢false}
use Rattle.json_seams.specs.Modes.{is_outside}
use Rattle.json_seams.specs.Cuts.{IsCutFrom, IsLastCut}
use Rattle.json_seams.proofs.Found.{found_here, found_before}
use Rattle.json_seams.proofs.scanner.Scanner.last_cut.Goals as goal
use Rattle.json_seams.proofs.scanner.Scanner.last_cut.Goals.{then-byte-eq44+then-is_outside, else-byte-eq44, else-byte-eq44-via-then-byte-eq44+else-is_outside, else-byte-eq44-via-else-byte-eq44}

pub loop-i-preserved : goal.loop-i-preserved
loop-i-preserved c =
    let mode = c.args.self.now in
    let bytes = c.args.bytes.now in
    let i = c.loop-i.i in
    let same = ap is_outside c.loop-i.invariant.mode in
    record {
      mode = grind (arith, common_steps);
      cut =
          elim c.if-byte-eq44.branch [
            | then-byte-eq44+then-is_outside w ↦
                let here : IsCutFrom mode bytes i = record {
                  within = c.loop-i-test.true;
                  comma = w.if-byte-eq44.true;
                  outside = sym same ∙ sym w.is_outside.ensures ∙ w.if-is_outside.true;
                } in
                subst (IsLastCut mode (take (i + 1) bytes)) (sym w.last-is) (found_here mode bytes i here)
            | else-byte-eq44 w ↦
                let none : IsCutFrom mode bytes i → ⊥ =
                elim w.else-byte-eq44.branch [
                  | else-byte-eq44-via-then-byte-eq44+else-is_outside v ↦
                      λ is. true≢false (sym is.outside ∙ sym same ∙ sym v.is_outside.ensures ∙ v.if-is_outside.false)
                  | else-byte-eq44-via-else-byte-eq44 v ↦ λ is. v.if-byte-eq44.false is.comma
                ] in
                subst (IsLastCut mode (take (i + 1) bytes)) (sym w.last-is)
                (found_before mode bytes i c.loop-i.last c.loop-i-test.true none c.loop-i.invariant.cut)
          ];
    }
