use Rattle.std.proofs.Common.{◌+◌, true, false, take, get_or, sym, ap, ap₂, ◌∙◌, subst, arith}
use Rattle.std.proofs.lemmas.Bool.{true≢false}
use Rattle.json.specs.Lex.{class}
use Rattle.json_seams.specs.Modes.{next_mode, is_outside}
use Rattle.json_members.specs.Brackets.{next_depth}
use Rattle.json_members.specs.MemberCuts.{IsMemberCutFrom, IsLastMemberCut}
use Rattle.json_members.proofs.Found.{more_mode, more_depth, no_depth, within_room, found_here, found_before, none_found, outside_depth}
use Rattle.json_members.proofs.scanner.MemberScanner.last_cut.Goals as goal
use Rattle.json_members.proofs.scanner.MemberScanner.last_cut.Goals.{then-is_outside, then-byte-eq44+then-self-eq1, else-byte-eq44, else-byte-eq44-via-then-byte-eq44+else-self-eq1, else-byte-eq44-via-else-byte-eq44, else-is_outside}

pub loop-i-init : goal.loop-i-init
loop-i-init c = record {
  mode = ap (λ s. s.mode) c.self.view_is;
  depth = ap (λ s. s.depth) c.self.view_is ∙ sym (no_depth c.args.self.now.mode c.args.self.now.depth c.args.bytes.now);
  cut = none_found c.args.self.now.mode c.args.self.now.depth c.args.bytes.now;
}

pub depth_after-self-inside-requires : goal.depth_after-self-inside-requires
depth_after-self-inside-requires c = omega (arith, within_room c.args.self.now.mode c.args.self.now.depth 18446744073709551615 c.args.bytes.now c.loop-i.i c.loop-i-test.true c.requires, c.loop-i.invariant.depth)

pub loop-i-preserved : goal.loop-i-preserved
loop-i-preserved c =
    let mode = c.args.self.now.mode in
    let depth = c.args.self.now.depth in
    let bytes = c.args.bytes.now in
    let i = c.loop-i.i in
    let byte = get_or bytes i 0 in
    let within = c.loop-i-test.true in
    let same_mode = c.loop-i.invariant.mode in
    let same_depth = c.loop-i.invariant.depth in
    let outside = sym c.is_outside.ensures in
    let moved = ap₂ (λ m n. next_depth m n byte) same_mode same_depth ∙ sym (more_depth mode depth bytes i within) in
    record {
      mode =
          c.passes.ensures
          ∙ ap (λ m. next_mode m (class byte))
          (elim c.if-is_outside.branch [
            | then-is_outside w ↦ ap (λ s. s.scanner) w.self-inside-is
            | else-is_outside w ↦ ap (λ s. s.scanner) w.self-inside-is
          ])
          ∙ ap (λ m. next_mode m (class byte)) same_mode ∙ sym (more_mode mode bytes i within);
      depth =
          elim c.if-is_outside.branch [
            | then-is_outside w ↦ ap (λ s. s.depth) w.self-inside-is ∙ w.depth_after-self-inside.ensures ∙ sym (outside_depth c.loop-i.self-inside.scanner c.loop-i.self-inside.depth byte true (outside ∙ w.if-is_outside.true)) ∙ moved
            | else-is_outside w ↦ ap (λ s. s.depth) w.self-inside-is ∙ sym (outside_depth c.loop-i.self-inside.scanner c.loop-i.self-inside.depth byte false (outside ∙ w.if-is_outside.false)) ∙ moved
          ];
      cut =
          elim c.if-is_outside.branch [
            | then-is_outside w ↦
                elim w.if-byte-eq44.branch [
                  | then-byte-eq44+then-self-eq1 v ↦
                      let here : IsMemberCutFrom mode depth bytes i = record {
                        comma = record {
                          within = within;
                          comma = v.if-byte-eq44.true;
                          outside = sym (ap is_outside same_mode) ∙ outside ∙ w.if-is_outside.true;
                        };
                        outermost = sym same_depth ∙ v.if-self-eq1.true;
                      } in
                      subst (IsLastMemberCut mode depth (take (i + 1) bytes)) (sym (w.last-is ∙ v.last-is)) (found_here mode depth bytes i here)
                  | else-byte-eq44 v ↦
                      let none : IsMemberCutFrom mode depth bytes i → ⊥ =
                      elim v.else-byte-eq44.branch [
                        | else-byte-eq44-via-then-byte-eq44+else-self-eq1 u ↦ λ is. u.if-self-eq1.false (same_depth ∙ is.outermost)
                        | else-byte-eq44-via-else-byte-eq44 u ↦ λ is. u.if-byte-eq44.false is.comma.comma
                      ] in
                      subst (IsLastMemberCut mode depth (take (i + 1) bytes)) (sym (w.last-is ∙ v.last-is)) (found_before mode depth bytes i c.loop-i.last within none c.loop-i.invariant.cut)
                ]
            | else-is_outside w ↦
                let none : IsMemberCutFrom mode depth bytes i → ⊥ = λ is. true≢false (sym is.comma.outside ∙ sym (ap is_outside same_mode) ∙ outside ∙ w.if-is_outside.false) in
                subst (IsLastMemberCut mode depth (take (i + 1) bytes)) (sym w.last-is) (found_before mode depth bytes i c.loop-i.last within none c.loop-i.invariant.cut)
          ];
    }
