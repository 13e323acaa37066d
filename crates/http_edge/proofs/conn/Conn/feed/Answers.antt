use Rattle.std.proofs.Common.{subst, ◌≡◌, [], ◌++◌, sym, ap, ◌∙◌}
use Rattle.http_edge.specs.FramingState.{frame_from, rest_from}
use Rattle.http_edge.specs.State.{IsSettled}
use Rattle.http_edge.proofs.FrameLemmas.{joined_by, kept_by, empty_from}
use Rattle.http_edge.proofs.LineLemmas.{nothing_more, closed_more, waiting_settled}
use Rattle.http_edge.proofs.conn.Conn.feed.Goals as goal
use Rattle.http_edge.proofs.conn.Conn.feed.Goals.{then-closed-via-then-closed, then-closed-via-else-closed+then-is_empty}

idle : (c : goal.Joined-then-closed) → (frame_from c.args.self.now c.args.piece.now ≡ []) × (rest_from c.args.self.now c.args.piece.now ≡ c.args.self.now)
idle c = elim c.then-closed.branch [
  | then-closed-via-then-closed w ↦ closed_more c.args.self.now c.args.piece.now (sym c.closed.ensures.value ∙ w.if-closed.true)
  | then-closed-via-else-closed+then-is_empty w ↦
      nothing_more c.args.self.now c.args.piece.now (subst IsSettled c.self.view_is (waiting_settled _ c.self.invariant))
      (empty_from c.args.piece.now w.is_empty.result w.is_empty.ensures w.if-is_empty.true)
]

pub returns-then-closed-clause-items : goal.returns-then-closed-clause-items
returns-then-closed-clause-items c = c.new-items.ensures.items ∙ sym (idle c).0

pub returns-then-closed-clause-left : goal.returns-then-closed-clause-left
returns-then-closed-clause-left c = sym (idle c).1

pub returns-then-closed-clause-joined : goal.returns-then-closed-clause-joined
returns-then-closed-clause-joined c = λ before at.
    joined_by c.args.self.now before c.args.piece.now c.new-items.result.items (c.new-items.ensures.items ∙ sym (idle c).0) at

pub returns-then-closed-clause-kept : goal.returns-then-closed-clause-kept
returns-then-closed-clause-kept c = λ before at. kept_by c.args.self.now c.args.self.now before c.args.piece.now (sym (idle c).1) at

pub returns-in-Ok-clause-joined : goal.returns-in-Ok-clause-joined
returns-in-Ok-clause-joined c = λ before at.
    joined_by c.args.self.now before c.args.piece.now c.add_all.new.items.items
    (c.in-Ok.ensures.items ∙ ap (λ x. x ++ frame_from c.args.self.now c.args.piece.now) c.new-items.ensures.items) at

pub returns-in-Ok-clause-kept : goal.returns-in-Ok-clause-kept
returns-in-Ok-clause-kept c = λ before at. kept_by c.args.self.now c.add_all.new.self before c.args.piece.now c.in-Ok.ensures.left at
