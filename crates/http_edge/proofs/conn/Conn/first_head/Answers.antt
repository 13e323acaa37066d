use Rattle.std.proofs.Common.{◌≡◌, sym, ap, subst, ◌∙◌}
use Rattle.http_edge.specs.FirstHead.{HasNoHeadFirst}
use Rattle.http_edge.specs.FramingState.{FramingState, part_of, frame_from}
use Rattle.http_edge.specs.State.{left_of}
use Rattle.http_edge.proofs.NoHead.{where_none}
use Rattle.http_edge.proofs.conn.Conn.first_head.Goals as goal

pub returns-clause-none : goal.returns-clause-none
returns-clause-none c =
    where_none _ _ _ c.next_head.result (λ none part is. subst HasNoHeadFirst same none) c.next_head.ensures
  where
    same : frame_from (part_of c.in_ok-block.block.items) c.args.piece.now ≡ frame_from c.args.self.now c.args.piece.now
    same = ap (λ (s : FramingState). frame_from s c.args.piece.now)
        (ap part_of (c.in_ok-block.ensures.items ∙ c.deref.ensures.value) ∙ sym (sym c.self.view_is ∙ ap left_of c.in-Head.is))
