use Rattle.std.proofs.Common.{List, ap, subst, ◌∙◌}
use Rattle.std.specs.Prelude.{IfOk, MatchOption}
use Rattle.http_edge.specs.FirstHead.{HasHeadFirst, HasNoHeadFirst}
use Rattle.http_edge.specs.FramingState.{FramingState, frame_from}
use Rattle.http_edge.specs.State.{left_of}
use Rattle.http_edge.specs.declared.item.Head.{Head}
use Rattle.http_edge.specs.declared.item.Item.{Item}
use Rattle.http_edge.proofs.conn.Conn.next_head.Goals as goal

pub returns : goal.returns
returns c =
    subst (λ (items : List Item). IfOk c.ended_head.result (λ found. MatchOption found (HasNoHeadFirst items) (λ (head : Head). HasHeadFirst items head)))
    (ap (λ (s : FramingState). frame_from s c.loop-self.bytes.now) (ap left_of c.replace-state.ensures.value ∙ c.self.view_is) ∙ c.loop-self.invariant)
    c.ended_head.ensures
