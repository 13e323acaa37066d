use Rattle.std.proofs.Common.{arith, []}
use Rattle.std.proofs.lemmas.Result.{MatchResult-from_err}
use Rattle.gate_flow.specs.Led.{IsMoved}
use Rattle.gate_flow.specs.Brought.{AreInParts}
use Rattle.gate_flow.proofs.Moving.{parts_none, parts_more, parts_fail}
use Rattle.gate_flow.proofs.calls.feed_parts.Goals as goal

pub parts-init : goal.parts-init
parts-init g c = record { brought = parts_none _ _ _; less = omega arith }

pub returns-in_err-feed_part-clause-err : goal.returns-in_err-feed_part-clause-err
returns-in_err-feed_part-clause-err g c =
    MatchResult-from_err c.from_residual.result (λ _. Unit {0})
    (λ _. (now : IsMoved c.args.id c.args.gateway.now c.feed_part.new.gateway c.args.piece.now c.feed_part.new.piece [] []) × AreInParts c.args.id now.calls c.args.gateway.now c.feed_part.new.gateway c.args.piece.now c.feed_part.new.piece)
    c.from_residual.ensures.0 (λ _.
    parts_fail c.args.id c.args.gateway.now c.parts.gateway c.feed_part.new.gateway c.args.piece.now c.parts.piece c.feed_part.new.piece c.parts.invariant.brought c.in_err-feed_part.ensures.err)

pub parts-preserved : goal.parts-preserved
parts-preserved g c = record {
  brought = parts_more c.args.id c.args.gateway.now c.parts.gateway c.feed_part.new.gateway c.args.piece.now c.parts.piece c.feed_part.new.piece c.beginnings_have_room.ensures c.parts.invariant.brought c.in_ok-feed_part.ensures.ok;
  less = omega (arith, c.parts.invariant.less, c.in_ok-feed_part.ensures.less);
}
