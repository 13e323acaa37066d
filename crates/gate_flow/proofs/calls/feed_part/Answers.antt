use Rattle.std.proofs.Common.{◌≡◌, ◌∙◌, ℕ, List, refl, ap, subst, arith, []}
use Rattle.std.proofs.lemmas.Result.{MatchResult-from_err}
use Rattle.gate_core.specs.ConnectionState.{connection_at}
use Rattle.gate_core.specs.Kept.{bytes_of_body_in}
use Rattle.gate_flow.specs.Parts.{IsFeedPart}
use Rattle.gate_flow.specs.Led.{IsMoved}
use Rattle.gate_flow.specs.Brought.{AreInParts}
use Rattle.gate_flow.proofs.Leading.{led_none}
use Rattle.gate_flow.proofs.Moving.{part_moves, part_fails}
use Rattle.gate_flow.proofs.calls.feed_part.Goals as goal

pub returns-in_err-feed-clause-err : goal.returns-in_err-feed-clause-err
returns-in_err-feed-clause-err g c =
    MatchResult-from_err c.from_residual-in_err-feed.result (λ _. Unit {0})
    (λ _. (now : IsMoved c.args.id c.args.gateway.now c.feed.new.gateway c.args.piece.now c.args.piece.now [] []) × AreInParts c.args.id now.calls c.args.gateway.now c.feed.new.gateway c.args.piece.now c.args.piece.now)
    c.from_residual-in_err-feed.ensures.0 (λ _. part_fails c.args.id c.args.gateway.now c.feed.new.gateway c.args.piece.now c.args.piece.now c.in_err-feed.ensures.err refl)

pub returns-clause-ok : goal.returns-clause-ok
returns-clause-ok g c =
    part_moves c.args.id c.part_len-len.result c.args.gateway.now c.feed.new.gateway c.args.piece.now c.skip.new.self _ (grind (arith, c.as_slice-bytes.ensures)) c.skip.ensures
    (subst (λ (n : ℕ). IsFeedPart n c.args.piece.now c.part_len-len.result) of_body (subst (λ (bytes : List ℕ). IsFeedPart c.in_ok-of_body.of_body bytes c.part_len-len.result) c.as_slice-bytes.ensures c.part_len-len.ensures)) c.requires.quiet c.requires.going c.in_ok-feed.ensures.takes c.in_ok-feed.ensures.led c.in_ok-feed.ensures.as_written
  where
    of_body : c.in_ok-of_body.of_body ≡ bytes_of_body_in (connection_at c.args.gateway.now c.args.id) c.args.piece.now
    of_body = c.in_ok-of_body.ensures.count ∙ ap (bytes_of_body_in (connection_at c.args.gateway.now c.args.id)) c.as_slice-bytes.ensures

pub returns-in_err-of_body-clause-err : goal.returns-in_err-of_body-clause-err
returns-in_err-of_body-clause-err g c = MatchResult-from_err c.from_residual.result (λ _. Unit {0})
    (λ _. (now : IsMoved c.args.id c.args.gateway.now c.args.gateway.now c.args.piece.now c.args.piece.now [] []) × AreInParts c.args.id now.calls c.args.gateway.now c.args.gateway.now c.args.piece.now c.args.piece.now)
    c.from_residual.ensures.0 (λ _. part_fails c.args.id c.args.gateway.now c.args.gateway.now c.args.piece.now c.args.piece.now (led_none c.args.id c.args.gateway.now) refl)
