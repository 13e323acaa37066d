use Rattle.std.proofs.Common.{◌∙◌}
use Rattle.gate_core.specs.ConnectionState.{waiting}
use Rattle.std.proofs.lemmas.Result.{MatchResult-from_err}
use Rattle.gate_flow.specs.declared.want.Want.TheVariants.{Read, Nothing}
use Rattle.gate_flow.specs.Steps.{Advances}
use Rattle.gate_flow.proofs.Advancing.{after, failing, failing_then, staying, writing, no_portion, sound_writing}
use Rattle.gate_flow.proofs.flow.Flow.advance.Goals as goal

pub invariant_of-self-then-waits : goal.invariant_of-self-then-waits
invariant_of-self-then-waits g c =
    let f = c.self.inside in (
      c.self.invariant.0,
      c.self.invariant.1,
      sound_writing c.args.self.now f.id f.piece f.portion f.ended f.want c.self.view_is c.requires c.self.invariant.2 c.feed_parts.new.piece c.feed_parts.ensures.less
          (waiting c.feed_parts.new.gateway f.id) c.from_vec.result c.if-waits.ensures (c.from_vec.ensures ∙ c.in_ok-portion.ensures.given),
    )

pub returns-in_ok-portion-clause-ok : goal.returns-in_ok-portion-clause-ok
returns-in_ok-portion-clause-ok g c =
    let f = c.self.inside in
    writing c.args.self.now f.id f.piece f.portion f.ended f.want c.self.view_is c.args.gateway.now c.feed_parts.new.gateway c.feed_parts.new.piece c.in_ok-feed_parts.ensures.ok c.in_ok-feed_parts.ensures.until
    c.beginnings_have_room.ensures c.take_first.new.gateway c.from_vec.result c.in_ok-portion.portion.items c.from_vec.ensures (no_portion c.args.self.now f.id f.piece f.portion f.ended f.want c.self.view_is c.requires c.self.invariant.2)
    c.in_ok-portion.ensures.stays c.in_ok-portion.ensures.led c.in_ok-portion.ensures.as_written

pub returns-in_err-feed_parts-clause-err : goal.returns-in_err-feed_parts-clause-err
returns-in_err-feed_parts-clause-err g c =
    let f = c.self.inside in
    MatchResult-from_err c.from_residual.result (λ _. Unit {0}) (λ _. Advances c.args.self.now (after c.args.self.now f.id f.piece f.portion f.ended f.want c.feed_parts.new.piece f.portion f.want) c.args.gateway.now c.feed_parts.new.gateway)
    c.from_residual.ensures.0 (λ _.
    failing c.args.self.now f.id f.piece f.portion f.ended f.want c.self.view_is c.args.gateway.now c.feed_parts.new.gateway c.feed_parts.new.piece c.in_err-feed_parts.ensures.err)

pub returns-in_err-portion-clause-err : goal.returns-in_err-portion-clause-err
returns-in_err-portion-clause-err g c =
    let f = c.self.inside in
    MatchResult-from_err c.from_residual-in_err-portion.result (λ _. Unit {0}) (λ _. Advances c.args.self.now (after c.args.self.now f.id f.piece f.portion f.ended f.want c.feed_parts.new.piece f.portion f.want) c.args.gateway.now c.take_first.new.gateway)
    c.from_residual-in_err-portion.ensures.0 (λ _.
    failing_then c.args.self.now f.id f.piece f.portion f.ended f.want c.self.view_is c.args.gateway.now c.feed_parts.new.gateway c.feed_parts.new.piece c.in_ok-feed_parts.ensures.ok c.take_first.new.gateway c.in_err-portion.ensures.err)

pub returns-then-closed-clause-ok : goal.returns-then-closed-clause-ok
returns-then-closed-clause-ok g c =
    let f = c.self.inside in
    staying c.args.self.now f.id f.piece f.portion f.ended f.want c.self.view_is c.args.gateway.now c.feed_parts.new.gateway c.feed_parts.new.piece c.in_ok-feed_parts.ensures.ok c.in_ok-feed_parts.ensures.until Nothing

pub returns-then-self-clause-ok : goal.returns-then-self-clause-ok
returns-then-self-clause-ok g c =
    let f = c.self.inside in
    staying c.args.self.now f.id f.piece f.portion f.ended f.want c.self.view_is c.args.gateway.now c.feed_parts.new.gateway c.feed_parts.new.piece c.in_ok-feed_parts.ensures.ok c.in_ok-feed_parts.ensures.until Nothing

pub returns-else-self-clause-ok : goal.returns-else-self-clause-ok
returns-else-self-clause-ok g c =
    let f = c.self.inside in
    staying c.args.self.now f.id f.piece f.portion f.ended f.want c.self.view_is c.args.gateway.now c.feed_parts.new.gateway c.feed_parts.new.piece c.in_ok-feed_parts.ensures.ok c.in_ok-feed_parts.ensures.until Read
