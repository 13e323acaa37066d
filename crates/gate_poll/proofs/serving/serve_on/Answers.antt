use Rattle.std.proofs.Common.{ℕ, subst}
use Rattle.gate_poll.specs.Secrets.{IsUnderOneOf}
use Rattle.gate_poll.specs.Table.{IsHostedUnder}
use Rattle.gate_poll.proofs.LettingGo.{is_over}
use Rattle.gate_poll.proofs.serving.serve_on.Goals as goal

pub returns : goal.returns
returns g c = record {
  hosted = subst (λ ls. (next : ℕ) × IsHostedUnder (IsUnderOneOf ls.items c.args.lobby.now.settings.secret) 1 next c.args.lobby.now c.serve_all.new.lobby) c.new-arrivals.ensures c.serve_all.ensures.hosted;
  over = λ id. is_over _ id _ _ (c.serve_all.ensures.over id);
}
