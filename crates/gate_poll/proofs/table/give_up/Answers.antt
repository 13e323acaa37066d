use Rattle.std.proofs.Common.{refl, subst, ℕ}
use Rattle.gate_flow.specs.Hosted.{IsForgotten}
use Rattle.gate_poll.proofs.table.give_up.Goals as goal

pub returns-clause-let_go : goal.returns-clause-let_go
returns-clause-let_go g c = record {
  before = c.let_go_of.new.self;
  closed = c.close.new.self;
  after = c.forget.new.lobby;
  given_up = c.close.ensures.given_up;
  forgotten = subst (λ (i : ℕ). IsForgotten i c.close.new.self c.forget.new.lobby) c.id-id.ensures c.forget.ensures.forgotten;
  since = refl;
}
