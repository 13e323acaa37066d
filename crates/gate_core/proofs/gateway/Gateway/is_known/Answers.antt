use Rattle.std.proofs.Common.{sym, ap, ◌∙◌}
use Rattle.std.specs.Prelude.{◌||◌}
use Rattle.std.specs.FinSet as set
use Rattle.gate_core.proofs.Forgetting.{is_there}
use Rattle.gate_core.proofs.gateway.Gateway.is_known.Goals as goal

pub returns-then-contains_key : goal.returns-then-contains_key
returns-then-contains_key g c =
    c.if-contains_key.true
    ∙ sym (is_there c.args.self.now.connections _ _ c.args.id (ap (λ s. s.connections) c.self.view_is) ∙ ap (λ b. b || set.contains c.self.inside.forgotten c.args.id) (sym c.contains_key.ensures ∙ c.if-contains_key.true))

pub returns-else-contains_key : goal.returns-else-contains_key
returns-else-contains_key g c =
    c.contains.ensures
    ∙ sym (is_there c.args.self.now.connections _ _ c.args.id (ap (λ s. s.connections) c.self.view_is) ∙ ap (λ b. b || set.contains c.self.inside.forgotten c.args.id) (sym c.contains_key.ensures ∙ c.if-contains_key.false))
