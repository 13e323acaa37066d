use Rattle.std.proofs.Common.{ap, sym, ◌∙◌}
use Rattle.std.specs.Prelude.{min, ◌-◌, ◌^◌}
use Rattle.gate_core.specs.Kept.{kept_in}
use Rattle.gate_core.proofs.Forgetting.{entry_found, no_entry, unheld_keeps}
use Rattle.gate_core.proofs.gateway.Gateway.kept.Goals as goal

pub returns-in-Some : goal.returns-in-Some
returns-in-Some g c =
    c.kept.ensures
    ∙ ap (λ o. min (kept_in o) (2 ^ 64 - 1)) (sym (entry_found c.args.self.now.connections _ _ c.args.id (ap (λ s. s.connections) c.self.view_is) _ c.in-Some.ensures.value))

pub returns-in-None : goal.returns-in-None
returns-in-None g c =
    sym (ap (λ n. min n (2 ^ 64 - 1)) (unheld_keeps c.args.self.now c.args.self.now c.args.id _ (no_entry c.args.self.now.connections _ _ c.args.id (ap (λ s. s.connections) c.self.view_is) c.in-None.ensures.value)))
