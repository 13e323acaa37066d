use Rattle.std.proofs.Common.{None, Some, refl, sym, ap, length, ◌∙◌}
use Rattle.std.specs.FinMap as map
use Rattle.gate_core.specs.declared.fault.GatewayFault.TheVariants.{StillOpen}
use Rattle.gate_core.specs.ConnectionState.{forget_refusal, going_refusal}
use Rattle.gate_core.specs.Forgotten.{with_gone, gone}
use Rattle.gate_core.proofs.Forgetting.{entry_found, no_entry, unheld_answer, unheld_taken, on_ok_if, forgettable, cut_forgotten, ended_forgotten, put_away}
use Rattle.gate_core.proofs.gateway.Gateway.let_go.Goals as goal

pub returns-in_default-clause-answer : goal.returns-in_default-clause-answer
returns-in_default-clause-answer g c =
    unheld_answer c.args.self.now c.args.self.now c.args.id _ (no_entry c.args.self.now.connections _ _ c.args.id (ap (λ s. s.connections) c.self.view_is) c.in_default.ensures.value) c.check_forgotten.result forget_refusal c.check_forgotten.ensures

pub returns-in_default-clause-left : goal.returns-in_default-clause-left
returns-in_default-clause-left g c held found =
    on_ok_if c.check_forgotten.result _
    (unheld_taken c.args.self.now c.args.self.now c.args.id _ (no_entry c.args.self.now.connections _ _ c.args.id (ap (λ s. s.connections) c.self.view_is) c.in_default.ensures.value) (length held.waiting) held found refl)

pub returns-in_default-insert-clause-answer : goal.returns-in_default-insert-clause-answer
returns-in_default-insert-clause-answer g c =
    forgettable c.args.self.now c.args.id _ (entry_found c.args.self.now.connections _ _ c.args.id (ap (λ s. s.connections) c.self.view_is) _ c.in-Some.ensures.value) None _ _ (ap going_refusal (sym c.stage.ensures.stage ∙ c.in-Ended.is)) refl

pub returns-in-Open-clause-answer : goal.returns-in-Open-clause-answer
returns-in-Open-clause-answer g c =
    forgettable c.args.self.now c.args.id _ (entry_found c.args.self.now.connections _ _ c.args.id (ap (λ s. s.connections) c.self.view_is) _ c.in-Some.ensures.value) (Some StillOpen) _ _ (ap going_refusal (sym c.stage.ensures.stage ∙ c.in-Open.is)) refl

pub returns-in-Cut-clause-answer : goal.returns-in-Cut-clause-answer
returns-in-Cut-clause-answer g c =
    forgettable c.args.self.now c.args.id _ (entry_found c.args.self.now.connections _ _ c.args.id (ap (λ s. s.connections) c.self.view_is) _ c.in-Some.ensures.value) None _ _ (ap going_refusal (sym c.stage.ensures.stage ∙ c.in-Cut.is)) tt

pub returns-in-Cut-clause-left : goal.returns-in-Cut-clause-left
returns-in-Cut-clause-left g c held found =
    cut_forgotten c.args.self.now c.args.id _ (entry_found c.args.self.now.connections _ _ c.args.id (ap (λ s. s.connections) c.self.view_is) _ c.in-Some.ensures.value) held found c.stage.ensures.bare (sym c.stage.ensures.stage ∙ c.in-Cut.is)

pub returns-in-Ok-clause-answer : goal.returns-in-Ok-clause-answer
returns-in-Ok-clause-answer g c =
    forgettable c.args.self.now c.args.id _ (entry_found c.args.self.now.connections _ _ c.args.id (ap (λ s. s.connections) c.self.view_is) _ c.in-Some.ensures.value) None _ _ (ap going_refusal (sym c.stage.ensures.stage ∙ c.in-Ended.is)) tt

pub returns-in-Ok-clause-left : goal.returns-in-Ok-clause-left
returns-in-Ok-clause-left g c held found =
    let put = ap (with_gone _) c.in-Ok.ensures.ok ∙ put_away c.self.inside.connections.entries _ c.self.inside.forgotten c.args.id c.take_out.ensures.0 ∙ ap (λ m. map.insert m c.args.id gone) (ap (λ s. s.connections) c.self.view_is) in
    ended_forgotten c.args.self.now c.args.id _ (entry_found c.args.self.now.connections _ _ c.args.id (ap (λ s. s.connections) c.self.view_is) _ c.in-Some.ensures.value) _ held found c.stage.ensures.bare (sym c.stage.ensures.stage ∙ c.in-Ended.is) (ap (λ s. s.settings) c.self.view_is) put (ap (λ s. s.grid) c.self.view_is) (ap (λ s. s.tally) c.self.view_is)
