use Rattle.std.proofs.Common.{refl, ap, ◌∙◌}
use Rattle.gate_core.specs.Forgotten.{with_gone}
use Rattle.std.proofs.lemmas.Result.{on_ok_weaker}
use Rattle.gate_core.specs.AfterCall.{ended_state}
use Rattle.gate_core.proofs.Maps.{Changed-others}
use Rattle.gate_core.proofs.Forgetting.{lent, no_entry, unheld_refused}
use Rattle.gate_core.proofs.Arrivals.{same_state, left_by, refused, ended_came}
use Rattle.gate_core.proofs.Isolating.{isolates_after}
use Rattle.gate_core.proofs.gateway.Gateway.end.Goals as goal

pub returns-clause-answer : goal.returns-clause-answer
returns-clause-answer g c =
    let changed = lent c.args.self.now.connections _ _ c.args.id (ap (λ s. s.connections) c.self.view_is) _ c.in-Some.connection.now c.end.new.self c.in-Some.ensures.value (λ some. ((c.get_mut.follows.holds c.end.new.self).3 some).0) in
    refused c.args.self.now _ c.args.id _ _ (ap (λ s. s.settings) c.self.view_is) changed _ _ (ap (λ s. s.grid) c.self.view_is) (ap (λ s. s.tally) c.self.view_is) c.end.ensures.answer

pub returns-clause-left : goal.returns-clause-left
returns-clause-left g c held found =
    let changed = lent c.args.self.now.connections _ _ c.args.id (ap (λ s. s.connections) c.self.view_is) _ c.in-Some.connection.now c.end.new.self c.in-Some.ensures.value (λ some. ((c.get_mut.follows.holds c.end.new.self).3 some).0) in
    on_ok_weaker c.end.result (left_by c.args.self.now _ c.args.id _ _ (ap (λ s. s.settings) c.self.view_is) changed ended_state held (ap (λ s. s.grid) c.self.view_is) (ap (λ s. s.tally) c.self.view_is) found) c.end.ensures.left

pub returns-clause-others : goal.returns-clause-others
returns-clause-others g c =
    let changed = lent c.args.self.now.connections _ _ c.args.id (ap (λ s. s.connections) c.self.view_is) _ c.in-Some.connection.now c.end.new.self c.in-Some.ensures.value (λ some. ((c.get_mut.follows.holds c.end.new.self).3 some).0) in
    Changed-others _ _ _ _ _ changed

pub returns-clause-came : goal.returns-clause-came
returns-clause-came g c =
    let changed = lent c.args.self.now.connections _ _ c.args.id (ap (λ s. s.connections) c.self.view_is) _ c.in-Some.connection.now c.end.new.self c.in-Some.ensures.value (λ some. ((c.get_mut.follows.holds c.end.new.self).3 some).0) in
    on_ok_weaker c.end.result (ended_came c.args.self.now _ c.args.id _ _ (ap (λ s. s.settings) c.self.view_is) changed c.came_goes_on.ensures.ended (ap (λ s. s.grid) c.self.view_is) (ap (λ s. s.tally) c.self.view_is)) c.end.ensures.left

pub returns-in_default-clause-answer : goal.returns-in_default-clause-answer
returns-in_default-clause-answer g c =
    unheld_refused c.args.self.now _ c.args.id _ (no_entry c.args.self.now.connections _ _ c.args.id (ap (λ s. s.connections) c.self.view_is) c.in_default.ensures.value) _ _ refl
    (same_state c.args.self.now _ (ap (λ s. s.settings) c.self.view_is) (ap (λ m. with_gone m.entries c.self.inside.forgotten) c.get_mut.follows.holds-at-none ∙ ap (λ s. s.connections) c.self.view_is) (ap (λ s. s.grid) c.self.view_is) (ap (λ s. s.tally) c.self.view_is))

pub returns-clause-isolated : goal.returns-clause-isolated
returns-clause-isolated g c = on_ok_weaker c.end.result (isolates_after c.came_goes_on.ensures.isolated c.args.self.now _ _) (returns-clause-came g c)
