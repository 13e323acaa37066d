use Rattle.std.proofs.Common.{ap, sym, ◌∙◌, take}
use Rattle.std.proofs.lemmas.Result.{on_ok_weaker, on_err_weaker, IfOk-weaker}
use Rattle.std.proofs.Math.Seq.{take-nil}
use Rattle.gate_core.specs.ConnectionState.{waiting_in, take_refusal}
use Rattle.gate_core.specs.Forgotten.{with_gone}
use Rattle.gate_core.specs.AfterCall.{taken}
use Rattle.gate_core.proofs.Maps.{Changed-others, Changed-same}
use Rattle.gate_core.proofs.Forgetting.{lent, no_entry, unheld_answer, unheld_waits, unheld_taken, unheld_came, on_ok_if}
use Rattle.gate_core.proofs.Arrivals.{same_state, left_by, take_refused, taken_came, if_taken}
use Rattle.gate_core.proofs.Isolating.{isolates_after}
use Rattle.gate_core.proofs.gateway.Gateway.take.Goals as goal

pub returns-clause-answer : goal.returns-clause-answer
returns-clause-answer g c =
    let changed = lent c.args.self.now.connections _ _ c.args.id (ap (λ s. s.connections) c.self.view_is) _ c.in-Some.taker.now c.take.new.self c.in-Some.ensures.value (λ some. ((c.get_mut.follows.holds c.take.new.self).3 some).0) in
    take_refused c.args.self.now c.args.id _ _ _ changed.found c.take.ensures.answer

pub returns-clause-given : goal.returns-clause-given
returns-clause-given g c =
    let changed = lent c.args.self.now.connections _ _ c.args.id (ap (λ s. s.connections) c.self.view_is) _ c.in-Some.taker.now c.take.new.self c.in-Some.ensures.value (λ some. ((c.get_mut.follows.holds c.take.new.self).3 some).0) in
    IfOk-weaker c.take.result _ _ (λ given is. is ∙ ap (λ o. take c.args.max (waiting_in o)) (sym changed.found)) c.take.ensures.given

pub returns-clause-left : goal.returns-clause-left
returns-clause-left g c held found =
    let changed = lent c.args.self.now.connections _ _ c.args.id (ap (λ s. s.connections) c.self.view_is) _ c.in-Some.taker.now c.take.new.self c.in-Some.ensures.value (λ some. ((c.get_mut.follows.holds c.take.new.self).3 some).0) in
    on_ok_weaker c.take.result (left_by c.args.self.now _ c.args.id _ _ (ap (λ s. s.settings) c.self.view_is) changed (taken c.args.max) held (ap (λ s. s.grid) c.self.view_is) (ap (λ s. s.tally) c.self.view_is) found) c.take.ensures.left

pub returns-clause-err : goal.returns-clause-err
returns-clause-err g c =
    let changed = lent c.args.self.now.connections _ _ c.args.id (ap (λ s. s.connections) c.self.view_is) _ c.in-Some.taker.now c.take.new.self c.in-Some.ensures.value (λ some. ((c.get_mut.follows.holds c.take.new.self).3 some).0) in
    on_err_weaker c.take.result (λ same. same_state c.args.self.now _ (ap (λ s. s.settings) c.self.view_is) (Changed-same _ _ _ _ _ changed same) (ap (λ s. s.grid) c.self.view_is) (ap (λ s. s.tally) c.self.view_is)) c.take.ensures.err

pub returns-clause-nothing_there : goal.returns-clause-nothing_there
returns-clause-nothing_there g c none =
    let changed = lent c.args.self.now.connections _ _ c.args.id (ap (λ s. s.connections) c.self.view_is) _ c.in-Some.taker.now c.take.new.self c.in-Some.ensures.value (λ some. ((c.get_mut.follows.holds c.take.new.self).3 some).0) in
    c.take.ensures.nothing_there (sym (ap waiting_in changed.found) ∙ none)

pub returns-clause-others : goal.returns-clause-others
returns-clause-others g c =
    let changed = lent c.args.self.now.connections _ _ c.args.id (ap (λ s. s.connections) c.self.view_is) _ c.in-Some.taker.now c.take.new.self c.in-Some.ensures.value (λ some. ((c.get_mut.follows.holds c.take.new.self).3 some).0) in
    Changed-others _ _ _ _ _ changed

pub returns-clause-came : goal.returns-clause-came
returns-clause-came g c =
    let changed = lent c.args.self.now.connections _ _ c.args.id (ap (λ s. s.connections) c.self.view_is) _ c.in-Some.taker.now c.take.new.self c.in-Some.ensures.value (λ some. ((c.get_mut.follows.holds c.take.new.self).3 some).0) in
    if_taken c.take.result _ _ _ (λ given step is. taken_came c.args.self.now _ c.args.id _ _ (ap (λ s. s.settings) c.self.view_is) changed c.came_goes_on.ensures.taken c.args.max given.items (ap (λ s. s.grid) c.self.view_is) (ap (λ s. s.tally) c.self.view_is) step is) c.take.ensures.left c.take.ensures.given

pub returns-clause-isolated : goal.returns-clause-isolated
returns-clause-isolated g c = IfOk-weaker c.take.result _ _ (λ given. isolates_after c.came_goes_on.ensures.isolated c.args.self.now _ _) (returns-clause-came g c)

pub returns-in_default-clause-answer : goal.returns-in_default-clause-answer
returns-in_default-clause-answer g c =
    unheld_answer c.args.self.now c.args.self.now c.args.id _ (no_entry c.args.self.now.connections _ _ c.args.id (ap (λ s. s.connections) c.self.view_is) c.in_default.ensures.value) c.nothing_of.result take_refusal c.nothing_of.ensures.answer

pub returns-in_default-clause-given : goal.returns-in_default-clause-given
returns-in_default-clause-given g c =
    IfOk-weaker c.nothing_of.result _ _ (λ given none. none ∙ sym (ap (take c.args.max) (unheld_waits c.args.self.now c.args.self.now c.args.id _ (no_entry c.args.self.now.connections _ _ c.args.id (ap (λ s. s.connections) c.self.view_is) c.in_default.ensures.value)) ∙ take-nil c.args.max)) c.nothing_of.ensures.given

pub returns-in_default-clause-left : goal.returns-in_default-clause-left
returns-in_default-clause-left g c held found =
    on_ok_if c.nothing_of.result _
    (unheld_taken c.args.self.now _ c.args.id _ (no_entry c.args.self.now.connections _ _ c.args.id (ap (λ s. s.connections) c.self.view_is) c.in_default.ensures.value) c.args.max held found
    (same_state c.args.self.now _ (ap (λ s. s.settings) c.self.view_is) (ap (λ m. with_gone m.entries c.self.inside.forgotten) c.get_mut.follows.holds-at-none ∙ ap (λ s. s.connections) c.self.view_is) (ap (λ s. s.grid) c.self.view_is) (ap (λ s. s.tally) c.self.view_is)))

pub returns-in_default-clause-came : goal.returns-in_default-clause-came
returns-in_default-clause-came g c =
    unheld_came c.args.self.now _ c.args.id _ (no_entry c.args.self.now.connections _ _ c.args.id (ap (λ s. s.connections) c.self.view_is) c.in_default.ensures.value) (λ given. given.items) c.nothing_of.result c.args.max
    (same_state c.args.self.now _ (ap (λ s. s.settings) c.self.view_is) (ap (λ m. with_gone m.entries c.self.inside.forgotten) c.get_mut.follows.holds-at-none ∙ ap (λ s. s.connections) c.self.view_is) (ap (λ s. s.grid) c.self.view_is) (ap (λ s. s.tally) c.self.view_is))
    c.came_goes_on.ensures.taken c.nothing_of.ensures.answer c.nothing_of.ensures.given

pub returns-in_default-clause-isolated : goal.returns-in_default-clause-isolated
returns-in_default-clause-isolated g c =
    IfOk-weaker c.nothing_of.result _ _ (λ given. isolates_after c.came_goes_on.ensures.isolated c.args.self.now _ _) (returns-in_default-clause-came g c)
