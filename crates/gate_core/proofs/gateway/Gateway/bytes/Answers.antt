use Rattle.std.proofs.Common.{refl, sym, ap, subst, ◌∙◌}
use Rattle.grid.specs.Views.{TellOn}
use Rattle.grid.proofs.Views.{tell_on_none}
use Rattle.gate_core.specs.Forgotten.{with_gone}
use Rattle.std.proofs.lemmas.Result.{on_ok_weaker}
use Rattle.gate_core.specs.Settings.{settings_of}
use Rattle.gate_core.specs.ConnectionState.{State, connection_at}
use Rattle.gate_core.proofs.Maps.{Changed-others}
use Rattle.gate_core.proofs.Forgetting.{lent, no_entry, unheld_refused}
use Rattle.gate_core.proofs.Arrivals.{same_state, bytes_refused, received, received_tallied, cut_left, cut_short, received_came, where_open, calm_lent}
use Rattle.gate_core.proofs.gateway.Gateway.bytes.Goals as goal

pub returns-clause-answer : goal.returns-clause-answer
returns-clause-answer g c =
    let changed = lent c.args.self.now.connections _ _ c.args.id (ap (λ s. s.connections) c.self.view_is) _ c.in-Some.receiver.now c.bytes.new.self c.in-Some.ensures.value (λ some. ((c.get_mut.follows.holds c.bytes.new.self).3 some).0) in
    bytes_refused c.args.self.now _ c.args.id _ _ (ap (settings_of c.self.inside.parameters) c.bytes.ensures.leaves.servers ∙ ap (λ s. s.settings) c.self.view_is) changed _ _ _ _ (ap (λ s. s.grid) c.self.view_is) (ap (λ s. s.tally) c.self.view_is) c.bytes.ensures.answer

pub returns-clause-received : goal.returns-clause-received
returns-clause-received g c held found =
    let changed = lent c.args.self.now.connections _ _ c.args.id (ap (λ s. s.connections) c.self.view_is) _ c.in-Some.receiver.now c.bytes.new.self c.in-Some.ensures.value (λ some. ((c.get_mut.follows.holds c.bytes.new.self).3 some).0) in
    on_ok_weaker c.bytes.result (received c.args.self.now _ c.args.id _ _ (ap (settings_of c.self.inside.parameters) c.bytes.ensures.leaves.servers ∙ ap (λ s. s.settings) c.self.view_is) changed held c.args.piece.now _ _ (ap (λ s. s.settings) c.self.view_is) (ap (λ s. s.grid) c.self.view_is) found) c.bytes.ensures.fed

pub returns-clause-tallied : goal.returns-clause-tallied
returns-clause-tallied g c held found =
    let changed = lent c.args.self.now.connections _ _ c.args.id (ap (λ s. s.connections) c.self.view_is) _ c.in-Some.receiver.now c.bytes.new.self c.in-Some.ensures.value (λ some. ((c.get_mut.follows.holds c.bytes.new.self).3 some).0) in
    on_ok_weaker c.bytes.result (received_tallied c.args.self.now _ c.args.id _ _ held c.args.piece.now _ _ changed (ap (λ s. s.tally) c.self.view_is) found) c.bytes.ensures.tallied

pub returns-clause-no_memory : goal.returns-clause-no_memory
returns-clause-no_memory g c e =
    let changed = lent c.args.self.now.connections _ _ c.args.id (ap (λ s. s.connections) c.self.view_is) _ c.in-Some.receiver.now c.bytes.new.self c.in-Some.ensures.value (λ some. ((c.get_mut.follows.holds c.bytes.new.self).3 some).0) in
    cut_left c.args.self.now _ c.args.id _ _ (ap (settings_of c.self.inside.parameters) c.bytes.ensures.leaves.servers ∙ ap (λ s. s.settings) c.self.view_is) changed (c.bytes.ensures.no_memory e)

pub returns-clause-cut_short : goal.returns-clause-cut_short
returns-clause-cut_short g c held found e =
    let changed = lent c.args.self.now.connections _ _ c.args.id (ap (λ s. s.connections) c.self.view_is) _ c.in-Some.receiver.now c.bytes.new.self c.in-Some.ensures.value (λ some. ((c.get_mut.follows.holds c.bytes.new.self).3 some).0) in
    cut_short c.args.self.now _ c.args.id _ _ (ap (settings_of c.self.inside.parameters) c.bytes.ensures.leaves.servers ∙ ap (λ s. s.settings) c.self.view_is) changed held c.args.piece.now _ _ _ (ap (λ s. s.settings) c.self.view_is) (ap (λ s. s.grid) c.self.view_is) (ap (λ s. s.tally) c.self.view_is) found (c.bytes.ensures.no_memory e) (c.bytes.ensures.stopped e)

pub returns-clause-takes_no_memory : goal.returns-clause-takes_no_memory
returns-clause-takes_no_memory g c quiet =
    let changed = lent c.args.self.now.connections _ _ c.args.id (ap (λ s. s.connections) c.self.view_is) _ c.in-Some.receiver.now c.bytes.new.self c.in-Some.ensures.value (λ some. ((c.get_mut.follows.holds c.bytes.new.self).3 some).0) in
    c.bytes.ensures.takes_no_memory (calm_lent (connection_at c.args.self.now c.args.id) _ _ changed.found quiet)

pub returns-clause-others : goal.returns-clause-others
returns-clause-others g c =
    let changed = lent c.args.self.now.connections _ _ c.args.id (ap (λ s. s.connections) c.self.view_is) _ c.in-Some.receiver.now c.bytes.new.self c.in-Some.ensures.value (λ some. ((c.get_mut.follows.holds c.bytes.new.self).3 some).0) in
    Changed-others _ _ _ _ _ changed

pub returns-clause-came : goal.returns-clause-came
returns-clause-came g c =
    let changed = lent c.args.self.now.connections _ _ c.args.id (ap (λ s. s.connections) c.self.view_is) _ c.in-Some.receiver.now c.bytes.new.self c.in-Some.ensures.value (λ some. ((c.get_mut.follows.holds c.bytes.new.self).3 some).0) in
    where_open _ c.bytes.result _ _ _ _ _ c.bytes.ensures.answer (λ going. on_ok_weaker c.bytes.result (received_came c.args.self.now _ c.args.id _ _ (ap (settings_of c.self.inside.parameters) c.bytes.ensures.leaves.servers ∙ ap (λ s. s.settings) c.self.view_is) changed c.came_goes_on.ensures.received c.args.piece.now _ _ (ap (λ s. s.settings) c.self.view_is) (ap (λ s. s.grid) c.self.view_is) going) c.bytes.ensures.fed)

pub returns-in_default-clause-answer : goal.returns-in_default-clause-answer
returns-in_default-clause-answer g c =
    unheld_refused c.args.self.now _ c.args.id _ (no_entry c.args.self.now.connections _ _ c.args.id (ap (λ s. s.connections) c.self.view_is) c.in_default.ensures.value) _ _ refl
    (same_state c.args.self.now _ (ap (λ s. s.settings) c.self.view_is) (ap (λ m. with_gone m.entries c.self.inside.forgotten) c.get_mut.follows.holds-at-none ∙ ap (λ s. s.connections) c.self.view_is) (ap (λ s. s.grid) c.self.view_is) (ap (λ s. s.tally) c.self.view_is))

pub returns-clause-isolated : goal.returns-clause-isolated
returns-clause-isolated g c =
    on_ok_weaker c.bytes.result (λ on opening events came roomy none. c.came_goes_on.ensures.isolated opening _ _ (on opening events came roomy none)) (returns-clause-came g c)

pub returns-in_default-clause-told : goal.returns-in_default-clause-told
returns-in_default-clause-told g c = subst (λ (s : State). TellOn c.args.self.now.grid s.grid) (sym c.self.view_is) (tell_on_none c.args.self.now.grid)
