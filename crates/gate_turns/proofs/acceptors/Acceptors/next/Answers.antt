use Rattle.std.proofs.Common.{◌≤◌, ◌<◌, length, ◌+◌, sym, subst}
use Rattle.gate_turns.specs.Acceptors.{MayAcceptAt, AcceptorsState, acceptors_before}
use Rattle.gate_turns.proofs.Accepting.{may_within, nearer}
use Rattle.gate_turns.proofs.acceptors.Acceptors.next.Goals as goal

pub returns-clause-nearer : goal.returns-clause-nearer
returns-clause-nearer c = λ other ne may.
    let was = sym c.self.view_is in
    let items = c.self.inside.acceptors.items in
    subst (λ (s : AcceptorsState). acceptors_before other (record { acceptors = items; first = c.in_ok-place.place + 1 }) < acceptors_before other s) c.self.view_is
    (nearer (length items) c.self.inside.first c.in_ok-place.place other c.self.invariant
    (subst (λ (s : AcceptorsState). c.in_ok-place.place < length s.acceptors) was c.in_ok-place.ensures.within)
    (may_within items other c.args.now c.args.room (subst (λ (s : AcceptorsState). MayAcceptAt s.acceptors other c.args.now c.args.room) was may))
    ne
    (subst (λ (s : AcceptorsState). acceptors_before c.in_ok-place.place s ≤ acceptors_before other s) was (c.in_ok-place.ensures.first other may)))
