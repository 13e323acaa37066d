use Rattle.std.proofs.Common.{◌≡◌, ◌∙◌, ap, arith, ℕ, List, Some}
use Rattle.gate_flow.specs.Hosted.{IsOwnId}
use Rattle.gate_turns.specs.declared.seat.Seat.{Seat}
use Rattle.gate_turns.specs.Lanes.{turns_due}
use Rattle.gate_turns.specs.Turns.{TurnsState, HasLeft, seat_at, seat_in}
use Rattle.gate_poll.specs.Table.{peer_in, IsSocketCalled}
use Rattle.gate_poll.proofs.Hosts.{of_own, own_then}
use Rattle.gate_poll.proofs.Keeping.{kept_but, kept_turned, own_flow, own_called, own_more, called, called_same, closed_so, stays_so, seat_after, open_turn, due_after}
use Rattle.gate_poll.proofs.LettingGo.{one_kept, gone_then}
use Rattle.gate_poll.proofs.table.Table.turn.Goals as goal

pub returns-in_default-clause-served : goal.returns-in_default-clause-served
returns-in_default-clause-served g c = absurd (open_turn c.args.self.now.turns.seats c.args.self.now.turns.lanes c.args.self.now.turns.turn c.args.chosen.id c.seat.ensures.seated c.requires.turn cc)

pub call-outcome-requires : goal.call-outcome-requires
call-outcome-requires g c = own_flow c.args.self.now.ids.next c.args.chosen.id (peer_in c.args.self.now.peers.entries c.args.chosen.id) (seat_at c.args.self.now.turns c.args.chosen.id) (c.requires.each c.args.chosen.id)

pub turned-requires : goal.turned-requires
turned-requires g c = record { turn = c.shorten.ensures.turn ∙ c.requires.turn }

pub remove-requires : goal.remove-requires
remove-requires g c =
    let had : seat_at c.shorten.new.turns c.args.chosen.id ≡ Some c.in-Some.seat = ap (λ (ss : List (ℕ × Seat)). seat_in ss c.args.chosen.id) c.shorten.ensures.seats ∙ cc in
    let was : IsSocketCalled c.args.chosen.id c.call-outcome.result.turned c.args.self.now.peers.entries c.call-outcome.new.peers.entries × IsOwnId 1 c.args.self.now.ids.next c.args.chosen.id =
    called c.args.self.now.ids.next c.args.chosen.id c.args.self.now.peers.entries c.call-outcome.new.peers.entries c.call-outcome.result.turned c.in-Some.seat (peer_in c.args.self.now.peers.entries c.args.chosen.id) (seat_at c.args.self.now.turns c.args.chosen.id) (cc) (c.requires.each c.args.chosen.id) c.call-outcome.ensures.called in
    let same = called_same c.args.self.now.ids.next c.args.chosen.id c.args.self.now.peers.entries c.call-outcome.new.peers.entries c.call-outcome.result.turned (seat_at c.args.self.now.turns c.args.chosen.id) (c.requires.each c.args.chosen.id) was.0 in
    let left : HasLeft c.args.chosen.id c.shorten.new.turns c.turned.new.self = closed_so c.turned.result c.args.chosen.id c.call-outcome.result.turned c.shorten.new.turns c.turned.new.self (seat_at c.shorten.new.turns c.args.chosen.id) (seat_at c.turned.new.self c.args.chosen.id) c.in-Some.seat c.if-not-turned.true had c.turned.ensures.turned in
    kept_but c.args.self.now.ids.next c.args.chosen.id c.args.self.now.peers.entries c.call-outcome.new.peers.entries c.args.self.now.turns c.turned.new.self c.requires.first c.requires.each c.call-outcome.ensures.others (λ q ne. c.turned.ensures.others q ne ∙ ap (λ (ss : List (ℕ × Seat)). seat_in ss q) c.shorten.ensures.seats)
    (own_called c.args.self.now.ids.next c.args.chosen.id (peer_in c.call-outcome.new.peers.entries c.args.chosen.id) was.0.after was.0.found was.1 same) left.seat c.turned.ensures.idle

pub returns-then-not-turned-clause-served : goal.returns-then-not-turned-clause-served
returns-then-not-turned-clause-served g c =
    let was : IsSocketCalled c.args.chosen.id c.call-outcome.result.turned c.args.self.now.peers.entries c.call-outcome.new.peers.entries × IsOwnId 1 c.args.self.now.ids.next c.args.chosen.id =
    called c.args.self.now.ids.next c.args.chosen.id c.args.self.now.peers.entries c.call-outcome.new.peers.entries c.call-outcome.result.turned c.in-Some.seat (peer_in c.args.self.now.peers.entries c.args.chosen.id) (seat_at c.args.self.now.turns c.args.chosen.id) (cc) (c.requires.each c.args.chosen.id) c.call-outcome.ensures.called in
    record {
      kept = c.remove.ensures.served.kept;
      next_is = c.remove.ensures.served.next_is;
      hosted = own_then c.gateways_are_hosted.ensures.joined c.gateways_are_hosted.ensures.wider c.remove.new.self.ids.next c.args.chosen.id c.args.lobby.now c.call-outcome.new.lobby c.remove.new.lobby
          (own_more c.args.self.now.ids.next c.remove.new.self.ids.next c.args.chosen.id c.remove.ensures.served.next_is was.1) c.call-outcome.ensures.hosted c.remove.ensures.served.hosted;
    }

pub returns-then-not-turned-clause-due : goal.returns-then-not-turned-clause-due
returns-then-not-turned-clause-due g c =
    let had : seat_at c.shorten.new.turns c.args.chosen.id ≡ Some c.in-Some.seat = ap (λ (ss : List (ℕ × Seat)). seat_in ss c.args.chosen.id) c.shorten.ensures.seats ∙ cc in
    let left : HasLeft c.args.chosen.id c.shorten.new.turns c.turned.new.self = closed_so c.turned.result c.args.chosen.id c.call-outcome.result.turned c.shorten.new.turns c.turned.new.self (seat_at c.shorten.new.turns c.args.chosen.id) (seat_at c.turned.new.self c.args.chosen.id) c.in-Some.seat c.if-not-turned.true had c.turned.ensures.turned in
    omega (arith, ap (λ (x : TurnsState). turns_due x.lanes) c.remove.ensures.turns, ap turns_due left.lanes, c.shorten.ensures.due)

pub returns-else-not-turned-clause-served : goal.returns-else-not-turned-clause-served
returns-else-not-turned-clause-served g c =
    let had : seat_at c.shorten.new.turns c.args.chosen.id ≡ Some c.in-Some.seat = ap (λ (ss : List (ℕ × Seat)). seat_in ss c.args.chosen.id) c.shorten.ensures.seats ∙ cc in
    let was : IsSocketCalled c.args.chosen.id c.call-outcome.result.turned c.args.self.now.peers.entries c.call-outcome.new.peers.entries × IsOwnId 1 c.args.self.now.ids.next c.args.chosen.id =
    called c.args.self.now.ids.next c.args.chosen.id c.args.self.now.peers.entries c.call-outcome.new.peers.entries c.call-outcome.result.turned c.in-Some.seat (peer_in c.args.self.now.peers.entries c.args.chosen.id) (seat_at c.args.self.now.turns c.args.chosen.id) (cc) (c.requires.each c.args.chosen.id) c.call-outcome.ensures.called in
    let same = called_same c.args.self.now.ids.next c.args.chosen.id c.args.self.now.peers.entries c.call-outcome.new.peers.entries c.call-outcome.result.turned (seat_at c.args.self.now.turns c.args.chosen.id) (c.requires.each c.args.chosen.id) was.0 in
    let now = stays_so c.turned.result c.args.chosen.id c.call-outcome.result.turned c.shorten.new.turns c.turned.new.self (seat_at c.shorten.new.turns c.args.chosen.id) (seat_at c.turned.new.self c.args.chosen.id) c.in-Some.seat c.if-not-turned.false had c.turned.ensures.turned in
    record {
      kept = kept_turned c.args.self.now.ids.next c.args.chosen.id c.args.self.now.peers.entries c.call-outcome.new.peers.entries c.args.self.now.turns c.turned.new.self c.requires c.call-outcome.ensures.others (λ q ne. c.turned.ensures.others q ne ∙ ap (λ (ss : List (ℕ × Seat)). seat_in ss q) c.shorten.ensures.seats)
          (seat_after c.args.self.now.ids.next c.turned.new.self.count c.args.chosen.id (peer_in c.call-outcome.new.peers.entries c.args.chosen.id) (seat_at c.turned.new.self c.args.chosen.id) was.0.after now.0 now.1.0 c.call-outcome.result.turned was.0.found now.1.1.1.seat was.1 same was.0.waits was.0.owed was.0.idle now.1.1.0)
          c.turned.ensures.idle;
      next_is = omega arith;
      hosted = of_own c.gateways_are_hosted.ensures.wider c.args.self.now.ids.next c.args.chosen.id c.args.lobby.now c.call-outcome.new.lobby was.1 c.call-outcome.ensures.hosted;
    }

pub returns-else-not-turned-clause-due : goal.returns-else-not-turned-clause-due
returns-else-not-turned-clause-due g c =
    let had : seat_at c.shorten.new.turns c.args.chosen.id ≡ Some c.in-Some.seat = ap (λ (ss : List (ℕ × Seat)). seat_in ss c.args.chosen.id) c.shorten.ensures.seats ∙ cc in
    let now = stays_so c.turned.result c.args.chosen.id c.call-outcome.result.turned c.shorten.new.turns c.turned.new.self (seat_at c.shorten.new.turns c.args.chosen.id) (seat_at c.turned.new.self c.args.chosen.id) c.in-Some.seat c.if-not-turned.false had c.turned.ensures.turned in
    omega (arith, ap turns_due now.1.1.1.lanes, due_after now.1.0.place c.args.chosen.id c.shorten.new.turns.lanes, c.shorten.ensures.due)

pub returns-in_default-clause-let_go : goal.returns-in_default-clause-let_go
returns-in_default-clause-let_go g c = absurd (open_turn c.args.self.now.turns.seats c.args.self.now.turns.lanes c.args.self.now.turns.turn c.args.chosen.id c.seat.ensures.seated c.requires.turn cc)

pub returns-then-not-turned-clause-let_go : goal.returns-then-not-turned-clause-let_go
returns-then-not-turned-clause-let_go g c =
    let was : IsSocketCalled c.args.chosen.id c.call-outcome.result.turned c.args.self.now.peers.entries c.call-outcome.new.peers.entries × IsOwnId 1 c.args.self.now.ids.next c.args.chosen.id =
    called c.args.self.now.ids.next c.args.chosen.id c.args.self.now.peers.entries c.call-outcome.new.peers.entries c.call-outcome.result.turned c.in-Some.seat (peer_in c.args.self.now.peers.entries c.args.chosen.id) (seat_at c.args.self.now.turns c.args.chosen.id) (cc) (c.requires.each c.args.chosen.id) c.call-outcome.ensures.called in
    gone_then _ _ _ c.args.self.now.peers.entries c.call-outcome.new.peers.entries c.remove.new.self.peers.entries c.args.lobby.now c.call-outcome.new.lobby c.remove.new.lobby
    (one_kept _ _ c.args.chosen.id c.args.self.now.peers.entries c.call-outcome.new.peers.entries was.0.after c.args.lobby.now c.call-outcome.new.lobby (λ other is. is) c.call-outcome.ensures.others c.call-outcome.ensures.hosted was.0.found)
    c.remove.ensures.let_go

pub returns-else-not-turned-clause-let_go : goal.returns-else-not-turned-clause-let_go
returns-else-not-turned-clause-let_go g c =
    let was : IsSocketCalled c.args.chosen.id c.call-outcome.result.turned c.args.self.now.peers.entries c.call-outcome.new.peers.entries × IsOwnId 1 c.args.self.now.ids.next c.args.chosen.id =
    called c.args.self.now.ids.next c.args.chosen.id c.args.self.now.peers.entries c.call-outcome.new.peers.entries c.call-outcome.result.turned c.in-Some.seat (peer_in c.args.self.now.peers.entries c.args.chosen.id) (seat_at c.args.self.now.turns c.args.chosen.id) (cc) (c.requires.each c.args.chosen.id) c.call-outcome.ensures.called in
    one_kept _ _ c.args.chosen.id c.args.self.now.peers.entries c.call-outcome.new.peers.entries was.0.after c.args.lobby.now c.call-outcome.new.lobby (λ other is. is) c.call-outcome.ensures.others c.call-outcome.ensures.hosted was.0.found
