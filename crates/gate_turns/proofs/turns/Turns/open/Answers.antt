use Rattle.std.proofs.Common.{sym, ◌∙◌, ap, arith}
use Rattle.gate_turns.specs.declared.seat.Seat.{Seat}
use Rattle.gate_turns.specs.declared.seat.Lane.TheVariants.{Fresh}
use Rattle.gate_turns.specs.Turns.{TurnsState, seat_in, times_of}
use Rattle.gate_turns.proofs.Seating.{come_done, keeps_all, none_some}
use Rattle.gate_turns.proofs.Room.{all_open_left}
use Rattle.gate_turns.proofs.turns.Turns.open.Goals as goal

pub push-requires : goal.push-requires
push-requires c = omega (arith, all_open_left c.self.inside.seats.entries c.self.inside.lanes c.self.inside.turn c.self.invariant)

pub invariant_of-self-2 : goal.invariant_of-self-2
invariant_of-self-2 c =
    let none = ap (λ (x : TurnsState). seat_in x.seats c.args.id) c.self.view_is ∙ c.requires.fresh in
    come_done c.self.inside.seats.entries c.add_seat.new.seats.entries c.self.inside.lanes c.push.new.self c.self.inside.turn c.self.inside.turn c.args.id c.new.result Fresh
    c.self.invariant (λ l. ap (times_of l) none) (ap (λ (x : Seat). x.place) c.new.ensures)
    (λ is. none_some c.args.id (sym (ap (λ (x : TurnsState). x.turn) c.self.view_is ∙ c.requires.idle) ∙ is)) (λ q apart. keeps_all c.self.inside.turn q)
    c.add_seat.ensures.others c.if-not-add_seat.ensures.own c.push.ensures (omega arith)
