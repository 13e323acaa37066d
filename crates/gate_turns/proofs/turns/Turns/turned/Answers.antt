use Rattle.std.proofs.Common.{sym, ◌∙◌, ap, subst, ℕ, Option, None, arith}
use Rattle.gate_turns.specs.Turns.{TurnsState}
use Rattle.gate_turns.proofs.Seating.{come_done, turn_nowhere, lane_is, Keeps, turn_ends, none_some, is_open}
use Rattle.gate_turns.proofs.Room.{room_left}
use Rattle.gate_turns.proofs.turns.Turns.turned.Goals as goal

pub come-requires-clause-room : goal.come-requires-clause-room
come-requires-clause-room c =
    let had = sym c.get.ensures.value ∙ sym c.copied.ensures ∙ c.in-Some.is in
    let mine = ap (λ (x : TurnsState). x.turn) c.self.view_is ∙ c.requires.turn in
    room_left c.self.inside.seats.entries c.self.inside.lanes c.self.inside.turn c.args.id c.self.invariant (is_open had)
    (turn_nowhere c.self.inside.seats.entries c.self.inside.lanes c.self.inside.turn c.args.id c.in-Some.seat c.self.invariant had mine)

pub invariant_of-self-in-Some-lane : goal.invariant_of-self-in-Some-lane
invariant_of-self-in-Some-lane c =
    let had = sym c.get.ensures.value ∙ sym c.copied.ensures ∙ c.in-Some.is in
    let mine = ap (λ (x : TurnsState). x.turn) c.self.view_is ∙ c.requires.turn in
    come_done c.self.inside.seats.entries c.come.new.seats.entries c.self.inside.lanes c.come.new.lanes c.self.inside.turn None c.args.id c.turns-lane.new.self c.in-Some-lane.lane
    c.self.invariant (turn_nowhere c.self.inside.seats.entries c.self.inside.lanes c.self.inside.turn c.args.id c.in-Some.seat c.self.invariant had mine)
    (lane_is c.turns-lane.new.self.place c.in-Some-lane.lane (sym c.in-Some-lane.is ∙ c.turns-lane.ensures.lane))
    (none_some c.args.id)
    (λ q apart. subst (λ (x : Option ℕ). Keeps x None q) (sym mine) (turn_ends c.args.id q apart))
    c.come.ensures.others c.come.ensures.own c.come.ensures.lanes (omega (arith, c.come.ensures.count, c.self.invariant.within))
