use Rattle.std.proofs.Common.{sym, ◌∙◌, ap, subst, arith}
use Rattle.gate_turns.specs.Turns.{times_of, HasTurnNow}
use Rattle.gate_turns.proofs.Seating.{come_done, stay_seated, woken_waits, woken_lane, not_woken, keeps_all, is_open}
use Rattle.gate_turns.proofs.Room.{room_left}
use Rattle.gate_turns.proofs.turns.Turns.report.Goals as goal

pub come-requires-clause-room : goal.come-requires-clause-room
come-requires-clause-room c =
    let had = sym c.get.ensures.value ∙ sym c.copied.ensures ∙ c.in-Some.is in
    let waits = woken_waits c.in-Some.seat.place c.report.new.self _ c.in-Some-report.lane (sym c.in-Some-report.is ∙ c.report.ensures.woken) in
    room_left c.self.inside.seats.entries c.self.inside.lanes c.self.inside.turn c.args.id c.self.invariant (is_open had) (λ l. ap (times_of l) had ∙ (waits l).0)

pub invariant_of-self : goal.invariant_of-self
invariant_of-self c =
    let had = sym c.get.ensures.value ∙ sym c.copied.ensures ∙ c.in-Some.is in
    let waits = woken_waits c.in-Some.seat.place c.report.new.self _ c.in-Some-report.lane (sym c.in-Some-report.is ∙ c.report.ensures.woken) in
    come_done c.self.inside.seats.entries c.come.new.seats.entries c.self.inside.lanes c.come.new.lanes c.self.inside.turn c.self.inside.turn c.args.id c.report.new.self c.in-Some-report.lane
    c.self.invariant (λ l. ap (times_of l) had ∙ (waits l).0) (woken_lane _ c.report.new.self.place c.in-Some-report.lane (sym c.in-Some-report.is ∙ c.report.ensures.woken))
    (λ is. (waits c.in-Some-report.lane).1 ((subst (HasTurnNow c.self.inside.turn c.args.id) had (c.self.invariant.one c.args.id)).1 is)) (λ q apart. keeps_all c.self.inside.turn q)
    c.come.ensures.others c.come.ensures.own c.come.ensures.lanes (omega (arith, c.come.ensures.count, c.self.invariant.within))

pub invariant_of-self-in-None : goal.invariant_of-self-in-None
invariant_of-self-in-None c =
    let had = sym c.get.ensures.value ∙ sym c.copied.ensures ∙ c.in-Some.is in
    stay_seated c.self.inside.seats.entries c.set_seat.new.seats.entries c.self.inside.lanes c.self.inside.turn c.args.id c.in-Some.seat c.report.new.self
    c.self.invariant had c.set_seat.ensures.own (not_woken _ c.report.new.self.place c.in-Some.seat.place _ (sym c.in-None.is ∙ c.report.ensures.woken) c.report.ensures.told.place)
    c.report.ensures.settled c.set_seat.ensures.others c.set_seat.ensures.count
