use Rattle.std.proofs.Common.{sym, ◌∙◌, ap, subst, ℕ, Option}
use Rattle.gate_turns.specs.declared.seat.Seat.{Seat}
use Rattle.gate_turns.specs.Turns.{IsSeated, TurnsState}
use Rattle.gate_turns.proofs.Seating.{chosen_seated, chosen_open}
use Rattle.gate_turns.proofs.turns.Turns.next.Goals as goal

pub returns-in_err-seat-clause-none : goal.returns-in_err-seat-clause-none
returns-in_err-seat-clause-none c =
    elim (chosen_open c.self.inside.seats.entries c.self.inside.lanes c.next.new.self c.self.inside.turn c.in_ok-chosen.chosen.lane c.in_ok-chosen.chosen.id c.self.invariant c.in_ok-chosen.ensures.some
    (sym c.get.ensures.value ∙ sym c.copied.ensures ∙ c.in_err-seat.was)) [ ]

pub invariant_of-self-2 : goal.invariant_of-self-2
invariant_of-self-2 c =
    chosen_seated c.self.inside.seats.entries c.set_seat.new.seats.entries c.self.inside.lanes c.next.new.self c.in_ok-chosen.chosen.lane c.in_ok-chosen.chosen.id c.in_ok-seat.seat c.begin.new.self
    (subst (λ (x : Option ℕ). IsSeated c.self.inside.seats.entries c.self.inside.lanes x) (ap (λ (x : TurnsState). x.turn) c.self.view_is ∙ c.requires.idle) c.self.invariant)
    c.in_ok-chosen.ensures.some
    (sym c.get.ensures.value ∙ sym c.copied.ensures ∙ c.in_ok-seat.was)
    c.set_seat.ensures.own (ap (λ (x : Seat). x.place) c.begin.ensures) c.set_seat.ensures.others c.set_seat.ensures.count
