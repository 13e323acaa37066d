-- Each connection stays in exactly one place.
use Rattle.std.proofs.Common.{◌≡◌, ◌≢◌, ℕ, ◌+◌, ◌≤◌, List, [], ◌∷◌, ◌++◌, length, Bool, true, false, nat_eq, ne_eqb, eq-eqb, refl, sym, ap, subst, ◌∙◌, Option, Some, None, arith, inl, inr}
use Rattle.std.proofs.lemmas.Bool.{cases_eq}
use Rattle.std.specs.Prelude.{if◌then◌else◌, IsSome}
use Rattle.gate_turns.specs.declared.seat.Seat.{Seat}
use Rattle.gate_turns.specs.declared.seat.Lane.{Lane}
use Rattle.gate_turns.specs.declared.seat.Lane.TheVariants.{Quick, Fresh, Slow}
use Rattle.gate_turns.specs.declared.seat.Side.{Side}
use Rattle.gate_turns.specs.declared.seat.Place.{Place}
use Rattle.gate_turns.specs.declared.seat.Place.TheVariants.{Queued, Turn, Awaits}
use Rattle.gate_turns.specs.Seat.{IsSeatSettled, IsSettledAt, is_woken, lane_in}
use Rattle.gate_turns.specs.Lanes.{LanesState, queue_of, lanes_with, HasTurn}
use Rattle.gate_turns.specs.Turns.{IsSeated, seat_in, times_in, times_of, times_at, IsSettledIn, HasTurnNow, lanes_after}

pub times_push : (q id : ℕ) (xs : List ℕ) → times_in q (xs ++ id ∷ []) ≡ times_in q xs + (if nat_eq id q then 1 else 0)
times_push q id [] = omega arith
times_push q id (x ∷ xs) = omega (arith, times_push q id xs)

-- another connection has its turn exactly where it had it
abbrev pub Keeps : Option ℕ → Option ℕ → ℕ → Type 0
Keeps turn now q = (turn ≡ Some q → now ≡ Some q) × (now ≡ Some q → turn ≡ Some q)

pub keeps_all : (turn : Option ℕ) (q : ℕ) → Keeps turn turn q
keeps_all turn q = (λ e. e, λ e. e)

carried : (turn now : Option ℕ) (q : ℕ) (o : Option Seat) → Keeps turn now q → HasTurnNow turn q o → HasTurnNow now q o
carried turn now q None keeps had = λ is. had (keeps.1 is)
carried turn now q (Some seat) keeps had = (λ is. keeps.0 (had.0 is), λ is. had.1 (keeps.1 is))

pub none_some : (q : ℕ) → None ≡ Some q → ⊥
none_some q is = cc

some_is : (id q : ℕ) → Some id ≡ Some q → id ≡ q
some_is id q is = cc

other_some : (id q : ℕ) → q ≢ id → Some id ≡ Some q → ⊥
other_some id q apart is = apart (sym (some_is id q is))

-- the one that has its turn has it no more
pub turn_ends : (id q : ℕ) → q ≢ id → Keeps (Some id) None q
turn_ends id q apart = (λ is. elim (other_some id q apart is) [ ], λ is. elim (none_some q is) [ ])

none_at : (lane : Lane) → times_at lane Turn ≡ 0
none_at Quick = refl
none_at Fresh = refl
none_at Slow = refl

-- One connection has another place, and no other has.
pub moved : (seats left : List (ℕ × Seat)) (lanes after : LanesState) (turn now : Option ℕ) (id : ℕ) (o : Option Seat)
    → IsSeated seats lanes turn → seat_in left id ≡ o
    → ((q : ℕ) → q ≢ id → seat_in left q ≡ seat_in seats q)
    → ((lane : Lane) → times_in id (queue_of lane after) ≡ times_of lane o)
    → ((lane : Lane) (q : ℕ) → q ≢ id → times_in q (queue_of lane after) ≡ times_in q (queue_of lane lanes))
    → IsSettledIn o → HasTurnNow now id o → ((q : ℕ) → q ≢ id → Keeps turn now q)
    → length left ≤ after.room → IsSeated left after now
moved seats left lanes after turn now id o was own others times same placed has keeps within = record {
  queued = λ lane q. elim (cases_eq q id) [
    | inl e ↦ subst (λ (x : ℕ). times_in x (queue_of lane after) ≡ times_of lane (seat_in left x)) (sym e) (times lane ∙ ap (times_of lane) (sym own))
    | inr ne ↦ same lane q ne ∙ was.queued lane q ∙ ap (times_of lane) (sym (others q ne))
  ];
  waits = λ q. elim (cases_eq q id) [
    | inl e ↦ subst (λ (x : ℕ). IsSettledIn (seat_in left x)) (sym e) (subst IsSettledIn (sym own) placed)
    | inr ne ↦ subst IsSettledIn (sym (others q ne)) (was.waits q)
  ];
  one = λ q. elim (cases_eq q id) [
    | inl e ↦ subst (λ (x : ℕ). HasTurnNow now x (seat_in left x)) (sym e) (subst (HasTurnNow now id) (sym own) has)
    | inr ne ↦ subst (HasTurnNow now q) (sym (others q ne)) (carried turn now q (seat_in seats q) (keeps q ne) (was.one q))
  ];
  within = within;
}

times_hit : (id : ℕ) (xs : List ℕ) → times_in id (xs ++ id ∷ []) ≡ times_in id xs + 1
times_hit id xs = grind (arith, times_push id id xs, eq-eqb id id refl)

times_miss : (q id : ℕ) (xs : List ℕ) → q ≢ id → times_in q (xs ++ id ∷ []) ≡ times_in q xs
times_miss q id xs apart = grind (arith, times_push q id xs, ne_eqb id q (λ e. apart (sym e)))

-- it was nowhere, and stands in the lane of its place now
pub put_own : (lane : Lane) (place : Place) (id : ℕ) (s : LanesState) → ((l : Lane) → times_in id (queue_of l s) ≡ 0) → times_in id (queue_of lane (lanes_after place id s)) ≡ times_at lane place
put_own Quick (Queued Quick) id s none = times_hit id s.quick ∙ ap (λ (n : ℕ). n + 1) (none Quick)
put_own Quick (Queued Fresh) id s none = none Quick
put_own Quick (Queued Slow) id s none = none Quick
put_own Fresh (Queued Quick) id s none = none Fresh
put_own Fresh (Queued Fresh) id s none = times_hit id s.fresh ∙ ap (λ (n : ℕ). n + 1) (none Fresh)
put_own Fresh (Queued Slow) id s none = none Fresh
put_own Slow (Queued Quick) id s none = none Slow
put_own Slow (Queued Fresh) id s none = none Slow
put_own Slow (Queued Slow) id s none = times_hit id s.slow ∙ ap (λ (n : ℕ). n + 1) (none Slow)
put_own Quick Turn id s none = none Quick
put_own Fresh Turn id s none = none Fresh
put_own Slow Turn id s none = none Slow
put_own Quick (Awaits side) id s none = none Quick
put_own Fresh (Awaits side) id s none = none Fresh
put_own Slow (Awaits side) id s none = none Slow

pub put_others : (place : Place) (id : ℕ) (s : LanesState) (lane : Lane) (q : ℕ) → q ≢ id → times_in q (queue_of lane (lanes_after place id s)) ≡ times_in q (queue_of lane s)
put_others (Queued Quick) id s Quick q apart = times_miss q id s.quick apart
put_others (Queued Quick) id s Fresh q apart = refl
put_others (Queued Quick) id s Slow q apart = refl
put_others (Queued Fresh) id s Quick q apart = refl
put_others (Queued Fresh) id s Fresh q apart = times_miss q id s.fresh apart
put_others (Queued Fresh) id s Slow q apart = refl
put_others (Queued Slow) id s Quick q apart = refl
put_others (Queued Slow) id s Fresh q apart = refl
put_others (Queued Slow) id s Slow q apart = times_miss q id s.slow apart
put_others Turn id s lane q apart = refl
put_others (Awaits side) id s lane q apart = refl

-- who has its turn stood in its lane
times_front : (q id : ℕ) (xs ys : List ℕ) → xs ≡ id ∷ ys → times_in q xs ≡ (if nat_eq id q then 1 else 0) + times_in q ys
times_front q id xs ys is = ap (times_in q) is

front_others : (q id : ℕ) (xs ys : List ℕ) → xs ≡ id ∷ ys → q ≢ id → times_in q ys ≡ times_in q xs
front_others q id xs ys is apart = grind (arith, times_front q id xs ys is, ne_eqb id q (λ e. apart (sym e)))

front_own : (id : ℕ) (xs ys : List ℕ) → xs ≡ id ∷ ys → times_in id xs ≡ times_in id ys + 1
front_own id xs ys is = grind (arith, times_front id id xs ys is, eq-eqb id id refl)

-- a place is in one lane at most
pub one_lane : (place : Place) → times_at Quick place + times_at Fresh place + times_at Slow place ≤ 1
one_lane (Queued Quick) = omega arith
one_lane (Queued Fresh) = omega arith
one_lane (Queued Slow) = omega arith
one_lane Turn = omega arith
one_lane (Awaits side) = omega arith

pub turn_others : (to : Lane) (id : ℕ) (s t : LanesState) → HasTurn to id s t → (lane : Lane) (q : ℕ) → q ≢ id → times_in q (queue_of lane t) ≡ times_in q (queue_of lane s)
turn_others Quick id s t (front, some, is) Quick q apart = front_others q id s.quick t.quick front apart
turn_others Quick id s t (front, some, is) Fresh q apart = ap (λ (x : LanesState). times_in q x.fresh) is
turn_others Quick id s t (front, some, is) Slow q apart = ap (λ (x : LanesState). times_in q x.slow) is
turn_others Fresh id s t (front, no_quick, some, is) Quick q apart = ap (λ (x : LanesState). times_in q x.quick) is
turn_others Fresh id s t (front, no_quick, some, is) Fresh q apart = front_others q id s.fresh t.fresh front apart
turn_others Fresh id s t (front, no_quick, some, is) Slow q apart = ap (λ (x : LanesState). times_in q x.slow) is
turn_others Slow id s t (front, no_quick, no_first, no_fresh, some, is) Quick q apart = ap (λ (x : LanesState). times_in q x.quick) is
turn_others Slow id s t (front, no_quick, no_first, no_fresh, some, is) Fresh q apart = ap (λ (x : LanesState). times_in q x.fresh) is
turn_others Slow id s t (front, no_quick, no_first, no_fresh, some, is) Slow q apart = front_others q id s.slow t.slow front apart

-- it stood there once, and stands nowhere now
pub turn_own : (to : Lane) (id : ℕ) (s t : LanesState) (place : Place) → HasTurn to id s t → ((l : Lane) → times_in id (queue_of l s) ≡ times_at l place) → (lane : Lane) → times_in id (queue_of lane t) ≡ 0
turn_own Quick id s t place (front, some, is) were Quick = omega (arith, front_own id s.quick t.quick front, were Quick, one_lane place)
turn_own Quick id s t place (front, some, is) were Fresh = omega (arith, front_own id s.quick t.quick front, were Quick, were Fresh, one_lane place, ap (λ (x : LanesState). times_in id x.fresh) is)
turn_own Quick id s t place (front, some, is) were Slow = omega (arith, front_own id s.quick t.quick front, were Quick, were Slow, one_lane place, ap (λ (x : LanesState). times_in id x.slow) is)
turn_own Fresh id s t place (front, no_quick, some, is) were Quick = omega (arith, front_own id s.fresh t.fresh front, were Fresh, were Quick, one_lane place, ap (λ (x : LanesState). times_in id x.quick) is)
turn_own Fresh id s t place (front, no_quick, some, is) were Fresh = omega (arith, front_own id s.fresh t.fresh front, were Fresh, one_lane place)
turn_own Fresh id s t place (front, no_quick, some, is) were Slow = omega (arith, front_own id s.fresh t.fresh front, were Fresh, were Slow, one_lane place, ap (λ (x : LanesState). times_in id x.slow) is)
turn_own Slow id s t place (front, no_quick, no_first, no_fresh, some, is) were Quick = omega (arith, front_own id s.slow t.slow front, were Slow, were Quick, one_lane place, ap (λ (x : LanesState). times_in id x.quick) is)
turn_own Slow id s t place (front, no_quick, no_first, no_fresh, some, is) were Fresh = omega (arith, front_own id s.slow t.slow front, were Slow, were Fresh, one_lane place, ap (λ (x : LanesState). times_in id x.fresh) is)
turn_own Slow id s t place (front, no_quick, no_first, no_fresh, some, is) were Slow = omega (arith, front_own id s.slow t.slow front, were Slow, one_lane place)

-- who has its turn was open
pub turn_open : (to : Lane) (id : ℕ) (s t : LanesState) → HasTurn to id s t → ((l : Lane) → times_in id (queue_of l s) ≡ 0) → ⊥
turn_open Quick id s t (front, some, is) none = omega (arith, front_own id s.quick t.quick front, none Quick)
turn_open Fresh id s t (front, no_quick, some, is) none = omega (arith, front_own id s.fresh t.fresh front, none Fresh)
turn_open Slow id s t (front, no_quick, no_first, no_fresh, some, is) none = omega (arith, front_own id s.slow t.slow front, none Slow)

turn_room : (to : Lane) (id : ℕ) (s t : LanesState) → HasTurn to id s t → t.room ≡ s.room
turn_room Quick id s t (front, some, is) = ap (λ (x : LanesState). x.room) is
turn_room Fresh id s t (front, no_quick, some, is) = ap (λ (x : LanesState). x.room) is
turn_room Slow id s t (front, no_quick, no_first, no_fresh, some, is) = ap (λ (x : LanesState). x.room) is

-- one is chosen: it has its turn, and stands in no lane
pub chosen_seated : (seats left : List (ℕ × Seat)) (lanes after : LanesState) (to : Lane) (id : ℕ) (seat now : Seat)
    → IsSeated seats lanes None → HasTurn to id lanes after → seat_in seats id ≡ Some seat → seat_in left id ≡ Some now → now.place ≡ Turn
    → ((q : ℕ) → q ≢ id → seat_in left q ≡ seat_in seats q) → length left ≡ length seats → IsSeated left after (Some id)
chosen_seated seats left lanes after to id seat now was turn had has at others count =
    moved seats left lanes after None (Some id) id (Some now) was has others
    (λ lane. turn_own to id lanes after seat.place turn (λ l. was.queued l id ∙ ap (times_of l) had) lane ∙ sym (ap (times_at lane) at ∙ none_at lane))
    (turn_others to id lanes after turn)
    (subst (λ (x : Place). IsSettledAt x now) (sym at) tt) (λ _. refl, λ _. at) (λ q apart. (λ is. elim (none_some q is) [ ], λ is. elim (other_some id q apart is) [ ]))
    (omega (arith, count, was.within, turn_room to id lanes after turn))

-- what was queued was open
pub chosen_open : (seats : List (ℕ × Seat)) (lanes after : LanesState) (turn : Option ℕ) (to : Lane) (id : ℕ) → IsSeated seats lanes turn → HasTurn to id lanes after → seat_in seats id ≡ None → ⊥
chosen_open seats lanes after turn to id was has none = turn_open to id lanes after has (λ l. was.queued l id ∙ ap (times_of l) none)

room_after : (place : Place) (id : ℕ) (s : LanesState) → (lanes_after place id s).room ≡ s.room
room_after (Queued Quick) id s = refl
room_after (Queued Fresh) id s = refl
room_after (Queued Slow) id s = refl
room_after Turn id s = refl
room_after (Awaits side) id s = refl

-- A connection that stood in no lane came to a place.
pub come_seated : (seats left : List (ℕ × Seat)) (lanes : LanesState) (turn now : Option ℕ) (id : ℕ) (seat : Seat)
    → IsSeated seats lanes turn → ((l : Lane) → times_of l (seat_in seats id) ≡ 0) → seat_in left id ≡ Some seat → IsSeatSettled seat
    → HasTurnNow now id (Some seat) → ((q : ℕ) → q ≢ id → Keeps turn now q)
    → ((q : ℕ) → q ≢ id → seat_in left q ≡ seat_in seats q) → length left ≤ lanes.room → IsSeated left (lanes_after seat.place id lanes) now
come_seated seats left lanes turn now id seat was nowhere has placed mine keeps others within =
    moved seats left lanes (lanes_after seat.place id lanes) turn now id (Some seat) was has others
    (λ lane. put_own lane seat.place id lanes (λ l. was.queued l id ∙ nowhere l))
    (put_others seat.place id lanes) placed mine keeps (omega (arith, within, room_after seat.place id lanes))

-- A connection that stood in no lane was closed.
pub left_seated : (seats left : List (ℕ × Seat)) (lanes : LanesState) (turn now : Option ℕ) (id : ℕ)
    → IsSeated seats lanes turn → ((l : Lane) → times_of l (seat_in seats id) ≡ 0) → seat_in left id ≡ None
    → (now ≡ Some id → ⊥) → ((q : ℕ) → q ≢ id → Keeps turn now q)
    → ((q : ℕ) → q ≢ id → seat_in left q ≡ seat_in seats q) → length left ≤ length seats → IsSeated left lanes now
left_seated seats left lanes turn now id was nowhere has free keeps others count =
    moved seats left lanes lanes turn now id None was has others
    (λ lane. was.queued lane id ∙ nowhere lane) (λ lane q apart. refl) tt free keeps (omega (arith, count, was.within))

not_none : (seat : Seat) → None ≡ Some seat → ⊥
not_none seat is = cc

no_lane : (lane : Lane) → Some lane ≡ None → ⊥
no_lane lane is = cc

awaits_no_turn : (side : Side) → Awaits side ≡ Turn → ⊥
awaits_no_turn side is = cc

queued_no_turn : (lane : Lane) → Queued lane ≡ Turn → ⊥
queued_no_turn lane is = cc

pub none_awaits : (lane : Lane) (side : Side) → times_at lane (Awaits side) ≡ 0
none_awaits Quick side = refl
none_awaits Fresh side = refl
none_awaits Slow side = refl

-- one that stood in no lane stands in one now
pub come_done : (seats left : List (ℕ × Seat)) (lanes after : LanesState) (turn now : Option ℕ) (id : ℕ) (seat : Seat) (lane : Lane)
    → IsSeated seats lanes turn → ((l : Lane) → times_of l (seat_in seats id) ≡ 0) → seat.place ≡ Queued lane
    → (now ≡ Some id → ⊥) → ((q : ℕ) → q ≢ id → Keeps turn now q)
    → ((q : ℕ) → q ≢ id → seat_in left q ≡ seat_in seats q)
    → seat_in left id ≡ Some seat → after ≡ lanes_with lane id lanes → length left ≤ lanes.room
    → IsSeated left after now
come_done seats left lanes after turn now id seat lane was nowhere at free keeps others own is within =
    subst (λ (x : LanesState). IsSeated left x now) (ap (λ (p : Place). lanes_after p id lanes) at ∙ sym is)
    (come_seated seats left lanes turn now id seat was nowhere own (subst (λ (x : Place). IsSettledAt x seat) (sym at) tt)
    (λ is2. elim (queued_no_turn lane (sym at ∙ is2)) [ ], λ is2. elim (free is2) [ ]) keeps others within)

pub is_open : {o : Option Seat} {seat : Seat} → o ≡ Some seat → IsSome o
is_open {o = None} {seat = seat} is = elim (not_none seat is) [ ]
is_open {o = Some x} {seat = seat} is = refl

-- a seat that has no turn
pub not_in_turn : (seats : List (ℕ × Seat)) (lanes : LanesState) (turn : Option ℕ) (id : ℕ) (seat : Seat) → IsSeated seats lanes turn → seat_in seats id ≡ Some seat → HasTurnNow turn id (Some seat)
not_in_turn seats lanes turn id seat was had = subst (HasTurnNow turn id) had (was.one id)

-- one that has its turn stands in no lane
pub turn_nowhere : (seats : List (ℕ × Seat)) (lanes : LanesState) (turn : Option ℕ) (id : ℕ) (seat : Seat) → IsSeated seats lanes turn → seat_in seats id ≡ Some seat → turn ≡ Some id → (l : Lane) → times_of l (seat_in seats id) ≡ 0
turn_nowhere seats lanes turn id seat was had is l = ap (times_of l) had ∙ ap (times_at l) ((not_in_turn seats lanes turn id seat was had).1 is) ∙ none_at l

-- one that a report woke waited for its socket
pub woken_waits : (p : Place) (now : Seat) (o : Option Lane) (lane : Lane) → Some lane ≡ (if is_woken p now then o else None) → (l : Lane) → (times_at l p ≡ 0) × (p ≡ Turn → ⊥)
woken_waits (Queued x) now o lane is l = elim (no_lane lane is) [ ]
woken_waits Turn now o lane is l = elim (no_lane lane is) [ ]
woken_waits (Awaits side) now o lane is l = (none_awaits l side, λ e. awaits_no_turn side e)

pub lane_is : (p : Place) (lane : Lane) → Some lane ≡ lane_in p → p ≡ Queued lane
lane_is (Queued x) lane is = cc
lane_is Turn lane is = elim (no_lane lane is) [ ]
lane_is (Awaits side) lane is = elim (no_lane lane is) [ ]

pub woken_lane : (b : Bool) (p : Place) (lane : Lane) → Some lane ≡ (if b then lane_in p else None) → p ≡ Queued lane
woken_lane true p lane is = lane_is p lane is
woken_lane false p lane is = elim (no_lane lane is) [ ]

-- one that a report did not wake is where it was
pub not_woken : (b : Bool) (p old : Place) (lane : Lane) → None ≡ (if b then lane_in p else None) → p ≡ (if b then Queued lane else old) → p ≡ old
not_woken true p old lane none is = elim (no_lane lane (sym (none ∙ ap lane_in is))) [ ]
not_woken false p old lane none is = is

-- a place that is none of a lane, where it is kept
pub stay_seated : (seats left : List (ℕ × Seat)) (lanes : LanesState) (turn : Option ℕ) (id : ℕ) (old seat : Seat)
    → IsSeated seats lanes turn → seat_in seats id ≡ Some old → seat_in left id ≡ Some seat → seat.place ≡ old.place → IsSeatSettled seat
    → ((q : ℕ) → q ≢ id → seat_in left q ≡ seat_in seats q) → length left ≡ length seats → IsSeated left lanes turn
stay_seated seats left lanes turn id old seat was had has at placed others count =
    moved seats left lanes lanes turn turn id (Some seat) was has others
    (λ lane. was.queued lane id ∙ ap (times_of lane) had ∙ ap (times_at lane) (sym at)) (λ lane q apart. refl) placed
    (λ is. (not_in_turn seats lanes turn id old was had).0 (sym at ∙ is), λ is. at ∙ (not_in_turn seats lanes turn id old was had).1 is)
    (λ q apart. keeps_all turn q) (omega (arith, count, was.within))
