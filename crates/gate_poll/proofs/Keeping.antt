-- Each connection keeps its seat.
use Rattle.std.proofs.Common.{◌≡◌, ◌≢◌, ℕ, ◌+◌, ◌≤◌, ◌<◌, List, [], Option, Some, None, Bool, true, false, refl, sym, ap, subst, ◌∙◌, arith, inl, inr}
use Rattle.std.specs.Prelude.{IfSome, IfNone, IsSomeAnd, MatchBool, if◌then◌else◌}
use Rattle.std.proofs.lemmas.Bool.{cases_eq}
use Rattle.gate_flow.specs.State.{FlowState, opened_flow}
use Rattle.gate_flow.specs.Hosted.{IsOwnId}
use Rattle.gate_turns.specs.declared.seat.Seat.{Seat}
use Rattle.gate_turns.specs.declared.seat.Turned.{Turned}
use Rattle.gate_turns.specs.declared.seat.End.{End}
use Rattle.gate_turns.specs.declared.seat.End.TheVariants.{Again, Blocked, Over}
use Rattle.gate_turns.specs.declared.seat.Side.TheVariants.{Read, Write}
use Rattle.gate_turns.specs.declared.seat.Place.{Place}
use Rattle.gate_turns.specs.declared.seat.Place.TheVariants.{Queued, Turn, Awaits}
use Rattle.gate_turns.specs.declared.seat.Lane.{Lane}
use Rattle.gate_turns.specs.declared.seat.Lane.TheVariants.{Quick, Fresh, Slow}
use Rattle.gate_turns.specs.Lanes.{LanesState, HasTurn, turns_due}
use Rattle.gate_turns.specs.Places.{IsLongestIdle, idle_for}
use Rattle.gate_turns.specs.Seat.{IsTurned, idle_at, IsReported, StandsAfter, is_woken, lane_for, new_seat}
use Rattle.gate_turns.specs.Turns.{TurnsState, IsSeated, HasTurnNow, HasBegun, HasCome, HasLeft, IsAwaitingAt, IsDismissible, seat_at, seat_in, OthersStay, lanes_after}
use Rattle.gate_limits.specs.declared.ids.Ids.{Ids}
use Rattle.gate_poll.specs.declared.peer.Peer.{Peer}
use Rattle.gate_poll.specs.Peers.{owes, is_idle, owes_at, EndsFor, StandsFor}
use Rattle.gate_poll.specs.Table.{peer_in, OthersKept, IsSeatOf, HasSeat, IsOwnPeer, AreKept, IsTurnOf, AreKeptBut, IsSocketCalled}

others_have : (next q : ℕ) (p r : Option Peer) (s t : Option Seat) → r ≡ p → t ≡ s → HasSeat next q p s → HasSeat next q r t
others_have next q p r s t one two was = subst (λ (x : Option Peer). HasSeat next q x t) (sym one) (subst (λ (x : Option Seat). HasSeat next q p x) (sym two) was)

-- one id has what it has, and the others have what they had
pub each_but : (next id : ℕ) (peers left : List (ℕ × Peer)) (turns after : TurnsState)
    → ((q : ℕ) → q ≢ id → HasSeat next q (peer_in peers q) (seat_at turns q)) → OthersKept id peers left → OthersStay id turns after
    → HasSeat next id (peer_in left id) (seat_at after id) → (q : ℕ) → HasSeat next q (peer_in left q) (seat_at after q)
each_but next id peers left turns after was kept stay own q = elim (cases_eq q id) [
  | inl same ↦ subst (λ (x : ℕ). HasSeat next x (peer_in left x) (seat_at after x)) (sym same) own
  | inr ne ↦ others_have next q (peer_in peers q) (peer_in left q) (seat_at turns q) (seat_at after q) (kept q ne) (stay q ne) (was q ne)
]

pub own_more : (next more id : ℕ) → next ≤ more → IsOwnId 1 next id → IsOwnId 1 more id
own_more next more id less own = (own.0, omega (arith, own.1, less))

-- more ids were given
pub seat_more : (next more id : ℕ) (p : Option Peer) (s : Option Seat) → next ≤ more → HasSeat next id p s → HasSeat more id p s
seat_more next more id None None less was = tt
seat_more next more id None (Some seat) less was = was
seat_more next more id (Some peer) None less was = was
seat_more next more id (Some peer) (Some seat) less was = record { own = own_more next more id less was.own; same = was.same; waits = was.waits; owed = was.owed; idle = was.idle }

-- an id that wasn't given has no connection
pub ungiven : (next id : ℕ) (p : Option Peer) (s : Option Seat) → HasSeat next id p s → next ≤ id → (p ≡ None) × (s ≡ None)
ungiven next id None None was less = (refl, refl)
ungiven next id None (Some seat) was less = absurd was
ungiven next id (Some peer) None was less = absurd was
ungiven next id (Some peer) (Some seat) was less = absurd (omega (arith, was.own.1, less))

-- where it stands after a turn that ended so
pub stands_so : (end : End) (old new : Seat) (peer : Peer) → StandsAfter end old new → EndsFor end peer → StandsFor new.place peer
stands_so Again old new peer at waits = subst (λ (p : Place). StandsFor p peer) (sym at.0) tt
stands_so (Blocked Read) old new peer at waits = subst (λ (p : Place). StandsFor p peer) (sym at.0) waits
stands_so (Blocked Write) old new peer at waits = subst (λ (p : Place). StandsFor p peer) (sym at.0) waits
stands_so Over old new peer at waits = subst (λ (p : Place). StandsFor p peer) (sym at.0) tt

-- only one that is idle is idle by its seat
idle_so : (turns : ℕ) (o : Option ℕ) (b : Bool) (peer : Peer) → o ≡ (if b then Some turns else None) → b ≡ is_idle peer → IfSome o (λ _. is_idle peer ≡ true)
idle_so turns o true peer is same = subst (λ (x : Option ℕ). IfSome x (λ _. is_idle peer ≡ true)) (sym is) (sym same)
idle_so turns o false peer is same = subst (λ (x : Option ℕ). IfSome x (λ _. is_idle peer ≡ true)) (sym is) tt

pub seat_after : (next turns id : ℕ) (p : Option Peer) (s : Option Seat) (peer : Peer) (was now : Seat) (turned : Turned) → p ≡ Some peer → s ≡ Some now → IsOwnId 1 next id → peer.flow.id ≡ id
    → EndsFor turned.end peer → turned.owed ≡ owes peer → turned.idle ≡ is_idle peer → IsTurned turns was turned now → HasSeat next id p s
seat_after next turns id p s peer was now turned found seat own same waits owed idle is =
    subst (λ (x : Option Peer). HasSeat next id x s) (sym found) (subst (λ (x : Option Seat). HasSeat next id (Some peer) x) (sym seat)
    (record { own = own; same = same; waits = stands_so turned.end was now peer is.place waits; owed = is.owed ∙ owed; idle = idle_so turns now.idle turned.idle peer is.idle idle }))

-- neither connection nor seat
pub neither : (next id : ℕ) (p : Option Peer) (s : Option Seat) → p ≡ None → s ≡ None → HasSeat next id p s
neither next id p s none gone = subst (λ (x : Option Peer). HasSeat next id x s) (sym none) (subst (λ (x : Option Seat). HasSeat next id None x) (sym gone) tt)

no_seat : (seat : Seat) → None ≡ Some seat → ⊥
no_seat seat is = cc

no_peer : (peer : Peer) → None ≡ Some peer → ⊥
no_peer peer is = cc

some_peer : (x y : Peer) → Some x ≡ Some y → x ≡ y
some_peer x y is = cc

-- whose seat it is
pub own_peer : (next id : ℕ) (p : Option Peer) (s : Option Seat) → HasSeat next id p s → IsOwnPeer next id p
own_peer next id None s was = tt
own_peer next id (Some peer) None was = absurd was
own_peer next id (Some peer) (Some seat) was = (was.own, was.same)

pub own_flow : (next id : ℕ) (p : Option Peer) (s : Option Seat) → HasSeat next id p s → IfSome p (λ peer. peer.flow.id ≡ id)
own_flow next id None s was = tt
own_flow next id (Some peer) None was = absurd was
own_flow next id (Some peer) (Some seat) was = was.same

-- ---- all of them

pub kept_none : (ps : List (ℕ × Peer)) (ts : TurnsState) → ps ≡ [] → ((id : ℕ) → seat_at ts id ≡ None) → ts.turn ≡ None → AreKept 1 ps ts
kept_none ps ts none seats idle = record { first = omega arith; each = λ id. neither 1 id (peer_in ps id) (seat_at ts id) (ap (λ (x : List (ℕ × Peer)). peer_in x id) none) (seats id); idle = idle }

module _ (next more : ℕ) (ps : List (ℕ × Peer)) (ts : TurnsState) where
  pub kept_more : next ≤ more → AreKept next ps ts → AreKept more ps ts
  kept_more less was = record { first = omega (arith, was.first, less); each = λ q. seat_more next more q (peer_in ps q) (seat_at ts q) less (was.each q); idle = was.idle }

module _ (next id : ℕ) (ps left : List (ℕ × Peer)) (ts after : TurnsState) where
  pub kept_with : AreKept next ps ts → OthersKept id ps left → OthersStay id ts after → HasSeat next id (peer_in left id) (seat_at after id) → after.turn ≡ None → AreKept next left after
  kept_with was kept stay own idle = record { first = was.first; each = each_but next id ps left ts after (λ q ne. was.each q) kept stay own; idle = idle }

  -- one that has no seat any more
  but_one : ((q : ℕ) → HasSeat next q (peer_in ps q) (seat_at ts q)) → OthersKept id ps left → OthersStay id ts after → (q : ℕ) → q ≢ id → HasSeat next q (peer_in left q) (seat_at after q)
  but_one was kept stay q ne = others_have next q (peer_in ps q) (peer_in left q) (seat_at ts q) (seat_at after q) (kept q ne) (stay q ne) (was q)

  pub kept_but : 1 ≤ next → ((q : ℕ) → HasSeat next q (peer_in ps q) (seat_at ts q)) → OthersKept id ps left → OthersStay id ts after → IsOwnPeer next id (peer_in left id) → seat_at after id ≡ None → after.turn ≡ None → AreKeptBut id next left after
  kept_but first was kept stay own gone idle = record { first = first; each = but_one was kept stay; own = own; gone = gone; idle = idle }

  -- one whose turn is over
  pub kept_turned : IsTurnOf id next ps ts → OthersKept id ps left → OthersStay id ts after → HasSeat next id (peer_in left id) (seat_at after id) → after.turn ≡ None → AreKept next left after
  kept_turned was kept stay own idle = record { first = was.first; each = each_but next id ps left ts after (λ q ne. was.each q) kept stay own; idle = idle }

-- it is taken out
pub kept_without : (next id : ℕ) (ps left : List (ℕ × Peer)) (ts : TurnsState) → AreKeptBut id next ps ts → OthersKept id ps left → peer_in left id ≡ None → AreKept next left ts
kept_without next id ps left ts was kept none = record {
  first = was.first;
  each = each_but next id ps left ts ts was.each kept (λ q ne. refl) (neither next id (peer_in left id) (seat_at ts id) none was.gone);
  idle = was.idle;
}

-- ---- reports

not_queued : (place now : Place) (b : Bool) (lane : Lane) (peer : Peer) → now ≡ (if b then Queued lane else place) → StandsFor place peer → StandsFor now peer
not_queued place now true lane peer is was = subst (λ (p : Place). StandsFor p peer) (sym is) tt
not_queued place now false lane peer is was = subst (λ (p : Place). StandsFor p peer) (sym is) was

-- a report leaves each connection its seat
pub seat_reported : (next id : ℕ) (p : Option Peer) (s t : Option Seat) (was now : Seat) (read write : Bool) → s ≡ Some was → t ≡ Some now → IsReported was now read write → HasSeat next id p s → HasSeat next id p t
seat_reported next id None s t was now read write had has is kept = absurd (subst (λ (x : Option Seat). HasSeat next id None x) had kept)
seat_reported next id (Some peer) s t was now read write had has is kept =
    let old : IsSeatOf next id peer was = subst (λ (x : Option Seat). HasSeat next id (Some peer) x) had kept in
    subst (λ (x : Option Seat). HasSeat next id (Some peer) x) (sym has)
    (record { own = old.own; same = old.same; waits = not_queued was.place now.place (is_woken was.place now) (lane_for was.slow was.fresh) peer is.place old.waits; owed = is.owed ∙ old.owed; idle = subst (λ (x : Option ℕ). IfSome x (λ _. is_idle peer ≡ true)) (sym is.idle) old.idle })

-- ---- turns that are due

pub due_after : (place : Place) (id : ℕ) (s : LanesState) → turns_due (lanes_after place id s) ≡ turns_due s
due_after (Queued Quick) id s = refl
due_after (Queued Fresh) id s = refl
due_after (Queued Slow) id s = refl
due_after Turn id s = refl
due_after (Awaits side) id s = refl

pub due_if : (b : Bool) (place : Place) (id : ℕ) (s t : LanesState) → t ≡ (if b then lanes_after place id s else s) → turns_due t ≡ turns_due s
due_if true place id s t is = ap turns_due is ∙ due_after place id s
due_if false place id s t is = ap turns_due is

-- each turn is one of those that were due
pub due_less : (lane : Lane) (id : ℕ) (s t : LanesState) → HasTurn lane id s t → turns_due t < turns_due s
due_less Quick id s t (front, some, is) =
    omega (arith, ap (λ (x : LanesState). x.due_quick) is, ap (λ (x : LanesState). x.due_first) is, ap (λ (x : LanesState). x.due_fresh) is, ap (λ (x : LanesState). x.due_slow) is, some)
due_less Fresh id s t (front, no_quick, some, is) =
    omega (arith, ap (λ (x : LanesState). x.due_quick) is, ap (λ (x : LanesState). x.due_first) is, ap (λ (x : LanesState). x.due_fresh) is, ap (λ (x : LanesState). x.due_slow) is, no_quick, some)
due_less Slow id s t (front, no_quick, no_first, no_fresh, some, is) =
    omega (arith, ap (λ (x : LanesState). x.due_quick) is, ap (λ (x : LanesState). x.due_first) is, ap (λ (x : LanesState). x.due_fresh) is, ap (λ (x : LanesState). x.due_slow) is, some)

-- one that has its turn is open
pub open_turn : (seats : List (ℕ × Seat)) (lanes : LanesState) (turn : Option ℕ) (id : ℕ) → IsSeated seats lanes turn → turn ≡ Some id → seat_in seats id ≡ None → ⊥
open_turn seats lanes turn id was is none = subst (HasTurnNow turn id) none (was.one id) is

-- ---- ids

-- an id that is given is the next one
pub ids_rise : (r : Option ℕ) (old new : Ids) → IfSome r (λ id. id ≡ old.next) → IfSome r (λ id. new.next ≡ id + 1) → IfNone r (new ≡ old) → old.next ≤ new.next
ids_rise None old new given rises none = omega (arith, ap (λ (x : Ids). x.next) none)
ids_rise (Some id) old new given rises none = omega (arith, given, rises)

pub given_own : (next more id : ℕ) → 1 ≤ next → id ≡ next → more ≡ id + 1 → IsOwnId 1 more id
given_own next more id first given rises = (omega (arith, first, given), omega (arith, rises))

-- ---- one that is taken in

pub new_owes : (peer : Peer) (flow : FlowState) (id : ℕ) → peer.flow ≡ flow → flow ≡ opened_flow id → peer.lingers ≡ false → owes peer ≡ false
new_owes peer flow id is opened lingers = ap (λ (f : FlowState). owes_at f.want peer.lingers) (is ∙ opened) ∙ lingers

pub seat_new : (next id address : ℕ) (p : Option Peer) (s : Option Seat) (peer : Peer) (flow : FlowState) → p ≡ Some peer → s ≡ Some (new_seat address) → IsOwnId 1 next id → peer.flow ≡ flow → flow ≡ opened_flow id → peer.lingers ≡ false → HasSeat next id p s
seat_new next id address p s peer flow found seat own is opened lingers =
    subst (λ (x : Option Peer). HasSeat next id x s) (sym found) (subst (λ (x : Option Seat). HasSeat next id (Some peer) x) (sym seat)
    (record { own = own; same = ap (λ (f : FlowState). f.id) (is ∙ opened); waits = tt; owed = sym (new_owes peer flow id is opened lingers); idle = tt }))

-- ---- one that is reported

-- what a report does to the seat of an id, and to the lanes
abbrev IsTold : Bool → Bool → ℕ → LanesState → LanesState → Option Seat → Option Seat → Type 0
IsTold read write id lanes left s t = IfSome s (λ was. IsSomeAnd t (λ now. IsReported was now read write × (left ≡ (if is_woken was.place now then lanes_after now.place id lanes else lanes))))

pub reported : (read write : Bool) (next id : ℕ) (lanes left : LanesState) (p : Option Peer) (s t : Option Seat) → IsTold read write id lanes left s t → (s ≡ None → t ≡ None) → HasSeat next id p s → HasSeat next id p t
reported read write next id lanes left p None t told gone was = subst (λ (x : Option Seat). HasSeat next id p x) (sym (gone refl)) was
reported read write next id lanes left p (Some a) None told gone was = absurd told
reported read write next id lanes left p (Some a) (Some b) told gone was = seat_reported next id p (Some a) (Some b) a b read write refl refl told.0 was

pub informed : (read write : Bool) (id : ℕ) (lanes left : LanesState) (s t : Option Seat) → IsTold read write id lanes left s t → IfSome s (λ was. IsSomeAnd t (λ now. IsReported was now read write))
informed read write id lanes left None t told = tt
informed read write id lanes left (Some a) None told = absurd told
informed read write id lanes left (Some a) (Some b) told = told.0

pub due_reported : (read write : Bool) (id : ℕ) (lanes left : LanesState) (s t : Option Seat) → IsTold read write id lanes left s t → (s ≡ None → left ≡ lanes) → turns_due left ≡ turns_due lanes
due_reported read write id lanes left None t told gone = ap turns_due (gone refl)
due_reported read write id lanes left (Some a) None told gone = absurd told
due_reported read write id lanes left (Some a) (Some b) told gone = due_if (is_woken a.place b) b.place id lanes left told.1

-- ---- a turn

-- the one that has its turn has a seat, so it is there
pub called : (next id : ℕ) (ps left : List (ℕ × Peer)) (turned : Turned) (seat : Seat) (p : Option Peer) (s : Option Seat) → s ≡ Some seat → HasSeat next id p s → IfSome p (λ _. IsSocketCalled id turned ps left) → IsSocketCalled id turned ps left × IsOwnId 1 next id
called next id ps left turned seat None None had has was = elim (no_seat seat had) [ ]
called next id ps left turned seat None (Some x) had has was = absurd has
called next id ps left turned seat (Some peer) None had has was = absurd has
called next id ps left turned seat (Some peer) (Some x) had has was = (was, has.own)

-- the flow of one that was called has its id still
pub called_same : (next id : ℕ) (ps left : List (ℕ × Peer)) (turned : Turned) (s : Option Seat) → HasSeat next id (peer_in ps id) s → (was : IsSocketCalled id turned ps left) → was.after.flow.id ≡ id
called_same next id ps left turned s has was = was.same ∙ own_is next id (peer_in ps id) s was.before was.was has
  where
    own_is : (next id : ℕ) (p : Option Peer) (s : Option Seat) (peer : Peer) → p ≡ Some peer → HasSeat next id p s → peer.flow.id ≡ id
    own_is next id None s peer is has = elim (no_peer peer is) [ ]
    own_is next id (Some x) None peer is has = absurd has
    own_is next id (Some x) (Some seat) peer is has = ap (λ (y : Peer). y.flow.id) (sym (some_peer x peer is)) ∙ has.same

pub own_called : (next id : ℕ) (p : Option Peer) (peer : Peer) → p ≡ Some peer → IsOwnId 1 next id → peer.flow.id ≡ id → IsOwnPeer next id p
own_called next id p peer found own same = subst (IsOwnPeer next id) (sym found) (own, same)

-- what came of the turn of one that is closed, and of one that stays
pub closed_so : (b : Bool) (id : ℕ) (turned : Turned) (old new : TurnsState) (o t : Option Seat) (seat : Seat) → b ≡ false → o ≡ Some seat
    → IfSome o (λ was. MatchBool b (IsSomeAnd t (λ now. IsTurned new.count was turned now × HasCome id now old new)) (HasLeft id old new)) → HasLeft id old new
closed_so true id turned old new o t seat is had told = cc
closed_so false id turned old new None t seat is had told = elim (no_seat seat had) [ ]
closed_so false id turned old new (Some x) t seat is had told = told

pub stays_so : (b : Bool) (id : ℕ) (turned : Turned) (old new : TurnsState) (o t : Option Seat) (seat : Seat) → b ≡ true → o ≡ Some seat
    → IfSome o (λ was. MatchBool b (IsSomeAnd t (λ now. IsTurned new.count was turned now × HasCome id now old new)) (HasLeft id old new)) → (was : Seat) × ((now : Seat) × (IsTurned new.count was turned now × HasCome id now old new))
stays_so false id turned old new o t seat is had told = cc
stays_so true id turned old new None t seat is had told = elim (no_seat seat had) [ ]
stays_so true id turned old new (Some x) None seat is had told = absurd told
stays_so true id turned old new (Some x) (Some now) seat is had told = (x, (now, told))

-- ---- a round

-- the lanes are none of a connection's seat
pub kept_lanes : (next : ℕ) (ps : List (ℕ × Peer)) (ts after : TurnsState) (lanes : LanesState) → after ≡ record ts { lanes = lanes } → AreKept next ps ts → AreKept next ps after
kept_lanes next ps ts after lanes is was = subst (AreKept next ps) (sym is) (record { first = was.first; each = was.each; idle = was.idle })

pub kept_is : (next : ℕ) (ps : List (ℕ × Peer)) (ts after : TurnsState) → after ≡ ts → AreKept next ps ts → AreKept next ps after
kept_is next ps ts after is was = subst (AreKept next ps) (sym is) was

begun_seat : (next id : ℕ) (p : Option Peer) (s t : Option Seat) (seat : Seat) → s ≡ Some seat → t ≡ Some (record seat { place = Turn }) → HasSeat next id p s → HasSeat next id p t
begun_seat next id None s t seat had has was = absurd (subst (λ (x : Option Seat). HasSeat next id None x) had was)
begun_seat next id (Some peer) s t seat had has was =
    let old : IsSeatOf next id peer seat = subst (λ (x : Option Seat). HasSeat next id (Some peer) x) had was in
    subst (λ (x : Option Seat). HasSeat next id (Some peer) x) (sym has) (record { own = old.own; same = old.same; waits = tt; owed = old.owed; idle = old.idle })

-- one begins its turn
pub turn_begun : (next id : ℕ) (ps : List (ℕ × Peer)) (ts after : TurnsState) → AreKept next ps ts → HasBegun id ts after → OthersStay id ts after → IsTurnOf id next ps after
turn_begun next id ps ts after was begun stay = record {
  first = was.first;
  each = each_but next id ps ps ts after (λ q ne. was.each q) (λ q ne. refl) stay
      (begun_seat next id (peer_in ps id) (seat_at ts id) (seat_at after id) begun.0 begun.1 begun.2 (was.each id));
  turn = begun.3;
}

-- ---- newcomers

no_number : (n : ℕ) → None ≡ Some n → ⊥
no_number n is = cc

idle_unowed : (owed : Bool) (seat : Seat) (since : ℕ) → (if owed then None else seat.idle) ≡ Some since → (owed ≡ false) × (seat.idle ≡ Some since)
idle_unowed true seat since is = absurd (no_number since is)
idle_unowed false seat since is = (refl, is)

idle_awaits : (of : Bool) (place : Place) (seat : Seat) (since : ℕ) → (if of then idle_at place seat else None) ≡ Some since → IsAwaitingAt place × ((seat.owed ≡ false) × (seat.idle ≡ Some since))
idle_awaits false place seat since is = absurd (no_number since is)
idle_awaits true (Queued lane) seat since is = absurd (no_number since is)
idle_awaits true Turn seat since is = absurd (no_number since is)
idle_awaits true (Awaits side) seat since is = (tt, idle_unowed seat.owed seat since is)

-- one that has been idle longest waits for its socket, and nothing is owed to it
pub longest_dismissible : (wanted : Option ℕ) (ts : TurnsState) (id : ℕ) → IsLongestIdle wanted ts.seats id → IsDismissible (seat_at ts id)
longest_dismissible wanted ts id longest =
    let idle = idle_awaits _ longest.seat.place longest.seat longest.since longest.idle in
    subst IsDismissible (sym longest.there) (idle.0, idle.1.0)

idle_peer : (next id : ℕ) (p : Option Peer) (seat : Seat) (since : ℕ) → HasSeat next id p (Some seat) → seat.idle ≡ Some since → IsSomeAnd p (λ peer. is_idle peer ≡ true)
idle_peer next id None seat since has is = absurd has
idle_peer next id (Some peer) seat since has is = subst (λ (x : Option ℕ). IfSome x (λ _. is_idle peer ≡ true)) is has.idle

-- and nothing of its next request has come
pub longest_idle : (next : ℕ) (wanted : Option ℕ) (ps : List (ℕ × Peer)) (ts : TurnsState) (id : ℕ) → AreKept next ps ts → IsLongestIdle wanted ts.seats id → IsSomeAnd (peer_in ps id) (λ peer. is_idle peer ≡ true)
longest_idle next wanted ps ts id kept longest =
    let idle = idle_awaits _ longest.seat.place longest.seat longest.since longest.idle in
    idle_peer next id (peer_in ps id) longest.seat longest.since (subst (HasSeat next id (peer_in ps id)) longest.there (kept.each id)) idle.1.1
