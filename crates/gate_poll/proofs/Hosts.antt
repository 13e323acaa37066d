-- What was called of a gateway, one connection after the other.
use Rattle.std.proofs.Common.{◌≡◌, ℕ, ◌+◌, ◌≤◌, List, Option, Some, None, sym, subst, ◌∙◌, arith}
use Rattle.gate_core.specs.ConnectionState.{State}
use Rattle.gate_flow.specs.Hosted.{IsHosted, IsOwnId}
use Rattle.gate_turns.specs.declared.seat.End.{End}
use Rattle.gate_turns.specs.declared.seat.End.TheVariants.{Again, Blocked, Over}
use Rattle.gate_turns.specs.Turns.{TurnsState}
use Rattle.gate_poll.specs.declared.peer.Peer.{Peer}
use Rattle.gate_poll.specs.Peers.{EndsFor, EndsForSome, IsGoing, IsStepped}
use Rattle.gate_poll.specs.Table.{AreKept, ArePeersServed}

-- the laws of what a loop does to a gateway
abbrev pub None_ : Type 0
None_ = (first : ℕ) (g : State) → IsHosted first first g g

abbrev pub Joined : Type 0
Joined = (first next more : ℕ) (g h k : State) → next ≤ more → IsHosted first next g h → IsHosted first more h k → IsHosted first more g k

abbrev pub Wider : Type 0
Wider = (first next low more : ℕ) (g h : State) → low ≤ first → next ≤ more → IsHosted first next g h → IsHosted low more g h

-- nothing was called
pub still : None_ → Wider → (first next : ℕ) (g : State) → first ≤ next → IsHosted first next g g
still none wider first next g less = wider first first first next g g (omega arith) less (none first g)

pub still_own : None_ → Wider → (id : ℕ) (g h : State) → h ≡ g → IsHosted id (id + 1) g h
still_own none wider id g h same = subst (IsHosted id (id + 1) g) (sym same) (still none wider id (id + 1) g (omega arith))

-- what was called of one connection
pub of_own : Wider → (next id : ℕ) (g h : State) → IsOwnId 1 next id → IsHosted id (id + 1) g h → IsHosted 1 next g h
of_own wider next id g h own was = wider id (id + 1) 1 next g h own.0 (omega (arith, own.1)) was

pub and_then : Joined → (first next : ℕ) (g h k : State) → IsHosted first next g h → IsHosted first next h k → IsHosted first next g k
and_then joined first next g h k one two = joined first next next g h k (omega arith) one two

-- a step of a turn in which the gateway was not called
pub stepped_still : None_ → Wider → (old new : Peer) (end : Option End) (g h : State) → h ≡ g → new.flow.id ≡ old.flow.id → EndsForSome end new → IsStepped old new end g h
stepped_still none wider old new end g h same id waits = record { id = id; waits = waits; hosted = still_own none wider old.flow.id g h same }

pub on_end : (end is : Option End) (peer : Peer) → end ≡ is → EndsForSome is peer → EndsForSome end peer
on_end end is peer same waits = subst (λ (e : Option End). EndsForSome e peer) (sym same) waits

-- one step of a turn after others
pub stepped_then : Joined → (a b c : Peer) (end : Option End) (g h k : State) → IsStepped a b None g h → IsStepped b c end h k → IsStepped a c end g k
stepped_then joined a b c end g h k one two = record {
  id = two.id ∙ one.id;
  waits = two.waits;
  hosted = and_then joined a.flow.id (a.flow.id + 1) g h k one.hosted (subst (λ (i : ℕ). IsHosted i (i + 1) h k) one.id two.hosted);
}

module _ (before next : ℕ) (peers : List (ℕ × Peer)) (turns : TurnsState) where
  pub serves_still : None_ → Wider → (g : State) → AreKept next peers turns → before ≤ next → ArePeersServed before next peers turns g g
  serves_still none wider g kept less = record { kept = kept; next_is = less; hosted = still none wider 1 next g kept.first }

  pub serves_then : Joined → (first : ℕ) (ps : List (ℕ × Peer)) (ts : TurnsState) (g h k : State) → ArePeersServed first before ps ts g h → ArePeersServed before next peers turns h k → ArePeersServed first next peers turns g k
  serves_then joined first ps ts g h k one two = record {
    kept = two.kept;
    next_is = omega (arith, one.next_is, two.next_is);
    hosted = joined 1 before next g h k two.next_is one.hosted two.hosted;
  }

going_end : (end : End) (peer : Peer) → IsGoing end → EndsFor end peer
going_end Again peer goes = tt
going_end (Blocked side) peer goes = absurd goes
going_end Over peer goes = tt

pub going_so : (end : Option End) (e : End) (peer : Peer) → end ≡ Some e → IsGoing e → EndsForSome end peer
going_so end e peer is goes = on_end end (Some e) peer is (going_end e peer goes)

-- what was given up of one, after what was called of it before
pub own_then : Joined → Wider → (next id : ℕ) (g h k : State) → IsOwnId 1 next id → IsHosted id (id + 1) g h → IsHosted 1 next h k → IsHosted 1 next g k
own_then joined wider next id g h k own one two = and_then joined 1 next g h k (of_own wider next id g h own one) two
