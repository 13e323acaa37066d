-- Room for a newcomer.
use Rattle.std.proofs.Common.{◌≡◌, ℕ, ◌+◌, ◌≤◌, ◌<◌, ◌⊎◌, List, Option, Some, None, Bool, true, false, refl, sym, ap, subst, ◌∙◌, arith, inl, inr}
use Rattle.std.specs.Prelude.{MatchBool, IsSomeAnd, unwrap_or}
use Rattle.gate_core.specs.ConnectionState.{State}
use Rattle.gate_flow.specs.Hosted.{Opened}
use Rattle.gate_turns.specs.declared.places.Choice.{Choice}
use Rattle.gate_turns.specs.declared.places.Choice.TheVariants.{Opens, Replaces, Refused}
use Rattle.gate_turns.specs.Places.{IsChoiceFor, IsLongestIdle}
use Rattle.gate_turns.specs.Turns.{TurnsState, HasLeft, IsDismissible, seat_at}
use Rattle.gate_poll.specs.declared.peer.Peer.{Peer}
use Rattle.gate_poll.specs.Peers.{is_idle}
use Rattle.gate_poll.specs.Secrets.{IsOpenedUnder}
use Rattle.gate_poll.specs.Table.{peer_in, AreKept, ArePeersServed, ArePeersServedUnder, IsHostedUnder, IsRoomMade}
use Rattle.gate_poll.proofs.Keeping.{longest_dismissible, longest_idle}
use Rattle.gate_poll.proofs.Listening.{OpenedThen, under_none, under_then}

module _ (room most address : ℕ) (ps : List (ℕ × Peer)) (ts us : TurnsState) (choice : Choice) (made : Bool) where
  -- a choice was made, and what it says was done
  abbrev pub Places : Type 0
  Places = (c : Choice) × (IsChoiceFor room most address ts.seats c × IsRoomMade c made ps ts us)

  pub room_opens : choice ≡ Opens → IsChoiceFor room most address ts.seats choice → made ≡ true → us ≡ ts → Places
  room_opens is chosen made_is same = (Opens, (subst (IsChoiceFor room most address ts.seats) is chosen, (made_is, same)))

  pub room_refused : choice ≡ Refused → IsChoiceFor room most address ts.seats choice → made ≡ false → us ≡ ts → Places
  room_refused is chosen made_is same = (Refused, (subst (IsChoiceFor room most address ts.seats) is chosen, (made_is, same)))

made_so : (made : Bool) (A B : Type 0) → MatchBool made A (B → ⊥) → B → (made ≡ true) × A
made_so true A B was is = (refl, was)
made_so false A B was is = absurd (was is)

-- who is closed waits, is owed nothing, and has sent nothing of a next request
replaced_by : (wanted : Option ℕ) (next id : ℕ) (ps : List (ℕ × Peer)) (ts us : TurnsState) (made : Bool) → IsLongestIdle wanted ts.seats id → AreKept next ps ts
    → MatchBool made (HasLeft id ts us) (IsDismissible (seat_at ts id) → ⊥) → IsRoomMade (Replaces id) made ps ts us
replaced_by wanted next id ps ts us made longest kept was =
    let done = made_so made (HasLeft id ts us) (IsDismissible (seat_at ts id)) was (longest_dismissible wanted ts id longest) in
    (done.0, (longest_idle next wanted ps ts id kept longest, done.1))

pub room_replaced : (next id room most address : ℕ) (ps : List (ℕ × Peer)) (ts us : TurnsState) (choice : Choice) (made : Bool) → choice ≡ Replaces id
    → IsChoiceFor room most address ts.seats choice → AreKept next ps ts → MatchBool made (HasLeft id ts us) (IsDismissible (seat_at ts id) → ⊥)
    → Places room most address ps ts us choice made
room_replaced next id room most address ps ts us choice made is chosen kept was =
    let so : IsChoiceFor room most address ts.seats (Replaces id) = subst (IsChoiceFor room most address ts.seats) is chosen in (
      Replaces id,
      (
        so,
        elim so [
          | inl own ↦ replaced_by (Some address) next id ps ts us made own.1 kept was
          | inr any ↦ replaced_by None next id ps ts us made any.2 kept was
        ],
      ),
    )

-- room was made, and then a connection was opened under a secret, or the gateway's, which is the same since
pub welcome_served : OpenedThen → (id at : ℕ) (own : Option (List ℕ)) (before mid next : ℕ) (ps qs : List (ℕ × Peer)) (ts us : TurnsState) (g h k : State)
    → at ≡ id → ArePeersServed before mid ps ts g h → ArePeersServedUnder (IsOpenedUnder at (unwrap_or own h.settings.secret)) mid next qs us h k
    → ArePeersServedUnder (IsOpenedUnder id (unwrap_or own g.settings.secret)) before next qs us g k
welcome_served law id at own before mid next ps qs ts us g h k is one two =
    let under : Opened → Type 0 = IsOpenedUnder id (unwrap_or own g.settings.secret) in
    record {
      kept = two.kept;
      next_is = omega (arith, one.next_is, two.next_is);
      hosted = under_then under law 1 mid next g h k two.next_is (under_none under 1 mid g h one.hosted)
          (subst (λ (i : ℕ). IsHostedUnder (IsOpenedUnder i (unwrap_or own g.settings.secret)) 1 next h k) is
          (subst (λ (s : List ℕ). IsHostedUnder (IsOpenedUnder at (unwrap_or own s)) 1 next h k) (ap (λ s. s.secret) one.hosted.settings) two.hosted));
    }
