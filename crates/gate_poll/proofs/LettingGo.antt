-- Connections that are kept no more were closed and forgotten.
use Rattle.std.proofs.Common.{◌≡◌, ◌≢◌, ℕ, ◌+◌, ◌≤◌, ◌<◌, ◌⊎◌, List, Option, Some, None, refl, sym, ap, subst, ◌∙◌, arith, inl, inr}
use Rattle.std.specs.Prelude.{IfSome, IfNone}
use Rattle.std.specs.Option.{option_map}
use Rattle.std.proofs.lemmas.Bool.{cases_eq}
use Rattle.std.proofs.lemmas.Bool.{cases_lt}
use Rattle.std.proofs.Math.Nat.{eq-or-lt_of_le}
use Rattle.gate_core.specs.ConnectionState.{ConnectionState, State, connection_at}
use Rattle.gate_flow.specs.State.{FlowState}
use Rattle.gate_flow.specs.Hosted.{IsHosted}
use Rattle.gate_poll.specs.declared.peer.Peer.{Peer}
use Rattle.gate_poll.specs.Table.{peer_in, OthersKept, IsOwnPeer, IsLetGo, HasGone, AreLetGo, IsOverAt}
use Rattle.gate_poll.proofs.Hosts.{None_, Wider, still, of_own}

-- nothing was let go
pub none_gone : (was : ℕ → Type 0) (ps : List (ℕ × Peer)) (g : State) → AreLetGo was was ps ps g g
none_gone was ps g = record { still = λ id is. is; each = λ id none. inr (none, refl) }

pub none_gone_so : (was : ℕ → Type 0) (ps : List (ℕ × Peer)) (g h : State) → h ≡ g → AreLetGo was was ps ps g h
none_gone_so was ps g h same = subst (λ (s : State). AreLetGo was was ps ps g s) (sym same) (none_gone was ps g)

-- some were let go, and then others
pub gone_then : (a b c : ℕ → Type 0) (ps qs rs : List (ℕ × Peer)) (g h k : State) → AreLetGo a b ps qs g h → AreLetGo b c qs rs h k → AreLetGo a c ps rs g k
gone_then a b c ps qs rs g h k one two = record { still = λ id is. two.still id (one.still id is); each = λ id none. after id (two.each id none) }
  where
    before : (id : ℕ) → connection_at k id ≡ connection_at h id → HasGone (b id) id (peer_in ps id) g h → HasGone (c id) id (peer_in ps id) g k
    before id same (inl gone) = inl (two.still id gone.0, subst (IsLetGo id) (sym same) gone.1)
    before id same (inr stays) = inr (stays.0, same ∙ stays.1)

    after : (id : ℕ) → HasGone (c id) id (peer_in qs id) h k → HasGone (c id) id (peer_in ps id) g k
    after id (inl gone) = inl gone
    after id (inr stays) = before id stays.1 (one.each id stays.0)

apart : (id other : ℕ) → other ≢ id → (other < id) ⊎ (id + 1 ≤ other)
apart id other ne = elim (cases_lt other id) [
  | inl less ↦ inl less
  | inr more ↦ elim (eq-or-lt_of_le more) [ inl same ↦ absurd (ne (sym same)) | inr past ↦ inr (omega (arith, past)) ]
]

-- one was let go, or is kept, and no other connection changed
pub one_gone_by : (was now : ℕ → Type 0) (id : ℕ) (ps qs : List (ℕ × Peer)) (g h : State) → ((other : ℕ) → was other → now other) → OthersKept id ps qs
    → ((other : ℕ) → (other < id) ⊎ (id + 1 ≤ other) → connection_at h other ≡ connection_at g other)
    → (peer_in qs id ≡ None → HasGone (now id) id (peer_in ps id) g h) → AreLetGo was now ps qs g h
one_gone_by was now id ps qs g h still kept others own = record { still = still; each = λ other none. each other none (cases_eq other id) }
  where
    each : (other : ℕ) → peer_in qs other ≡ None → (other ≡ id) ⊎ (other ≢ id) → HasGone (now other) other (peer_in ps other) g h
    each other none (inl same) = subst (λ (x : ℕ). HasGone (now x) x (peer_in ps x) g h) (sym same) (own (subst (λ (x : ℕ). peer_in qs x ≡ None) same none))
    each other none (inr ne) = inr (sym (kept other ne) ∙ none, others other (apart id other ne))

pub one_gone : (was now : ℕ → Type 0) (id : ℕ) (ps qs : List (ℕ × Peer)) (g h : State) → ((other : ℕ) → was other → now other) → OthersKept id ps qs → IsHosted id (id + 1) g h
    → (peer_in qs id ≡ None → HasGone (now id) id (peer_in ps id) g h) → AreLetGo was now ps qs g h
one_gone was now id ps qs g h still kept hosted own = one_gone_by was now id ps qs g h still kept hosted.others own

no_peer : (p : Option Peer) (peer : Peer) → p ≡ None → p ≡ Some peer → ⊥
no_peer p peer none some = cc

-- one that is kept still
pub one_kept_by : (was now : ℕ → Type 0) (id : ℕ) (ps qs : List (ℕ × Peer)) (peer : Peer) (g h : State) → ((other : ℕ) → was other → now other) → OthersKept id ps qs
    → ((other : ℕ) → (other < id) ⊎ (id + 1 ≤ other) → connection_at h other ≡ connection_at g other)
    → peer_in qs id ≡ Some peer → AreLetGo was now ps qs g h
one_kept_by was now id ps qs peer g h still kept others found = one_gone_by was now id ps qs g h still kept others (λ none. absurd (no_peer (peer_in qs id) peer none found))

pub one_kept : (was now : ℕ → Type 0) (id : ℕ) (ps qs : List (ℕ × Peer)) (peer : Peer) (g h : State) → ((other : ℕ) → was other → now other) → OthersKept id ps qs → IsHosted id (id + 1) g h
    → peer_in qs id ≡ Some peer → AreLetGo was now ps qs g h
one_kept was now id ps qs peer g h still kept hosted found = one_kept_by was now id ps qs peer g h still kept hosted.others found

abbrev pub flow_in : Option Peer → Option FlowState
flow_in p = option_map (λ (peer : Peer). peer.flow) p

some_flow : (f g : FlowState) → Some f ≡ Some g → f ≡ g
some_flow f g is = cc

no_flow : (f : FlowState) → Some f ≡ None → ⊥
no_flow f is = cc

-- one that was taken out
pub out_id : (next id : ℕ) (p : Option Peer) (r : Option FlowState) → r ≡ flow_in p → IsOwnPeer next id p → IfSome r (λ flow. flow.id ≡ id)
out_id next id p None found own = tt
out_id next id None (Some flow) found own = absurd (no_flow flow found)
out_id next id (Some peer) (Some flow) found own = ap (λ (f : FlowState). f.id) (some_flow flow peer.flow found) ∙ own.1

pub out_hosted : None_ → Wider → (next id : ℕ) (p : Option Peer) (r : Option FlowState) (g h : State) → r ≡ flow_in p → IsOwnPeer next id p → 1 ≤ next → IsHosted id (id + 1) g h → IfNone r (h ≡ g) → IsHosted 1 next g h
out_hosted none wider next id None None g h found own first hosted same = subst (IsHosted 1 next g) (sym same) (still none wider 1 next g first)
out_hosted none wider next id None (Some flow) g h found own first hosted same = absurd (no_flow flow found)
out_hosted none wider next id (Some peer) r g h found own first hosted same = of_own wider next id g h own.0 hosted

pub out_gone : (forgot : Type 0) (id : ℕ) (p : Option Peer) (r : Option FlowState) (g h : State) → r ≡ flow_in p → IfSome r (λ _. forgot × IsLetGo id (connection_at h id)) → IfNone r (h ≡ g) → HasGone forgot id p g h
out_gone forgot id None None g h found gone same = inr (refl, ap (λ (s : State). connection_at s id) same)
out_gone forgot id None (Some flow) g h found gone same = absurd (no_flow flow found)
out_gone forgot id (Some peer) (Some flow) g h found gone same = inl gone
out_gone forgot id (Some peer) None g h found gone same = absurd (no_flow peer.flow (sym found))

-- in the end nobody is kept
pub over_so : (forgot : Type 0) (id : ℕ) (p : Option Peer) (g h : State) → HasGone forgot id p g h → (connection_at h id ≡ connection_at g id) ⊎ (forgot × IsLetGo id (connection_at h id))
over_so forgot id p g h (inl gone) = inr gone
over_so forgot id p g h (inr stays) = inl stays.1

pub is_over : (forgot : Type 0) (id : ℕ) (old new : Option ConnectionState) → (new ≡ old) ⊎ (forgot × IsLetGo id new) → IsOverAt old new id
is_over forgot id old new (inl same) = inl same
is_over forgot id old new (inr gone) = inr gone.1
