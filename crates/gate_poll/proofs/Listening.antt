-- Connections are opened under the secrets of the listeners by which they came.
use Rattle.std.proofs.Common.{◌≡◌, ℕ, ◌+◌, ◌≤◌, ◌⊎◌, List, [], ◌∷◌, ◌++◌, Option, Some, None, sym, ap, subst, ◌∙◌, arith, inl, inr}
use Rattle.std.specs.Prelude.{unwrap_or}
use Rattle.std.specs.List.{All}
use Rattle.std.proofs.lemmas.List.Elements.{All-append, All-nil, All-cons, All-head, All-tail}
use Rattle.gate_core.specs.Settings.{GatewaySettings}
use Rattle.gate_core.specs.ConnectionState.{State}
use Rattle.gate_flow.specs.Hosted.{IsHosted, IsHostedWith, IsOwnId, Opened}
use Rattle.gate_turns.specs.Turns.{TurnsState}
use Rattle.gate_poll.specs.declared.peer.Peer.{Peer}
use Rattle.gate_poll.specs.Secrets.{IsUnder, IsUnderSome, IsOpenedUnder}
use Rattle.gate_poll.specs.Table.{IsHostedUnder, ArePeersServed, ArePeersServedUnder}

-- the laws of what a loop does to a gateway, with connections that were opened
abbrev pub OpenedThen : Type 0
OpenedThen =
    (first next more : ℕ) (some others : List Opened) (g h k : State) → next ≤ more → IsHostedWith first next some g h → IsHostedWith first more others h k → IsHostedWith first more (some ++ others) g k

abbrev pub OpenedWider : Type 0
OpenedWider = (first next low more : ℕ) (opened : List Opened) (g h : State) → low ≤ first → next ≤ more → IsHostedWith first next opened g h → IsHostedWith low more opened g h

module _ (under : Opened → Type 0) where
  -- none was opened
  pub under_none : (first next : ℕ) (g h : State) → IsHosted first next g h → IsHostedUnder under first next g h
  under_none first next g h was = record { opened = []; hosted = was; each = All-nil under }

  pub serves_none : (before next : ℕ) (peers : List (ℕ × Peer)) (turns : TurnsState) (g h : State) → ArePeersServed before next peers turns g h → ArePeersServedUnder under before next peers turns g h
  serves_none before next peers turns g h was = record { kept = was.kept; next_is = was.next_is; hosted = under_none 1 next g h was.hosted }

  -- one was opened
  pub under_one : OpenedWider → (next id : ℕ) (secret : List ℕ) (g h : State) → IsOwnId 1 next id → under (id, secret) → IsHostedWith id (id + 1) ((id, secret) ∷ []) g h → IsHostedUnder under 1 next g h
  under_one law next id secret g h own is was = record {
    opened = (id, secret) ∷ [];
    hosted = law id (id + 1) 1 next ((id, secret) ∷ []) g h own.0 (omega (arith, own.1)) was;
    each = All-cons under (id, secret) [] is (All-nil under);
  }

  -- some were opened, and then others
  pub under_then : OpenedThen → (first next more : ℕ) (g h k : State) → next ≤ more → IsHostedUnder under first next g h → IsHostedUnder under first more h k → IsHostedUnder under first more g k
  under_then law first next more g h k less one two = record {
    opened = one.opened ++ two.opened;
    hosted = law first next more one.opened two.opened g h k less one.hosted two.hosted;
    each = All-append under one.opened two.opened one.each two.each;
  }

all_so : (one other : Opened → Type 0) → ((o : Opened) → one o → other o) → (opened : List Opened) → All one opened → All other opened
all_so one other so [] were = All-nil other
all_so one other so (o ∷ opened) were = All-cons other o opened (so o (All-head one o opened were)) (all_so one other so opened (All-tail one o opened were))

-- they were opened so, and thus so
pub under_so : (one other : Opened → Type 0) → ((o : Opened) → one o → other o) → (first next : ℕ) (g h : State) → IsHostedUnder one first next g h → IsHostedUnder other first next g h
under_so one other so first next g h was = record { opened = was.opened; hosted = was.hosted; each = all_so one other so was.opened was.each }

pub serves_so : (one other : Opened → Type 0) → ((o : Opened) → one o → other o) → (before next : ℕ) (peers : List (ℕ × Peer)) (turns : TurnsState) (g h : State)
    → ArePeersServedUnder one before next peers turns g h → ArePeersServedUnder other before next peers turns g h
serves_so one other so before next peers turns g h was = record { kept = was.kept; next_is = was.next_is; hosted = under_so one other so 1 next g h was.hosted }

-- the settings of a gateway that is served are the same
pub settings_kept : (under : Opened → Type 0) (first next : ℕ) (g h : State) → IsHostedUnder under first next g h → h.settings ≡ g.settings
settings_kept under first next g h was = was.hosted.settings

-- some were opened under the secrets of a gateway, and then others under those that it has now, which are the same
module _ (came : ℕ → ℕ → Type 0) (secret_at : ℕ → Option (List ℕ)) where
  pub under_same : (g h : State) → h.settings ≡ g.settings → (o : Opened) → IsUnder came secret_at h.settings.secret o → IsUnder came secret_at g.settings.secret o
  under_same g h same o was = subst (λ (s : GatewaySettings). IsUnder came secret_at s.secret o) same was

  -- a connection that came by a listener is opened under its secret
  pub came_by : (otherwise : List ℕ) (id place : ℕ) (own : Option (List ℕ)) → came id place → own ≡ secret_at place → (o : Opened) → IsOpenedUnder id (unwrap_or own otherwise) o → IsUnder came secret_at otherwise o
  came_by otherwise id place own by is o opened = record {
    place = place;
    by = subst (λ (i : ℕ). came i place) (sym opened.0) by;
    secret = opened.1 ∙ ap (λ (s : Option (List ℕ)). unwrap_or s otherwise) is;
  }

-- those at which is listened are the same, or there are none any more
pub some_same : {A : Type 0} (came : A → ℕ → ℕ → Type 0) (secret_at : A → ℕ → Option (List ℕ)) (was now : Option A) (g h : State) → (now ≡ was) ⊎ (now ≡ None) → h.settings ≡ g.settings
    → (o : Opened) → IsUnderSome came secret_at now h.settings.secret o → IsUnderSome came secret_at was g.settings.secret o
some_same {A} came secret_at was now g h (inl listens) same o is =
    subst (λ (x : Option A). IsUnderSome came secret_at x g.settings.secret o) listens (subst (λ (s : GatewaySettings). IsUnderSome came secret_at now s.secret o) same is)
some_same {A} came secret_at was now g h (inr none) same o is = absurd (subst (λ (x : Option A). IsUnderSome came secret_at x h.settings.secret o) none is)

pub listens_then : {A : Type 0} (a b c : Option A) → (b ≡ a) ⊎ (b ≡ None) → (c ≡ b) ⊎ (c ≡ None) → (c ≡ a) ⊎ (c ≡ None)
listens_then a b c (inl one) (inl two) = inl (two ∙ one)
listens_then a b c (inr one) (inl two) = inr (two ∙ one)
listens_then a b c one (inr two) = inr two

-- they were opened under secrets of those at which is listened
pub some_so : {A : Type 0} (came : A → ℕ → ℕ → Type 0) (secret_at : A → ℕ → Option (List ℕ)) (arrivals : Option A) (a : A) (g h : State) → arrivals ≡ Some a → h.settings ≡ g.settings
    → (o : Opened) → IsUnder (came a) (secret_at a) h.settings.secret o → IsUnderSome came secret_at arrivals g.settings.secret o
some_so {A} came secret_at arrivals a g h is same o was =
    subst (λ (x : Option A). IsUnderSome came secret_at x g.settings.secret o) (sym is) (under_same (came a) (secret_at a) g h same o was)

pub some_then : {A : Type 0} (came : A → ℕ → ℕ → Type 0) (secret_at : A → ℕ → Option (List ℕ)) (was now : Option A) → OpenedThen → (first before next : ℕ) (ps qs : List (ℕ × Peer)) (ts us : TurnsState) (g h k : State)
    → (now ≡ was) ⊎ (now ≡ None) → ArePeersServedUnder (IsUnderSome came secret_at was g.settings.secret) first before ps ts g h
    → ArePeersServedUnder (IsUnderSome came secret_at now h.settings.secret) before next qs us h k → ArePeersServedUnder (IsUnderSome came secret_at was g.settings.secret) first next qs us g k
some_then came secret_at was now law first before next ps qs ts us g h k listens one two = record {
  kept = two.kept;
  next_is = omega (arith, one.next_is, two.next_is);
  hosted = under_then (IsUnderSome came secret_at was g.settings.secret) law 1 before next g h k two.next_is one.hosted
      (under_so (IsUnderSome came secret_at now h.settings.secret) (IsUnderSome came secret_at was g.settings.secret) (some_same came secret_at was now g h listens one.hosted.hosted.settings) 1 next h k two.hosted);
}
