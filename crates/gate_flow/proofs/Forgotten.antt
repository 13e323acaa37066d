-- A connection is forgotten.
use Rattle.std.proofs.Common.{◌≡◌, ◌≢◌, ℕ, ◌⊎◌, List, [], ◌∷◌, ◌++◌, take, length, Option, Some, None, Result, Ok, Err, refl, sym, ap, subst, ◌∙◌, arith, rules, inl, inr}
use Rattle.std.specs.Prelude.{MatchOption, OnOk, OnErr}
use Rattle.std.specs.Ordering.{nat_cmp}
use Rattle.std.specs.FinMap as map
use Rattle.std.proofs.lemmas.Bool.{cases_eq}
use Rattle.std.proofs.lemmas.List.{append-nil}
use Rattle.std.proofs.Math.Seq.{take-length}
use Rattle.gate_core.specs.declared.stage.Stage.{Stage}
use Rattle.gate_core.specs.declared.stage.Stage.TheVariants as stage
use Rattle.gate_core.specs.declared.fault.GatewayFault.{GatewayFault}
use Rattle.gate_core.specs.Events.{Event, Take}
use Rattle.gate_core.specs.ConnectionState.{ConnectionState, State, connection_at, waiting, waiting_in, cut_refusal, forget_refusal}
use Rattle.gate_core.specs.AfterCall.{with_held, taken}
use Rattle.gate_core.specs.Faithful.{Faithful, FaithfulAt}
use Rattle.gate_flow.specs.Led.{IsLed}
use Rattle.gate_flow.specs.Hosted.{IsForgotten}
use Rattle.gate_flow.proofs.Leading.{led_none, led_held, here}

there : {X : Type 0} (m : map.FinMap nat_cmp X) (k q : ℕ) (v : X) → q ≢ k → map.get (map.insert m k v) q ≡ map.get m q
there m k q v other = grind (arith, map.gets, rules)

uncut_stage : (st : Stage) → (cut_refusal st ≡ None) ⊎ (st ≡ stage.Cut)
uncut_stage stage.Open = inl refl
uncut_stage stage.Ended = inl refl
uncut_stage stage.Cut = inr refl

cut_not_open : (st : Stage) → st ≡ stage.Cut → st ≡ stage.Open → ⊥
cut_not_open st is open_is = cc

-- one on which memory ran out is told no more, so what is taken of it is no call
cut_told : (g : State) (id max : ℕ) (held : ConnectionState) (events : List Event) → connection_at g id ≡ Some held → held.stage ≡ stage.Cut → Faithful g events → Faithful (with_held g id (taken max held)) events
cut_told g id max held events found is told = record { each = λ other. each other }
  where
    own : FaithfulAt g.settings id (Some held) events → FaithfulAt g.settings id (Some (taken max held)) events
    own was = record {
      secret = λ open_is. absurd (cut_not_open held.stage is open_is);
      read = λ open_is. absurd (cut_not_open held.stage is open_is);
      waits = was.waits;
      kept = λ uncut. absurd (uncut is);
      answered = was.answered;
    }

    each : (other : ℕ) → FaithfulAt g.settings other (connection_at (with_held g id (taken max held)) other) events
    each other = elim (cases_eq other id) [
      | inl same ↦ subst (λ (x : ℕ). FaithfulAt g.settings x (connection_at (with_held g id (taken max held)) x) events) (sym same)
          (subst (λ o. FaithfulAt g.settings id o events) (sym (here g.connections id (taken max held))) (own (subst (λ o. FaithfulAt g.settings id o events) found (told.each id))))
      | inr ne ↦ subst (λ o. FaithfulAt g.settings other o events) (sym (there g.connections id other (taken max held) ne)) (told.each other)
    ]

forgotten_held : ((g : State) (events : List Event) (id max : ℕ) (held : ConnectionState) → Faithful g events → connection_at g id ≡ Some held → cut_refusal held.stage ≡ None → Faithful (with_held g id (taken max held)) (events ++ Take id (take max held.waiting) ∷ []))
    → (id : ℕ) (g h : State) (held : ConnectionState) → connection_at g id ≡ Some held → h ≡ with_held g id (taken (length held.waiting) held)
    → ((other : ℕ) → other ≢ id → connection_at h other ≡ connection_at g other) → IsForgotten id g h
forgotten_held law id g h held found is others = elim (uncut_stage held.stage) [
  | inl gives ↦ inr (led_held id (Take id (waiting g id) ∷ []) g h (taken (length held.waiting) held) is others
      (λ events told. subst (λ bs. Faithful (with_held g id (taken (length held.waiting) held)) (events ++ Take id bs ∷ [])) (take-length held.waiting ∙ sym (ap waiting_in found)) (law g events id (length held.waiting) held told found gives)))
  | inr cut_is ↦ inl (led_held id [] g h (taken (length held.waiting) held) is others
      (λ events told. subst (Faithful (with_held g id (taken (length held.waiting) held))) (sym (append-nil events)) (cut_told g id (length held.waiting) held events found cut_is told)))
]

forgotten_still : (id : ℕ) (g h : State) → h ≡ g → IsForgotten id g h
forgotten_still id g h same = inl (subst (IsLed id [] g) (sym same) (led_none id g))

pub forgotten_so : {X : Type 0} → ((g : State) (events : List Event) (id max : ℕ) (held : ConnectionState) → Faithful g events → connection_at g id ≡ Some held → cut_refusal held.stage ≡ None → Faithful (with_held g id (taken max held)) (events ++ Take id (take max held.waiting) ∷ []))
    → (id : ℕ) (g h : State) (r : Result X GatewayFault) (P : Type 0) → MatchOption (forget_refusal (connection_at g id)) P (λ e. r ≡ Err e)
    → ((held : ConnectionState) → connection_at g id ≡ Some held → OnOk r (h ≡ with_held g id (taken (length held.waiting) held))) → OnErr r (h ≡ g)
    → ((other : ℕ) → other ≢ id → connection_at h other ≡ connection_at g other) → IsForgotten id g h
forgotten_so {X} law id g h (Err e) P answer left err others = forgotten_still id g h err
forgotten_so {X} law id g h (Ok u) P answer left err others = by (connection_at g id) refl answer
  where
    by : (o : Option ConnectionState) → connection_at g id ≡ o → MatchOption (forget_refusal o) P (λ e. Ok u ≡ Err e) → IsForgotten id g h
    by None found answer = cc
    by (Some held) found answer = forgotten_held law id g h held found (left held found) others
