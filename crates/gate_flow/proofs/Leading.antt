-- Calls of one connection, one after the other.
use Rattle.std.proofs.Common.{◌≡◌, ◌≢◌, ℕ, ◌≤◌, List, [], ◌∷◌, ◌++◌, take, drop, take-append-drop, Bool, true, false, cond, eq-eqb, Option, Some, None, Result, Ok, Err, refl, sym, ap, subst, ◌∙◌, append_assoc, arith, rules}
use Rattle.std.specs.Prelude.{MatchOption, IsOkUnless, IsOk, unwrap_or, ◌||◌}
use Rattle.std.specs.Ordering.{nat_cmp}
use Rattle.std.specs.FinMap as map
use Rattle.std.specs.List.{flat_map}
use Rattle.std.proofs.lemmas.List.{append-nil}
use Rattle.std.proofs.lemmas.List.Elements.{filter-append}
use Rattle.std.proofs.lemmas.List.Concat.{flat_map-append}
use Rattle.grid.specs.GridState.{GridState, failures_at, NoneFailed}
use Rattle.grid.proofs.Turns.{leaves_none, leaves_both}
use Rattle.grid.specs.Leaves.{Leaves}
use Rattle.gate_core.specs.declared.stage.Stage.{Stage}
use Rattle.gate_core.specs.declared.stage.Stage.TheVariants as stage
use Rattle.gate_core.specs.declared.fault.GatewayFault.{GatewayFault}
use Rattle.gate_core.specs.declared.fault.GatewayFault.TheVariants.{Known, NotOpen, Cut, BadParameters, StillOpen, NoMemory}
use Rattle.gate_base.specs.declared.tally.Tally.{Tally}
use Rattle.gate_core.specs.Settings.{GatewaySettings}
use Rattle.gate_core.specs.Events.{Event, Open, Bytes, End, Take, caller_of, piece_in, bytes_given_by, is_caller, is_event_of, calls_of, bytes_of_calls, handed}
use Rattle.gate_core.specs.ConnectionState.{ConnectionState, State, connection_at, waiting, waiting_in, is_over, is_closed_in, stage_refusal, cut_refusal, open_refusal, bytes_refusal, take_refusal}
use Rattle.gate_core.specs.AfterCall.{with_held, with_grid, with_tally, opened, taken, ended_state, cut_state}
use Rattle.gate_core.specs.Served.{IsReceived}
use Rattle.gate_core.specs.Came.{Opening, Came, IsRoomy, GoesOn, Stays}
use Rattle.gate_core.specs.Faithful.{Faithful, FaithfulAt}
use Rattle.gate_flow.specs.declared.fault.FlowFault.{FlowFault}
use Rattle.gate_flow.specs.Faults.{flow_of, IsCallFault}
use Rattle.http_edge.specs.FramingState.{rest, is_closed as is_left_closed}
use Rattle.gate_flow.specs.Led.{TakesBytes, IsLed, IsLedAsWritten, IsUnclosed}

-- ---- what grids leave

between : (a b c : ℕ) → a ≤ b → b ≤ c → c ≡ a → (b ≡ a) × (c ≡ b)
between a b c p q e = (omega arith, omega arith)

none_between : (a b c : GridState) → Leaves a b → Leaves b c → NoneFailed a c → (s : ℕ) → (failures_at b s ≡ failures_at a s) × (failures_at c s ≡ failures_at b s)
none_between a b c first second none s = between (failures_at a s) (failures_at b s) (failures_at c s) (first.rises s) (second.rises s) (none s)

-- ---- bytes of calls

pub joined_more : (id : ℕ) (a b : List Event) → bytes_of_calls id (a ++ b) ≡ bytes_of_calls id a ++ bytes_of_calls id b
joined_more id a b = ap (flat_map piece_in) (filter-append (is_event_of id) a b) ∙ flat_map-append piece_in (calls_of id a) (calls_of id b)

pub handed_more : (id : ℕ) (a b : List Event) → handed id (a ++ b) ≡ handed id a ++ handed id b
handed_more id a b = ap (flat_map bytes_given_by) (filter-append (is_event_of id) a b) ∙ flat_map-append bytes_given_by (calls_of id a) (calls_of id b)

pub calls_of_one : (id : ℕ) (e : Event) → caller_of e ≡ Some id → calls_of id (e ∷ []) ≡ e ∷ []
calls_of_one id e mine = ap (λ b. cond b (e ∷ []) []) (ap (is_caller id) mine ∙ eq-eqb id id refl)

pub joined_one : (id : ℕ) (e : Event) → caller_of e ≡ Some id → bytes_of_calls id (e ∷ []) ≡ piece_in e
joined_one id e mine = ap (flat_map piece_in) (calls_of_one id e mine) ∙ append-nil (piece_in e)

pub handed_one : (id : ℕ) (e : Event) → caller_of e ≡ Some id → handed id (e ∷ []) ≡ bytes_given_by e
handed_one id e mine = ap (flat_map bytes_given_by) (calls_of_one id e mine) ∙ append-nil (bytes_given_by e)

-- ---- calls one after the other

-- no call of a connection was made where only the grid is another
pub led_by_none : (id : ℕ) (g h : State) → h ≡ with_grid g h.grid → Leaves g.grid h.grid → IsLed id [] g h
led_by_none id g h is left = record {
  settings = ap (λ (s : State). s.settings) is;
  leaves = left;
  others = λ other apart. ap (λ (s : State). connection_at s other) is;
  told = λ events told. subst (Faithful h) (sym (append-nil events)) (subst (λ (s : State). Faithful s events) (sym is) (record { each = told.each }));
}

pub written_by_none : (g h : State) → Stays g h → IsLedAsWritten [] g h
written_by_none g h stays opening events came roomy calm = subst (Came opening h) (sym (append-nil events)) (stays opening events came)

pub led_none : (id : ℕ) (g : State) → IsLed id [] g g
led_none id g = record {
  settings = refl;
  leaves = leaves_none g.grid;
  others = λ other apart. refl;
  told = λ events told. subst (Faithful g) (sym (append-nil events)) told;
}

pub calm_none : (g : State) → IsLedAsWritten [] g g
calm_none g opening events came roomy none = subst (Came opening g) (sym (append-nil events)) came

pub led_more : (id : ℕ) (a b : List Event) (g h k : State) → IsLed id a g h → IsLed id b h k → IsLed id (a ++ b) g k
led_more id a b g h k first second = record {
  settings = second.settings ∙ first.settings;
  leaves = leaves_both g.grid h.grid k.grid first.leaves second.leaves;
  others = λ other apart. second.others other apart ∙ first.others other apart;
  told = λ events told. subst (Faithful k) (append_assoc events a b) (second.told (events ++ a) (first.told events told));
}

abbrev pub Beginnings : Type 0
Beginnings = (settings : GatewaySettings) (opening : Opening) (events more : List Event) → IsRoomy settings opening (events ++ more) → IsRoomy settings opening events

pub calm_more : Beginnings → (id : ℕ) (a b : List Event) (g h k : State) → IsLed id a g h → IsLed id b h k → IsLedAsWritten a g h → IsLedAsWritten b h k → IsLedAsWritten (a ++ b) g k
calm_more begins id a b g h k first second one two opening events came roomy none =
    let room : IsRoomy g.settings opening ((events ++ a) ++ b) = subst (IsRoomy g.settings opening) (sym (append_assoc events a b)) roomy in
    subst (Came opening k) (append_assoc events a b)
    (two opening (events ++ a)
    (one opening events came (begins g.settings opening (events ++ a) b room) (λ s. (none_between g.grid h.grid k.grid first.leaves second.leaves none s).0))
    (subst (λ t. IsRoomy t opening ((events ++ a) ++ b)) (sym first.settings) room)
    (λ s. (none_between g.grid h.grid k.grid first.leaves second.leaves none s).1))

pub calm_on : (g h : State) (e : Event) → GoesOn g h e → IsLedAsWritten (e ∷ []) g h
calm_on g h e on opening events came roomy none = on opening events came

-- ---- single calls

-- one that left the grid as it was
pub led_held : (id : ℕ) (calls : List Event) (g h : State) (held : ConnectionState) → h ≡ with_held g id held → ((other : ℕ) → other ≢ id → connection_at h other ≡ connection_at g other)
    → ((events : List Event) → Faithful g events → Faithful (with_held g id held) (events ++ calls)) → IsLed id calls g h
led_held id calls g h held is others told = record {
  settings = ap (λ (s : State). s.settings) is;
  leaves = subst (λ (s : State). Leaves g.grid s.grid) (sym is) (leaves_none g.grid);
  others = others;
  told = λ events before. subst (λ s. Faithful s (events ++ calls)) (sym is) (told events before);
}

-- an id that is opened was not used before
pub unopened : (held : Option ConnectionState) (n : ℕ) (P : Type 0) (Q : GatewayFault → Type 0) → ((e : GatewayFault) → Q e → ⊥) → MatchOption (open_refusal held n) P Q → held ≡ None
unopened None n P Q never answer = refl
unopened (Some h) n P Q never answer = absurd (never Known answer)

pub opened_led : ((g : State) (events : List Event) (id : ℕ) (secret : Option (List ℕ)) → Faithful g events → connection_at g id ≡ None → Faithful (with_held g id (opened secret)) (events ++ Open id (unwrap_or secret g.settings.secret) ∷ []))
    → (id : ℕ) (secret : Option (List ℕ)) (g h : State) → connection_at g id ≡ None → h ≡ with_held g id (opened secret) → ((other : ℕ) → other ≢ id → connection_at h other ≡ connection_at g other)
    → IsLed id (Open id (unwrap_or secret g.settings.secret) ∷ []) g h
opened_led law id secret g h none is others = led_held id (Open id (unwrap_or secret g.settings.secret) ∷ []) g h (opened secret) is others (λ events told. law g events id secret told none)

open_stage : (st : Stage) (P : Type 0) (Q : GatewayFault → Type 0) → ((e : GatewayFault) → Q e → ⊥) → MatchOption (stage_refusal st) P Q → st ≡ stage.Open
open_stage stage.Open P Q never answer = refl
open_stage stage.Ended P Q never answer = absurd (never NotOpen answer)
open_stage stage.Cut P Q never answer = absurd (never Cut answer)

-- a connection that took bytes, or an end, is open
taking : (held : Option ConnectionState) (P : Type 0) (Q : GatewayFault → Type 0) → ((e : GatewayFault) → Q e → ⊥) → MatchOption (bytes_refusal held) P Q → (h : ConnectionState) × (held ≡ Some h) × (h.stage ≡ stage.Open)
taking None P Q never answer = absurd (never NotOpen answer)
taking (Some h) P Q never answer = (h, refl, open_stage h.stage P Q never answer)

uncut_stage : (st : Stage) (P : Type 0) (Q : GatewayFault → Type 0) → ((e : GatewayFault) → Q e → ⊥) → MatchOption (cut_refusal st) P Q → cut_refusal st ≡ None
uncut_stage stage.Open P Q never answer = refl
uncut_stage stage.Ended P Q never answer = refl
uncut_stage stage.Cut P Q never answer = absurd (never Cut answer)

-- one that gave bytes was not cut
giving : (held : Option ConnectionState) (P : Type 0) (Q : GatewayFault → Type 0) → ((e : GatewayFault) → Q e → ⊥) → MatchOption (take_refusal held) P Q → (h : ConnectionState) × (held ≡ Some h) × (cut_refusal h.stage ≡ None)
giving None P Q never answer = absurd (never NotOpen answer)
giving (Some h) P Q never answer = (h, refl, uncut_stage h.stage P Q never answer)

pub bytes_led : ((g h : State) (events : List Event) (id : ℕ) (held : ConnectionState) (piece : List ℕ) → Faithful g events → connection_at g id ≡ Some held → held.stage ≡ stage.Open → IsReceived g h id held piece → Faithful h (events ++ Bytes id piece ∷ []))
    → (id : ℕ) (piece : List ℕ) (g h : State) (P : Type 0) (Q : GatewayFault → Type 0) → ((e : GatewayFault) → Q e → ⊥) → MatchOption (bytes_refusal (connection_at g id)) P Q
    → ((held : ConnectionState) → connection_at g id ≡ Some held → IsReceived g h id held piece) → ((other : ℕ) → other ≢ id → connection_at h other ≡ connection_at g other) → Leaves g.grid h.grid
    → IsLed id (Bytes id piece ∷ []) g h
bytes_led law id piece g h P Q never answer received others leaves =
    let was = taking (connection_at g id) P Q never answer in
    record {
      settings = (received was.0 was.1).settings;
      leaves = leaves;
      others = others;
      told = λ events told. law g h events id was.0 piece told was.1 was.2 (received was.0 was.1);
    }

pub taken_led : ((g : State) (events : List Event) (id max : ℕ) (held : ConnectionState) → Faithful g events → connection_at g id ≡ Some held → cut_refusal held.stage ≡ None → Faithful (with_held g id (taken max held)) (events ++ Take id (take max held.waiting) ∷ []))
    → (id max : ℕ) (given : List ℕ) (g h : State) (P : Type 0) (Q : GatewayFault → Type 0) → ((e : GatewayFault) → Q e → ⊥) → MatchOption (take_refusal (connection_at g id)) P Q
    → given ≡ take max (waiting g id) → ((held : ConnectionState) → connection_at g id ≡ Some held → h ≡ with_held g id (taken max held)) → ((other : ℕ) → other ≢ id → connection_at h other ≡ connection_at g other)
    → IsLed id (Take id given ∷ []) g h
taken_led law id max given g h P Q never answer is left others =
    let was = giving (connection_at g id) P Q never answer in
    let given_is : given ≡ take max was.0.waiting = is ∙ ap (λ o. take max (waiting_in o)) was.1 in
    led_held id (Take id given ∷ []) g h (taken max was.0) (left was.0 was.1) others
    (λ events told. subst (λ bs. Faithful (with_held g id (taken max was.0)) (events ++ Take id bs ∷ [])) (sym given_is) (law g events id max was.0 told was.1 was.2))

pub ended_led : ((g : State) (events : List Event) (id : ℕ) (held : ConnectionState) → Faithful g events → connection_at g id ≡ Some held → held.stage ≡ stage.Open → Faithful (with_held g id (ended_state held)) (events ++ End id ∷ []))
    → (id : ℕ) (g h : State) (P : Type 0) (Q : GatewayFault → Type 0) → ((e : GatewayFault) → Q e → ⊥) → MatchOption (bytes_refusal (connection_at g id)) P Q
    → ((held : ConnectionState) → connection_at g id ≡ Some held → h ≡ with_held g id (ended_state held)) → ((other : ℕ) → other ≢ id → connection_at h other ≡ connection_at g other)
    → IsLed id (End id ∷ []) g h
ended_led law id g h P Q never answer left others =
    let was = taking (connection_at g id) P Q never answer in
    led_held id (End id ∷ []) g h (ended_state was.0) (left was.0 was.1) others (λ events told. law g events id was.0 told was.1 was.2)

no_memory : (r : Result (Unit {0}) GatewayFault) (fault : GatewayFault) → r ≡ Err fault → IsOkUnless r NoMemory → r ≡ Err NoMemory
no_memory (Ok u) fault is only = cc
no_memory (Err e) fault is only = cc

-- bytes that were refused are no call, nor are those for which memory ran out
pub refused_led : ((g : State) (events : List Event) (id : ℕ) (held : ConnectionState) (grid : GridState) (tally : Tally) → Faithful g events → connection_at g id ≡ Some held → Faithful (with_tally (with_grid (with_held g id cut_state) grid) tally) events)
    → (id : ℕ) (fault : GatewayFault) (r : Result (Unit {0}) GatewayFault) (g h : State) → r ≡ Err fault
    → MatchOption (bytes_refusal (connection_at g id)) (IsOkUnless r NoMemory) (λ e. (r ≡ Err e) × (h ≡ g))
    → (r ≡ Err NoMemory → h ≡ with_tally (with_grid (with_held g id cut_state) h.grid) h.tally) → ((other : ℕ) → other ≢ id → connection_at h other ≡ connection_at g other) → Leaves g.grid h.grid
    → IsLed id [] g h
refused_led law id fault r g h is answer left others leaves = by (connection_at g id) refl answer
  where
    same : h ≡ g → IsLed id [] g h
    same back = subst (IsLed id [] g) (sym back) (led_none id g)

    gone : (held : ConnectionState) → connection_at g id ≡ Some held → IsOkUnless r NoMemory → IsLed id [] g h
    gone held found only =
        let now = left (no_memory r fault is only) in
        record {
          settings = ap (λ (s : State). s.settings) now;
          leaves = leaves;
          others = others;
          told = λ events told. subst (λ s. Faithful s (events ++ [])) (sym now) (subst (Faithful (with_tally (with_grid (with_held g id cut_state) h.grid) h.tally)) (sym (append-nil events)) (law g events id held h.grid h.tally told found));
        }

    at : (st : Stage) (held : ConnectionState) → connection_at g id ≡ Some held → MatchOption (stage_refusal st) (IsOkUnless r NoMemory) (λ e. (r ≡ Err e) × (h ≡ g)) → IsLed id [] g h
    at stage.Open held found answer = gone held found answer
    at stage.Ended held found answer = same answer.1
    at stage.Cut held found answer = same answer.1

    by : (held : Option ConnectionState) → connection_at g id ≡ held → MatchOption (bytes_refusal held) (IsOkUnless r NoMemory) (λ e. (r ≡ Err e) × (h ≡ g)) → IsLed id [] g h
    by None found answer = same answer.1
    by (Some held) found answer = at held.stage held found answer

-- ---- the first and the last call

pub here : {X : Type 0} (m : map.FinMap nat_cmp X) (k : ℕ) (v : X) → map.get (map.insert m k v) k ≡ Some v
here m k v = grind (arith, map.gets, rules)

pub waiting_held : (g h : State) (id : ℕ) (held : ConnectionState) → h ≡ with_held g id held → waiting h id ≡ held.waiting
waiting_held g h id held is = ap (λ (s : State). waiting s id) is ∙ ap waiting_in (here g.connections id held)

no_end : (r : Result (Unit {0}) GatewayFault) (fault : GatewayFault) → r ≡ Err fault → IsOk r → ⊥
no_end (Ok u) fault is ok = cc
no_end (Err e) fault is ok = cc

pub end_same : (g h : State) (r : Result (Unit {0}) GatewayFault) (fault : GatewayFault) (o : Option GatewayFault) → r ≡ Err fault → MatchOption o (IsOk r) (λ e. (r ≡ Err e) × (h ≡ g)) → h ≡ g
end_same g h r fault None is answer = absurd (no_end r fault is answer)
end_same g h r fault (Some e) is answer = answer.1

pub end_waits : (id : ℕ) (g h : State) (P : Type 0) (Q : GatewayFault → Type 0) → ((e : GatewayFault) → Q e → ⊥) → MatchOption (bytes_refusal (connection_at g id)) P Q
    → ((held : ConnectionState) → connection_at g id ≡ Some held → h ≡ with_held g id (ended_state held)) → waiting h id ≡ waiting g id
end_waits id g h P Q never answer left =
    let was = taking (connection_at g id) P Q never answer in
    waiting_held g h id (ended_state was.0) (left was.0 was.1) ∙ sym (ap waiting_in was.1)

-- ---- what is held after a call

pub held_after : (g h : State) (id : ℕ) (held : ConnectionState) → h ≡ with_held g id held → connection_at h id ≡ Some held
held_after g h id held is = ap (λ (s : State). connection_at s id) is ∙ here g.connections id held

-- the gateway takes bytes of a connection after it took some
pub bytes_open : (id : ℕ) (piece : List ℕ) (g h : State) (P : Type 0) (Q : GatewayFault → Type 0) → ((e : GatewayFault) → Q e → ⊥) → MatchOption (bytes_refusal (connection_at g id)) P Q
    → ((held : ConnectionState) → connection_at g id ≡ Some held → IsReceived g h id held piece) → TakesBytes (connection_at h id)
bytes_open id piece g h P Q never answer received =
    let was = taking (connection_at g id) P Q never answer in
    let now = received was.0 was.1 in
    let found : connection_at h id ≡ Some now.after = ap (λ m. map.get m id) now.connections ∙ here g.connections id now.after in
    ap bytes_refusal found ∙ ap stage_refusal (ap (λ (s : ConnectionState). s.stage) now.fed.left ∙ was.2)

-- why bytes are refused, or none
pub bytes_refused : (held : Option ConnectionState) (fault : GatewayFault) (r : Result (Unit {0}) GatewayFault) (Q : GatewayFault → Type 0) → r ≡ Err fault → fault ≢ NoMemory
    → MatchOption (bytes_refusal held) (IsOkUnless r NoMemory) Q → bytes_refusal held ≢ None
bytes_refused held fault r Q is other answer takes =
    let only : IsOkUnless r NoMemory = subst (λ o. MatchOption o (IsOkUnless r NoMemory) Q) takes answer in
    other (same_fault (no_memory r fault is only))
  where
    same_fault : r ≡ Err NoMemory → fault ≡ NoMemory
    same_fault none = cc

-- bytes that wait are taken, and what is left waits still
pub take_splits : (id max : ℕ) (given : List ℕ) (g h : State) (P : Type 0) (Q : GatewayFault → Type 0) → ((e : GatewayFault) → Q e → ⊥) → MatchOption (take_refusal (connection_at g id)) P Q
    → given ≡ take max (waiting g id) → ((held : ConnectionState) → connection_at g id ≡ Some held → h ≡ with_held g id (taken max held)) → waiting g id ≡ given ++ waiting h id
take_splits id max given g h P Q never answer is left =
    let was = giving (connection_at g id) P Q never answer in
    let before : waiting g id ≡ was.0.waiting = ap waiting_in was.1 in
    let after : waiting h id ≡ drop max was.0.waiting = waiting_held g h id (taken max was.0) (left was.0 was.1) in
    before ∙ sym (take-append-drop max was.0.waiting) ∙ ap (λ r. r ++ drop max was.0.waiting) (sym (is ∙ ap (take max) before)) ∙ ap (λ r. given ++ r) (sym after)

-- and the gateway takes bytes as it did before
pub take_stays : (id max : ℕ) (g h : State) (P : Type 0) (Q : GatewayFault → Type 0) → ((e : GatewayFault) → Q e → ⊥) → MatchOption (take_refusal (connection_at g id)) P Q
    → ((held : ConnectionState) → connection_at g id ≡ Some held → h ≡ with_held g id (taken max held)) → bytes_refusal (connection_at h id) ≡ bytes_refusal (connection_at g id)
take_stays id max g h P Q never answer left =
    let was = giving (connection_at g id) P Q never answer in
    ap bytes_refusal (held_after g h id (taken max was.0) (left was.0 was.1)) ∙ sym (ap bytes_refusal was.1)

uncut : (st : Stage) → stage_refusal st ≡ None → cut_refusal st ≡ None
uncut stage.Open takes = refl
uncut stage.Ended takes = cc
uncut stage.Cut takes = cc

gives_bytes : (held : Option ConnectionState) → TakesBytes held → take_refusal held ≡ None
gives_bytes None takes = cc
gives_bytes (Some held) takes = uncut held.stage takes

-- a connection of which the gateway takes bytes gives what waits
pub take_refused : (held : Option ConnectionState) (fault : GatewayFault) (r : Result (Unit {0}) GatewayFault) (Q : GatewayFault → Type 0) → r ≡ Err fault → fault ≢ NoMemory
    → MatchOption (take_refusal held) (IsOkUnless r NoMemory) Q → bytes_refusal held ≢ None
take_refused held fault r Q is other answer takes =
    let only : IsOkUnless r NoMemory = subst (λ o. MatchOption o (IsOkUnless r NoMemory) Q) (gives_bytes held takes) answer in
    other (same_fault (no_memory r fault is only))
  where
    same_fault : r ≡ Err NoMemory → fault ≡ NoMemory
    same_fault none = cc

-- after its end the gateway takes no bytes of a connection
pub end_over : (id : ℕ) (g h : State) (P : Type 0) (Q : GatewayFault → Type 0) → ((e : GatewayFault) → Q e → ⊥) → MatchOption (bytes_refusal (connection_at g id)) P Q
    → ((held : ConnectionState) → connection_at g id ≡ Some held → h ≡ with_held g id (ended_state held)) → bytes_refusal (connection_at h id) ≢ None
end_over id g h P Q never answer left =
    let was = taking (connection_at g id) P Q never answer in
    let closed : bytes_refusal (connection_at h id) ≡ Some NotOpen = ap bytes_refusal (held_after g h id (ended_state was.0) (left was.0 was.1)) in
    λ takes. cc

-- an end is refused only where the gateway takes no bytes
pub end_refused : (g h : State) (o : Option GatewayFault) (fault : GatewayFault) (r : Result (Unit {0}) GatewayFault) → r ≡ Err fault → MatchOption o (IsOk r) (λ e. (r ≡ Err e) × (h ≡ g)) → o ≢ None
end_refused g h None fault r is answer = absurd (no_end r fault is answer)
end_refused g h (Some e) fault r is answer = λ takes. cc

pub end_still_over : (id : ℕ) (g h : State) (fault : GatewayFault) (r : Result (Unit {0}) GatewayFault) → r ≡ Err fault
    → MatchOption (bytes_refusal (connection_at g id)) (IsOk r) (λ e. (r ≡ Err e) × (h ≡ g)) → bytes_refusal (connection_at h id) ≢ None
end_still_over id g h fault r is answer =
    subst (λ (s : State). bytes_refusal (connection_at s id) ≢ None) (sym (end_same g h r fault (bytes_refusal (connection_at g id)) is answer)) (end_refused g h (bytes_refusal (connection_at g id)) fault r is answer)

-- why a call is refused, as a flow tells it
pub call_fault : (held : Option ConnectionState) (fault : GatewayFault) (made : FlowFault) → made ≡ flow_of fault → (fault ≢ NoMemory → bytes_refusal held ≢ None) → IsCallFault held made
call_fault held fault made is why = subst (IsCallFault held) (sym is) (by fault why)
  where
    by : (fault : GatewayFault) → (fault ≢ NoMemory → bytes_refusal held ≢ None) → IsCallFault held (flow_of fault)
    by Known why = why (λ same. cc)
    by NotOpen why = why (λ same. cc)
    by Cut why = why (λ same. cc)
    by BadParameters why = why (λ same. cc)
    by StillOpen why = why (λ same. cc)
    by NoMemory why = tt

-- ---- bytes that come while no item closed

not_left : (a b : Bool) → (a || b) ≡ false → a ≡ false
not_left true b none = cc
not_left false b none = refl

not_right : (a b : Bool) → (a || b) ≡ false → b ≡ false
not_right true b none = cc
not_right false b none = none

still_open : (st : Stage) → is_over st ≡ false → st ≡ stage.Open
still_open stage.Open none = refl
still_open stage.Ended none = cc
still_open stage.Cut none = cc

none_closes : is_left_closed (rest []) ≡ false
unfolding rest
none_closes = refl

-- what is held tells whether an item that closes was completed
pub unclosed : (g : State) (id : ℕ) (events : List Event) → is_closed_in (connection_at g id) ≡ false → Faithful g events → IsUnclosed id events
unclosed g id events none told = at (connection_at g id) none (told.each id)
  where
    at : (held : Option ConnectionState) → is_closed_in held ≡ false → FaithfulAt g.settings id held events → IsUnclosed id events
    at None none told = ap (λ bytes. is_left_closed (rest bytes)) told.read ∙ none_closes
    at (Some held) none told =
        sym (ap is_left_closed (told.read (still_open held.stage (not_right (is_left_closed held.conn) (is_over held.stage) none))))
        ∙ not_left (is_left_closed held.conn) (is_over held.stage) none
