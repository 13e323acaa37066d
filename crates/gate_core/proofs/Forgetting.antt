-- Connections that have an entry, and behind them those that were forgotten.
use Rattle.std.proofs.Common.{◌≡◌, ◌≢◌, ℕ, List, [], ◌∷◌, ◌++◌, length, take, drop, Bool, true, false, cond, is_some, IsSome, Option, Some, None, Result, Ok, Err, refl, sym, ap, subst, ◌∙◌}
use Rattle.std.specs.Prelude.{◌||◌, MatchOption, IsOk, IsOkUnless, IfOk, OnOk, OnErr}
use Rattle.std.specs.List.{list_any}
use Rattle.std.proofs.lemmas.Result.{on_ok_weaker, on_err_weaker, IfOk-weaker}
use Rattle.std.proofs.Math.Seq.{drop-nil, take-nil, drop-length, take-length}
use Rattle.std.specs.Ordering.{nat_cmp, eq_by_cmp}
use Rattle.std.specs.Cmp.{nat_cmp_total, eq_by_cmp_equiv}
use Rattle.std.specs.BTreeMap.{is_at}
use Rattle.std.specs.Map.{lookup}
use Rattle.std.specs.FinMap as map
use Rattle.std.specs.FinSet as set
use Rattle.http_edge.specs.FramingState.{part_of, is_closed as is_left_closed}
use Rattle.gate_core.specs.declared.stage.Stage.TheVariants as stage
use Rattle.gate_core.specs.declared.fault.GatewayFault.{GatewayFault}
use Rattle.gate_core.specs.declared.fault.GatewayFault.TheVariants.{NotOpen, NoMemory}
use Rattle.gate_core.specs.Events.{Event, Take}
use Rattle.gate_core.specs.Came.{Opening, Came, GoesOn}
use Rattle.gate_core.specs.ConnectionState.{ConnectionState, Connections, State, IsBare, connection_at, waiting, waiting_in, is_closed_in, bytes_refusal, take_refusal, forget_refusal, going_refusal}
use Rattle.gate_core.specs.AfterCall.{with_held, taken}
use Rattle.gate_core.specs.Forgotten.{gone, gone_in, gone_at, with_gone}
use Rattle.gate_core.specs.Kept.{kept_in, bytes_of_body_in}
use Rattle.gate_core.proofs.Maps.{get_viewed, written, insert_same, get-insert_other, Changed}
use Rattle.gate_core.proofs.Arrivals.{same_state, is_with_held, meant, some_is}

-- ---- entries, and others behind them

abbrev first_of : Option ConnectionState → Option ConnectionState → Option ConnectionState
first_of (Some x) o = Some x
first_of None o = o

chosen : (b : Bool) (v : ConnectionState) (x o : Option ConnectionState) → cond b (Some v) (first_of x o) ≡ first_of (cond b (Some v) x) o
chosen true v x o = refl
chosen false v x o = refl

lookup-behind : (p : ℕ → Bool) (es gs : List (ℕ × ConnectionState)) → lookup p (es ++ gs) ≡ first_of (lookup p es) (lookup p gs)
lookup-behind p [] gs = refl
lookup-behind p (e ∷ es) gs = ap (cond (p e.0) (Some e.1)) (lookup-behind p es gs) ∙ chosen (p e.0) e.1 (lookup p es) (lookup p gs)

either : (a b : Bool) → cond a (Some gone) (cond b (Some gone) None) ≡ cond (a || b) (Some gone) None
either true b = refl
either false b = refl

lookup_listed : (q : ℕ) (ks : List ℕ) → lookup (is_at (nat_cmp q)) (gone_at ks) ≡ cond (list_any (eq_by_cmp nat_cmp q) ks) (Some gone) None
lookup_listed q [] = refl
lookup_listed q (k ∷ ks) = ap (cond (eq_by_cmp nat_cmp q k) (Some gone)) (lookup_listed q ks) ∙ either (eq_by_cmp nat_cmp q k) (list_any (eq_by_cmp nat_cmp q) ks)

lookup_gone : (ids : set.FinSet nat_cmp) (q : ℕ) → lookup (is_at (nat_cmp q)) (gone_at (set.items ids)) ≡ gone_in ids q
lookup_gone ids q = lookup_listed q (set.items ids) ∙ ap (λ b. cond b (Some gone) None) (sym (set.contains-items ids q))

get_all : (es : List (ℕ × ConnectionState)) (ids : set.FinSet nat_cmp) (q : ℕ) → map.get (with_gone es ids) q ≡ first_of (lookup (is_at (nat_cmp q)) es) (gone_in ids q)
get_all es ids q =
    get_viewed (es ++ gone_at (set.items ids)) q
    ∙ lookup-behind (is_at (nat_cmp q)) es (gone_at (set.items ids))
    ∙ ap (first_of (lookup (is_at (nat_cmp q)) es)) (lookup_gone ids q)

-- a value that is put at a key
pub put_all : (es fs : List (ℕ × ConnectionState)) (ids : set.FinSet nat_cmp) (k : ℕ) (v : ConnectionState)
    → ((q : ℕ) → lookup (is_at (nat_cmp q)) fs ≡ cond (is_at (nat_cmp k) q) (Some v) (lookup (is_at (nat_cmp q)) es))
    → with_gone fs ids ≡ map.insert (with_gone es ids) k v
put_all es fs ids k v puts =
    let behind = gone_at (set.items ids) in
    written (es ++ behind) (fs ++ behind) k v (λ q.
    lookup-behind (is_at (nat_cmp q)) fs behind
    ∙ ap (λ o. first_of o (lookup (is_at (nat_cmp q)) behind)) (puts q)
    ∙ sym (chosen (is_at (nat_cmp k) q) v (lookup (is_at (nat_cmp q)) es) (lookup (is_at (nat_cmp q)) behind))
    ∙ ap (cond (is_at (nat_cmp k) q) (Some v)) (sym (lookup-behind (is_at (nat_cmp q)) es behind)))

parted : (a b : Bool) (o : Option ConnectionState) → first_of (cond a None o) (cond (a || b) (Some gone) None) ≡ cond a (Some gone) (first_of o (cond b (Some gone) None))
parted true b o = refl
parted false b o = refl

-- an entry that is taken out and put behind
pub put_away : (es fs : List (ℕ × ConnectionState)) (ids : set.FinSet nat_cmp) (k : ℕ)
    → ((q : ℕ) → lookup (is_at (nat_cmp q)) fs ≡ cond (is_at (nat_cmp k) q) None (lookup (is_at (nat_cmp q)) es))
    → with_gone fs (set.insert ids k) ≡ map.insert (with_gone es ids) k gone
put_away es fs ids k puts =
    map.same_map nat_cmp_total map.nat_cmp-IsAntisymmetric _ _ (λ q.
    get_all fs (set.insert ids k) q
    ∙ ap (λ o. first_of o (gone_in (set.insert ids k) q)) (puts q)
    ∙ ap (λ b. first_of (cond b None (lookup (is_at (nat_cmp q)) es)) (gone_in (set.insert ids k) q)) ((eq_by_cmp_equiv nat_cmp_total).symm k q)
    ∙ ap (λ b. first_of (cond (eq_by_cmp nat_cmp q k) None (lookup (is_at (nat_cmp q)) es)) (cond b (Some gone) None)) (set.contains-insert nat_cmp_total ids k q)
    ∙ parted (eq_by_cmp nat_cmp q k) (set.contains ids q) (lookup (is_at (nat_cmp q)) es)
    ∙ ap (cond (eq_by_cmp nat_cmp q k) (Some gone)) (sym (get_all es ids q))
    ∙ sym (map.get-insert nat_cmp_total (with_gone es ids) k gone q))

pub nothing_held : (es : List (ℕ × ConnectionState)) (ids : set.FinSet nat_cmp) → es ≡ [] → ids ≡ set.empty → with_gone es ids ≡ map.empty
nothing_held es ids none empty =
    map.same_map nat_cmp_total map.nat_cmp-IsAntisymmetric _ _ (λ q.
    get_all es ids q
    ∙ ap (λ e. first_of (lookup (is_at (nat_cmp q)) e) (gone_in ids q)) none
    ∙ ap (λ s. gone_in s q) empty
    ∙ ap (λ b. cond b (Some gone) None) (set.contains-empty nat_cmp q)
    ∙ sym (map.get-empty nat_cmp q))

module _ (m : Connections) (es : List (ℕ × ConnectionState)) (ids : set.FinSet nat_cmp) (k : ℕ) (is : with_gone es ids ≡ m) where
  -- what `get_mut` lent was left at `new`
  pub lent : (fs : List (ℕ × ConnectionState)) (old new : ConnectionState) → Some old ≡ lookup (is_at (nat_cmp k)) es
      → (IsSome (lookup (is_at (nat_cmp k)) es) → (q : ℕ) → lookup (is_at (nat_cmp q)) fs ≡ cond (is_at (nat_cmp k) q) (Some new) (lookup (is_at (nat_cmp q)) es))
      → Changed m (with_gone fs ids) k old new
  lent fs old new had puts = record {
    found = ap (λ g. map.get g k) (sym is) ∙ get_all es ids k ∙ ap (λ o. first_of o (gone_in ids k)) (sym had);
    put = put_all es fs ids k new (puts (ap is_some (sym had))) ∙ ap (λ g. map.insert g k new) is;
  }

  pub entry_found : (held : ConnectionState) → Some held ≡ lookup (is_at (nat_cmp k)) es → map.get m k ≡ Some held
  entry_found held had = ap (λ g. map.get g k) (sym is) ∙ get_all es ids k ∙ ap (λ o. first_of o (gone_in ids k)) (sym had)

  pub no_entry : None ≡ lookup (is_at (nat_cmp k)) es → map.get m k ≡ gone_in ids k
  no_entry none = ap (λ g. map.get g k) (sym is) ∙ get_all es ids k ∙ ap (λ o. first_of o (gone_in ids k)) (sym none)

  some_first : (o : Option ConnectionState) (b : Bool) → is_some (first_of o (cond b (Some gone) None)) ≡ (is_some o || b)
  some_first (Some x) b = refl
  some_first None true = refl
  some_first None false = refl

  pub is_there : is_some (map.get m k) ≡ (is_some (lookup (is_at (nat_cmp k)) es) || set.contains ids k)
  is_there = ap (λ g. is_some (map.get g k)) (sym is) ∙ ap is_some (get_all es ids k) ∙ some_first (lookup (is_at (nat_cmp k)) es) (set.contains ids k)

-- ---- ids without an entry

ok_unless : {T : Type 0} (r : Result T GatewayFault) → IsOk r → IsOkUnless r NoMemory
ok_unless (Ok x) ok = tt
ok_unless (Err e) ok = cc

pub on_ok_if : {T E : Type 0} (r : Result T E) (X : Type 0) → X → OnOk r X
on_ok_if (Ok x) X h = h
on_ok_if (Err e) X h = tt

gone_is : (b : Bool) (held : ConnectionState) → cond b (Some gone) None ≡ Some held → gone ≡ held
gone_is true held e = some_is gone held e
gone_is false held e = cc

drop_nothing : (max : ℕ) → drop max gone.waiting ≡ gone.waiting
drop_nothing max = drop-nil max

taken_gone : (max : ℕ) → taken max gone ≡ gone
taken_gone max i = record { secret = None; conn = part_of []; stage = stage.Ended; waiting = drop_nothing max i }

no_bytes : (b : Bool) → bytes_refusal (cond b (Some gone) None) ≡ Some NotOpen
no_bytes true = refl
no_bytes false = refl

nothing_waits : (b : Bool) → waiting_in (cond b (Some gone) None) ≡ []
nothing_waits true = refl
nothing_waits false = refl

or_true : (b : Bool) → (b || true) ≡ true
or_true true = refl
or_true false = refl

pub gone_closed : (b : Bool) → is_closed_in (cond b (Some gone) None) ≡ b
gone_closed true = or_true (is_left_closed (part_of []))
gone_closed false = refl

nothing_kept : (b : Bool) → kept_in (cond b (Some gone) None) ≡ 0
nothing_kept true = refl
nothing_kept false = refl

nothing_of_body : (b : Bool) (bytes : List ℕ) → bytes_of_body_in (cond b (Some gone) None) bytes ≡ 0
nothing_of_body true bytes = refl
nothing_of_body false bytes = refl

module _ (g h : State) (id : ℕ) (ids : set.FinSet nat_cmp) (unheld : connection_at g id ≡ gone_in ids id) where
  pub unheld_refused : (P : Type 0) (Q : GatewayFault → Type 0) → Q NotOpen → h ≡ g → MatchOption (bytes_refusal (connection_at g id)) P (λ e. Q e × (h ≡ g))
  unheld_refused P Q refused same = subst (λ o. MatchOption o P (λ e. Q e × (h ≡ g))) (sym (ap bytes_refusal unheld ∙ no_bytes (set.contains ids id))) (refused, same)

  pub unheld_waits : waiting g id ≡ []
  unheld_waits = ap waiting_in unheld ∙ nothing_waits (set.contains ids id)

  pub unheld_keeps : kept_in (connection_at g id) ≡ 0
  unheld_keeps = ap kept_in unheld ∙ nothing_kept (set.contains ids id)

  pub unheld_of_body : (bytes : List ℕ) → bytes_of_body_in (connection_at g id) bytes ≡ 0
  unheld_of_body bytes = ap (λ o. bytes_of_body_in o bytes) unheld ∙ nothing_of_body (set.contains ids id) bytes

  pub unheld_closed : set.contains ids id ≡ is_closed_in (connection_at g id)
  unheld_closed = sym (ap is_closed_in unheld ∙ gone_closed (set.contains ids id))

  -- what waits of it is taken, which is nothing
  pub unheld_taken : (max : ℕ) (held : ConnectionState) → connection_at g id ≡ Some held → h ≡ g → h ≡ with_held g id (taken max held)
  unheld_taken max held found same =
      let is : taken max held ≡ gone = ap (taken max) (sym (gone_is (set.contains ids id) held (sym unheld ∙ found))) ∙ taken_gone max in
      same ∙ same_state (with_held g id (taken max held)) g refl
      (sym (insert_same g.connections id (taken max held) (found ∙ ap Some (sym (is ∙ gone_is (set.contains ids id) held (sym unheld ∙ found)))))) refl refl

  -- what an id without an entry is answered
  pub unheld_answer : {T : Type 0} (r : Result T GatewayFault) (f : Option ConnectionState → Option GatewayFault) → MatchOption (f (gone_in ids id)) (IsOk r) (λ e. r ≡ Err e)
      → MatchOption (f (connection_at g id)) (IsOkUnless r NoMemory) (λ e. r ≡ Err e)
  unheld_answer r f answer =
      subst (λ o. MatchOption (f o) (IsOkUnless r NoMemory) (λ e. r ≡ Err e)) (sym unheld)
      (elim (f (gone_in ids id)) as (λ o. MatchOption o (IsOk r) (λ e. r ≡ Err e) → MatchOption o (IsOkUnless r NoMemory) (λ e. r ≡ Err e)) [
        | None ↦ λ ok. ok_unless r ok
        | Some e ↦ λ err. err
      ] answer)

  -- taking from it goes on
  pub unheld_came : {T : Type 0} (items : T → List ℕ) (r : Result T GatewayFault) (max : ℕ) → h ≡ g
      → ((opening : Opening) (g : State) (events : List Event) (id max : ℕ) (held : ConnectionState) → Came opening g events → connection_at g id ≡ Some held → Came opening (with_held g id (taken max held)) (events ++ Take id (take max held.waiting) ∷ []))
      → MatchOption (take_refusal (gone_in ids id)) (IsOk r) (λ e. r ≡ Err e) → IfOk r (λ x. items x ≡ []) → IfOk r (λ x. GoesOn g h (Take id (items x)))
  unheld_came items r max same law answer given =
      elim (set.contains ids id) as (λ b. set.contains ids id ≡ b → MatchOption (take_refusal (cond b (Some gone) None)) (IsOk r) (λ e. r ≡ Err e) → IfOk r (λ x. GoesOn g h (Take id (items x)))) [
        | true ↦ λ there _.
            let found : connection_at g id ≡ Some gone = unheld ∙ ap (λ b. cond b (Some gone) None) there in
            IfOk-weaker r _ _ (λ x none opening events came.
            subst (λ w. Came opening h (events ++ Take id w ∷ [])) (take-nil max ∙ sym none)
            (subst (λ s. Came opening s (events ++ Take id (take max gone.waiting) ∷ [])) (sym (unheld_taken max gone found same)) (law opening g events id max gone came found))) given
        | false ↦ λ _ err. subst (λ x. IfOk x (λ y. GoesOn g h (Take id (items y)))) (sym err) tt
      ] refl answer

-- ---- `forget`

module _ (g : State) (id : ℕ) (old : ConnectionState) (found : connection_at g id ≡ Some old) where
  pub forgettable : (o : Option GatewayFault) (P : Type 0) (Q : GatewayFault → Type 0) → going_refusal old.stage ≡ o → MatchOption o P Q → MatchOption (forget_refusal (connection_at g id)) P Q
  forgettable o P Q is answer = subst (λ x. MatchOption x P Q) (sym (ap forget_refusal found ∙ is)) answer

  -- of one that was cut nothing waits
  pub cut_forgotten : (held : ConnectionState) → connection_at g id ≡ Some held → IsBare old → old.stage ≡ stage.Cut → g ≡ with_held g id (taken (length held.waiting) held)
  cut_forgotten held there bare cut =
      let is = meant (connection_at g id) old held found there in
      let none : held.waiting ≡ [] = subst (λ x. x.waiting ≡ []) is (bare.cut cut) in
      let same : taken (length held.waiting) held ≡ held = λ i. record { secret = held.secret; conn = held.conn; stage = held.stage; waiting = (drop-length held.waiting ∙ sym none) i } in
      same_state (with_held g id (taken (length held.waiting) held)) g refl (sym (insert_same g.connections id (taken (length held.waiting) held) (there ∙ ap Some (sym same)))) refl refl

  -- one that ended is put away
  pub ended_forgotten : (h : State) (held : ConnectionState) → connection_at g id ≡ Some held → IsBare old → old.stage ≡ stage.Ended
      → h.settings ≡ g.settings → h.connections ≡ map.insert g.connections id gone → h.grid ≡ g.grid → h.tally ≡ g.tally → h ≡ with_held g id (taken (length held.waiting) held)
  ended_forgotten h held there bare ended settings put grid counts =
      let is = meant (connection_at g id) old held found there in
      let kept : (held.secret ≡ None) × (held.conn ≡ part_of []) = subst (λ x. (x.secret ≡ None) × (x.conn ≡ part_of [])) is (bare.ended ended) in
      let over : held.stage ≡ stage.Ended = subst (λ x. x.stage ≡ stage.Ended) is ended in
      let same : gone ≡ taken (length held.waiting) held = λ i. record { secret = sym kept.0 i; conn = sym kept.1 i; stage = sym over i; waiting = sym (drop-length held.waiting) i } in
      is_with_held g h id (taken (length held.waiting) held) settings (put ∙ ap (map.insert g.connections id) same) grid counts

both_ways : {T E : Type 0} (r : Result T E) (X : Type 0) → OnOk r X → OnErr r X → X
both_ways (Ok x) X ok err = ok
both_ways (Err e) X ok err = err

module _ (g h : State) (id : ℕ) (r : Result (Unit {0}) GatewayFault) (answer : MatchOption (forget_refusal (connection_at g id)) (IsOkUnless r NoMemory) (λ e. r ≡ Err e))
    (left : (held : ConnectionState) → connection_at g id ≡ Some held → OnOk r (h ≡ with_held g id (taken (length held.waiting) held))) where
  where_forgotten : (X : Type 0) → ((held : ConnectionState) → connection_at g id ≡ Some held → h ≡ with_held g id (taken (length held.waiting) held) → X) → OnOk r X
  where_forgotten X step =
      elim (connection_at g id) as (λ o. connection_at g id ≡ o → MatchOption (forget_refusal o) (IsOkUnless r NoMemory) (λ e. r ≡ Err e) → OnOk r X) [
        | None ↦ λ _ err. subst (λ x. OnOk x X) (sym err) tt
        | Some held ↦ λ found _. on_ok_weaker r (step held found) (left held found)
      ] refl answer

  pub forgotten_others : OnErr r (h ≡ g) → (other : ℕ) → other ≢ id → connection_at h other ≡ connection_at g other
  forgotten_others err other apart =
      both_ways r _
      (where_forgotten (connection_at h other ≡ connection_at g other) (λ held found is. ap (λ s. connection_at s other) is ∙ get-insert_other g.connections id other (taken (length held.waiting) held) apart))
      (on_err_weaker r (ap (λ s. connection_at s other)) err)

  pub forgotten_came : ((opening : Opening) (g : State) (events : List Event) (id max : ℕ) (held : ConnectionState) → Came opening g events → connection_at g id ≡ Some held → Came opening (with_held g id (taken max held)) (events ++ Take id (take max held.waiting) ∷ []))
      → OnOk r (GoesOn g h (Take id (waiting g id)))
  forgotten_came law =
      where_forgotten (GoesOn g h (Take id (waiting g id))) (λ held found is opening events came.
      subst (λ s. Came opening s (events ++ Take id (waiting g id) ∷ [])) (sym is)
      (subst (λ w. Came opening (with_held g id (taken (length held.waiting) held)) (events ++ Take id w ∷ [])) (take-length held.waiting ∙ sym (ap waiting_in found)) (law opening g events id (length held.waiting) held came found)))
