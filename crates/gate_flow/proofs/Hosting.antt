-- What a loop did to a gateway goes on with each call.
use Rattle.std.proofs.Common.{◌≡◌, ◌≢◌, ℕ, ◌+◌, ◌≤◌, ◌<◌, ◌⊎◌, List, [], ◌∷◌, ◌++◌, Result, Ok, Err, refl, sym, ap, subst, ◌∙◌, append_assoc, arith, inl, inr}
use Rattle.std.specs.Prelude.{OnOk, OnErr}
use Rattle.std.specs.List.{All}
use Rattle.std.proofs.lemmas.List.{append-nil}
use Rattle.std.proofs.lemmas.List.Elements.{All-append, All-nil, All-cons, All-head, All-tail}
use Rattle.grid.proofs.Turns.{leaves_none, leaves_both}
use Rattle.gate_core.specs.Events.{Event, Open, Bytes, End, Take, Lose, Spoil}
use Rattle.gate_core.specs.ConnectionState.{State, waiting}
use Rattle.gate_core.specs.Faithful.{Faithful}
use Rattle.gate_flow.specs.Led.{IsLed, IsMove, AreMoves}
use Rattle.gate_flow.specs.State.{FlowState}
use Rattle.gate_flow.specs.Steps.{Advances, AdvancesAsWritten}
use Rattle.gate_flow.specs.Hosted.{IsHosted, IsHostedWith, IsOwn, IsOwnId, IsForgotten, Opened, opened_in, opened_by}

pub hosted_none : (first : ℕ) (g : State) → IsHosted first first g g
hosted_none first g = record {
  calls = [];
  own = All-nil (IsOwn first first);
  opens = refl;
  settings = refl;
  leaves = leaves_none g.grid;
  others = λ other apart. refl;
  told = λ events told. subst (Faithful g) (sym (append-nil events)) told;
}

another : (first next id other : ℕ) → IsOwnId first next id → (other < first) ⊎ (next ≤ other) → other ≢ id
another first next id other own apart = λ same. elim apart [ inl less ↦ omega (arith, less, own.0, same) | inr more ↦ omega (arith, more, own.1, same) ]

pub hosted_one : (first next id : ℕ) (calls : List Event) (g h : State) → IsOwnId first next id → All (IsOwn first next) calls → IsLed id calls g h → IsHostedWith first next (opened_by calls) g h
hosted_one first next id calls g h mine own led = record {
  calls = calls;
  own = own;
  opens = refl;
  settings = led.settings;
  leaves = led.leaves;
  others = λ other apart. led.others other (another first next id other mine apart);
  told = led.told;
}

-- ---- more ids are one's own

reach : (first next low more : ℕ) (e : Event) → low ≤ first → next ≤ more → IsOwn first next e → IsOwn low more e
reach first next low more (Open id secret) before behind was = (omega (arith, was.0, before), omega (arith, was.1, behind))
reach first next low more (Bytes id piece) before behind was = (omega (arith, was.0, before), omega (arith, was.1, behind))
reach first next low more (End id) before behind was = (omega (arith, was.0, before), omega (arith, was.1, behind))
reach first next low more (Take id given) before behind was = (omega (arith, was.0, before), omega (arith, was.1, behind))
reach first next low more (Lose server key) before behind was = was
reach first next low more (Spoil server key place) before behind was = was

all_reach : (first next low more : ℕ) (es : List Event) → low ≤ first → next ≤ more → All (IsOwn first next) es → All (IsOwn low more) es
all_reach first next low more [] before behind was = All-nil (IsOwn low more)
all_reach first next low more (e ∷ es) before behind was = All-cons (IsOwn low more) e es (reach first next low more e before behind (All-head (IsOwn first next) e es was)) (all_reach first next low more es before behind (All-tail (IsOwn first next) e es was))

apart_too : (first next low more other : ℕ) → low ≤ first → next ≤ more → (other < low) ⊎ (more ≤ other) → (other < first) ⊎ (next ≤ other)
apart_too first next low more other before behind (inl less) = inl (omega (arith, less, before))
apart_too first next low more other before behind (inr past) = inr (omega (arith, past, behind))

pub opened_wider : (first next low more : ℕ) (opened : List Opened) (g h : State) → low ≤ first → next ≤ more → IsHostedWith first next opened g h → IsHostedWith low more opened g h
opened_wider first next low more opened g h before behind was = record {
  calls = was.calls;
  own = all_reach first next low more was.calls before behind was.own;
  opens = was.opens;
  settings = was.settings;
  leaves = was.leaves;
  others = λ other apart. was.others other (apart_too first next low more other before behind apart);
  told = was.told;
}

pub hosted_wider : (first next low more : ℕ) (g h : State) → low ≤ first → next ≤ more → IsHosted first next g h → IsHosted low more g h
hosted_wider first next low more g h before behind was = opened_wider first next low more [] g h before behind was

-- ---- one after the other

-- calls open what their parts open
opened_both : (some more : List Event) → opened_by (some ++ more) ≡ opened_by some ++ opened_by more
opened_both [] more = refl
opened_both (e ∷ some) more =
    ap (λ (xs : List Opened). opened_in e ++ xs) (opened_both some more) ∙ sym (append_assoc (opened_in e) (opened_by some) (opened_by more))

below : (next more other first : ℕ) → next ≤ more → (other < first) ⊎ (more ≤ other) → (other < first) ⊎ (next ≤ other)
below next more other first less (inl before) = inl before
below next more other first less (inr behind) = inr (omega (arith, less, behind))

pub opened_then : (first next more : ℕ) (some others : List Opened) (g h k : State) → next ≤ more → IsHostedWith first next some g h → IsHostedWith first more others h k → IsHostedWith first more (some ++ others) g k
opened_then first next more some others g h k less one two = record {
  calls = one.calls ++ two.calls;
  own = All-append (IsOwn first more) one.calls two.calls (all_reach first next first more one.calls (omega arith) less one.own) two.own;
  opens = opened_both one.calls two.calls ∙ ap (λ (xs : List Opened). xs ++ opened_by two.calls) one.opens ∙ ap (λ (xs : List Opened). some ++ xs) two.opens;
  settings = two.settings ∙ one.settings;
  leaves = leaves_both g.grid h.grid k.grid one.leaves two.leaves;
  others = λ other apart. two.others other apart ∙ one.others other (below next more other first less apart);
  told = λ events told. subst (Faithful k) (append_assoc events one.calls two.calls) (two.told (events ++ one.calls) (one.told events told));
}

pub hosted_then : (first next more : ℕ) (g h k : State) → next ≤ more → IsHosted first next g h → IsHosted first more h k → IsHosted first more g k
hosted_then first next more g h k less one two = opened_then first next more [] [] g h k less one two

-- ---- one call of a lobby

mine : (id : ℕ) → IsOwnId id (id + 1) id
mine id = (omega arith, omega arith)

own_move : (id : ℕ) (e : Event) → IsMove id e → IsOwn id (id + 1) e
own_move id (Open other secret) moves = absurd moves
own_move id (Bytes other piece) moves = (omega (arith, moves), omega (arith, moves))
own_move id (End other) moves = (omega (arith, moves), omega (arith, moves))
own_move id (Take other given) moves = (omega (arith, moves), omega (arith, moves))
own_move id (Lose server key) moves = absurd moves
own_move id (Spoil server key place) moves = absurd moves

own_moves : (id : ℕ) (es : List Event) → AreMoves id es → All (IsOwn id (id + 1)) es
own_moves id [] are = All-nil (IsOwn id (id + 1))
own_moves id (e ∷ es) are =
    All-cons (IsOwn id (id + 1)) e es (own_move id e (All-head (IsMove id) e es are)) (own_moves id es (All-tail (IsMove id) e es are))

-- a move opens none
move_opens : (id : ℕ) (e : Event) → IsMove id e → opened_in e ≡ []
move_opens id (Open other secret) moves = absurd moves
move_opens id (Bytes other piece) moves = refl
move_opens id (End other) moves = refl
move_opens id (Take other given) moves = refl
move_opens id (Lose server key) moves = absurd moves
move_opens id (Spoil server key place) moves = absurd moves

moves_open : (id : ℕ) (es : List Event) → AreMoves id es → opened_by es ≡ []
moves_open id [] are = refl
moves_open id (e ∷ es) are =
    ap (λ (xs : List Opened). xs ++ opened_by es) (move_opens id e (All-head (IsMove id) e es are)) ∙ moves_open id es (All-tail (IsMove id) e es are)

pub hosted_moves : (id : ℕ) (calls : List Event) (g h : State) → AreMoves id calls → IsLed id calls g h → IsHosted id (id + 1) g h
hosted_moves id calls g h are led =
    subst (λ (opened : List Opened). IsHostedWith id (id + 1) opened g h) (moves_open id calls are) (hosted_one id (id + 1) id calls g h (mine id) (own_moves id calls are) led)

pub hosted_open : (id : ℕ) (secret : List ℕ) (g h : State) → IsLed id (Open id secret ∷ []) g h → IsHostedWith id (id + 1) ((id, secret) ∷ []) g h
hosted_open id secret g h led =
    hosted_one id (id + 1) id (Open id secret ∷ []) g h (mine id) (All-cons (IsOwn id (id + 1)) (Open id secret) [] (mine id) (All-nil (IsOwn id (id + 1)))) led

pub hosted_still : (id : ℕ) (g h : State) → h ≡ g → IsHosted id (id + 1) g h
hosted_still id g h same = subst (IsHosted id (id + 1) g) (sym same) (hosted_wider id id id (id + 1) g g (omega arith) (omega arith) (hosted_none id g))

pub hosted_forget : (id : ℕ) (g h : State) → IsForgotten id g h → IsHosted id (id + 1) g h
hosted_forget id g h (inl none) = hosted_moves id [] g h (All-nil (IsMove id)) none
hosted_forget id g h (inr taken) = hosted_moves id (Take id (waiting g id) ∷ []) g h (All-cons (IsMove id) (Take id (waiting g id)) [] refl (All-nil (IsMove id))) taken

pub hosted_opened : {A B : Type 0} (id : ℕ) (secret : List ℕ) (g h : State) (r : Result A B) → OnOk r (IsLed id (Open id secret ∷ []) g h) → OnOk r (IsHostedWith id (id + 1) ((id, secret) ∷ []) g h)
hosted_opened id secret g h (Ok flow) led = hosted_open id secret g h led
hosted_opened id secret g h (Err fault) led = tt

pub hosted_advanced : {A B : Type 0} (old new : FlowState) (g h : State) (r : Result A B) → OnOk r (AdvancesAsWritten old new g h) → OnErr r (Advances old new g h) → IsHosted old.id (old.id + 1) g h
hosted_advanced old new g h (Ok done) ok err = hosted_moves old.id ok.moved.moved.calls g h ok.moved.moved.own ok.moved.moved.led
hosted_advanced old new g h (Err fault) ok err = hosted_moves old.id err.moved.calls g h err.moved.own err.moved.led
