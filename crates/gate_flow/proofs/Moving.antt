-- Pieces that are brought and portions that are taken, one after the other.
use Rattle.std.proofs.Common.{◌≡◌, ◌≢◌, ℕ, List, [], ◌∷◌, ◌++◌, take, drop, Bool, true, false, refl, sym, ap, subst, ◌∙◌, append_assoc, take-append-drop, Some, None}
use Rattle.std.specs.Prelude.{◌||◌, Result, Ok, Err, OnOk, OnErr}
use Rattle.gate_flow.specs.declared.fault.FlowFault.{FlowFault}
use Rattle.std.proofs.lemmas.List.{append-nil}
use Rattle.std.proofs.lemmas.List.Elements.{All-append, All-nil, All-cons, All-head, All-tail}
use Rattle.gate_core.specs.Events.{Event, Open, Bytes, End, Take, Lose, Spoil, caller_of, piece_in, bytes_given_by, is_end, is_event_of, calls_of, bytes_of_calls, handed, has_ended}
use Rattle.std.specs.List.{list_any}
use Rattle.std.proofs.lemmas.List.Elements.{filter-append}
use Rattle.std.proofs.lemmas.List.Folds.{list_any-append}
use Rattle.gate_core.specs.ConnectionState.{State, connection_at, waiting, bytes_refusal, is_closed_in}
use Rattle.gate_core.specs.Came.{GoesOn}
use Rattle.gate_core.specs.Faithful.{Faithful}
use Rattle.gate_core.specs.Kept.{bytes_of_body_in}
use Rattle.gate_flow.specs.Parts.{IsFeedPart}
use Rattle.gate_flow.specs.Brought.{AreBrought, AreInParts}
use Rattle.gate_flow.specs.Led.{AreOf, IsMove, AreMoves, TakesBytes, IsTimely, AreTimely, IsLed, IsLedAsWritten, IsMoved, IsMovedAsWritten, IsGivenUp}
use Rattle.gate_flow.proofs.Leading.{Beginnings, led_none, led_more, calm_none, calm_more, calm_on, joined_more, handed_more, joined_one, handed_one, calls_of_one, unclosed}

own_none : (id : ℕ) → AreMoves id []
own_none id = All-nil (IsMove id)

move_one : (id : ℕ) (e : Event) → IsMove id e → AreMoves id (e ∷ [])
move_one id e mine = All-cons (IsMove id) e [] mine (own_none id)

move_more : (id : ℕ) (a b : List Event) → AreMoves id a → AreMoves id b → AreMoves id (a ++ b)
move_more id a b first second = All-append (IsMove id) a b first second

move_own : (id : ℕ) (e : Event) → IsMove id e → caller_of e ≡ Some id
move_own id (Open other secret) mine = absurd mine
move_own id (Bytes other piece) mine = ap Some mine
move_own id (End other) mine = ap Some mine
move_own id (Take other given) mine = ap Some mine
move_own id (Lose server key) mine = absurd mine
move_own id (Spoil server key place) mine = absurd mine

-- calls that move a connection on are of its id
pub moves_own : (id : ℕ) (calls : List Event) → AreMoves id calls → AreOf id calls
moves_own id [] are = All-nil (λ (e : Event). caller_of e ≡ Some id)
moves_own id (e ∷ calls) are =
    All-cons (λ (x : Event). caller_of x ≡ Some id) e calls (move_own id e (All-head (IsMove id) e calls are)) (moves_own id calls (All-tail (IsMove id) e calls are))

pub own_one : (id : ℕ) (e : Event) → caller_of e ≡ Some id → AreOf id (e ∷ [])
own_one id e mine = All-cons (λ (x : Event). caller_of x ≡ Some id) e [] mine (All-nil (λ (x : Event). caller_of x ≡ Some id))

pub own_more : (id : ℕ) (a b : List Event) → AreOf id a → AreOf id b → AreOf id (a ++ b)
own_more id a b first second = All-append (λ (e : Event). caller_of e ≡ Some id) a b first second

or_no : (b : Bool) → b ≡ false → (b || false) ≡ false
or_no true none = none
or_no false none = refl

going_one : (id : ℕ) (e : Event) → caller_of e ≡ Some id → is_end e ≡ false → has_ended id (e ∷ []) ≡ false
going_one id e mine none = ap (list_any is_end) (calls_of_one id e mine) ∙ or_no (is_end e) none

going_more : (id : ℕ) (a b : List Event) → has_ended id a ≡ false → has_ended id b ≡ false → has_ended id (a ++ b) ≡ false
going_more id a b first second =
    ap (list_any is_end) (filter-append (is_event_of id) a b) ∙ list_any-append is_end (calls_of id a) (calls_of id b) ∙ ap (λ r. r || has_ended id b) first ∙ second

-- bytes of calls come while no item closed, and so do those of others after them
pub timely_more : (id : ℕ) (before a b : List Event) → AreTimely id before a → AreTimely id (before ++ a) b → AreTimely id before (a ++ b)
timely_more id before [] b first second = subst (λ es. AreTimely id es b) (append-nil before) second
timely_more id before (e ∷ a) b first second =
    (first.0, timely_more id (before ++ e ∷ []) a b first.1 (subst (λ es. AreTimely id es b) (sym (append_assoc before (e ∷ []) a)) second))

-- nothing was called
pub moved_none : (id : ℕ) (g h : State) (piece left portion more : List ℕ) → h ≡ g → left ≡ piece → more ≡ portion → IsMovedAsWritten id g h piece left portion more
moved_none id g h piece left portion more same still kept = record {
  moved = record {
    calls = [];
    own = own_none id;
    going = refl;
    timely = λ events told. tt;
    led = subst (IsLed id [] g) (sym same) (led_none id g);
    brought = sym still;
    handed_out = kept ∙ sym (append-nil portion);
  };
  as_written = subst (IsLedAsWritten [] g) (sym same) (calm_none g);
  takes = λ takes. subst (λ (s : State). TakesBytes (connection_at s id)) (sym same) takes;
}

-- a call that was refused after it changed this connection, or nothing at all
pub moved_still : (id : ℕ) (g h : State) (piece left portion more : List ℕ) → IsLed id [] g h → left ≡ piece → more ≡ portion → IsMoved id g h piece left portion more
moved_still id g h piece left portion more led still kept = record {
  calls = [];
  own = own_none id;
  going = refl;
  timely = λ events told. tt;
  led = led;
  brought = sym still;
  handed_out = kept ∙ sym (append-nil portion);
}

-- one call
moved_one : (id : ℕ) (e : Event) (g h : State) (piece left portion more : List ℕ) → IsMove id e → is_end e ≡ false
    → ((events : List Event) → Faithful g events → IsTimely id events e) → (TakesBytes (connection_at g id) → TakesBytes (connection_at h id)) → IsLed id (e ∷ []) g h → IsLedAsWritten (e ∷ []) g h
    → piece ≡ piece_in e ++ left → more ≡ portion ++ bytes_given_by e → IsMovedAsWritten id g h piece left portion more
moved_one id e g h piece left portion more mine none timely takes led calm brought given = record {
  moved = record {
    calls = e ∷ [];
    own = move_one id e mine;
    going = going_one id e (move_own id e mine) none;
    timely = λ events told. (timely events told, tt);
    led = led;
    brought = brought ∙ ap (λ r. r ++ left) (sym (joined_one id e (move_own id e mine)));
    handed_out = given ∙ ap (λ r. portion ++ r) (sym (handed_one id e (move_own id e mine)));
  };
  as_written = calm;
  takes = takes;
}

-- the first bytes of a piece were brought
pub moved_bytes : (id n : ℕ) (g h : State) (piece left part : List ℕ) → part ≡ take n piece → left ≡ drop n piece
    → is_closed_in (connection_at g id) ≡ false → TakesBytes (connection_at h id) → IsLed id (Bytes id part ∷ []) g h → IsLedAsWritten (Bytes id part ∷ []) g h → IsMovedAsWritten id g h piece left [] []
moved_bytes id n g h piece left part first rest none takes led calm =
    moved_one id (Bytes id part) g h piece left [] [] refl refl (λ events told. unclosed g id events none told) (λ was. takes) led calm
    (sym (take-append-drop n piece) ∙ ap (λ r. r ++ drop n piece) (sym first) ∙ ap (λ r. part ++ r) (sym rest)) refl

pub moved_take : (id : ℕ) (g h : State) (piece portion given : List ℕ) → bytes_refusal (connection_at h id) ≡ bytes_refusal (connection_at g id) → IsLed id (Take id given ∷ []) g h → GoesOn g h (Take id given) → portion ≡ [] → IsMovedAsWritten id g h piece piece portion given
moved_take id g h piece portion given stays led on none =
    moved_one id (Take id given) g h piece piece portion given refl refl (λ events told. tt) (λ takes. stays ∙ takes) led (calm_on g h (Take id given) on) refl (ap (λ r. r ++ given) (sym none))

module _ (id : ℕ) (g h k : State) (a b c p q r : List ℕ) where
  -- calls, and then others
  pub moved_then : IsMoved id g h a b p q → IsMoved id h k b c q r → IsMoved id g k a c p r
  moved_then first second = record {
    calls = first.calls ++ second.calls;
    own = move_more id first.calls second.calls first.own second.own;
    going = going_more id first.calls second.calls first.going second.going;
    timely = λ events told. timely_more id events first.calls second.calls (first.timely events told) (second.timely (events ++ first.calls) (first.led.told events told));
    led = led_more id first.calls second.calls g h k first.led second.led;
    brought = first.brought ∙ ap (λ s. bytes_of_calls id first.calls ++ s) second.brought ∙ sym (append_assoc (bytes_of_calls id first.calls) (bytes_of_calls id second.calls) c)
        ∙ ap (λ s. s ++ c) (sym (joined_more id first.calls second.calls));
    handed_out = second.handed_out ∙ ap (λ s. s ++ handed id second.calls) first.handed_out ∙ append_assoc p (handed id first.calls) (handed id second.calls)
        ∙ ap (λ s. p ++ s) (sym (handed_more id first.calls second.calls));
  }

  pub moved_more : Beginnings → IsMovedAsWritten id g h a b p q → IsMovedAsWritten id h k b c q r → IsMovedAsWritten id g k a c p r
  unfolding moved_then
  moved_more begins first second = record {
    moved = moved_then first.moved second.moved;
    as_written = calm_more begins id first.moved.calls second.moved.calls g h k first.moved.led second.moved.led first.as_written second.as_written;
    takes = λ takes. second.takes (first.takes takes);
  }

-- the portion in front of what was handed out
pub moved_behind : (id : ℕ) (g h : State) (a b p : List ℕ) → IsMoved id g h a b [] [] → IsMoved id g h a b p p
moved_behind id g h a b p was = record {
  calls = was.calls;
  own = was.own;
  going = was.going;
  timely = was.timely;
  led = was.led;
  brought = was.brought;
  handed_out = sym (append-nil p) ∙ ap (λ r. p ++ r) was.handed_out;
}

pub moved_calmly_behind : (id : ℕ) (g h : State) (a b p : List ℕ) → IsMovedAsWritten id g h a b [] [] → IsMovedAsWritten id g h a b p p
unfolding moved_behind
moved_calmly_behind id g h a b p was = record { moved = moved_behind id g h a b p was.moved; as_written = was.as_written; takes = was.takes }

-- ---- a piece is brought in parts

-- parts, and then others
brought_more : (id : ℕ) (a b : List Event) (g m h : State) (p q r : List ℕ) → AreBrought id a g m p q → AreBrought id b m h q r → AreBrought id (a ++ b) g h p r
brought_more id [] b g m h p q r first second = subst (λ (s : State). AreBrought id b s h p r) first.0 (subst (λ (s : List ℕ). AreBrought id b m h s r) first.1 second)
brought_more id (e ∷ a) b g m h p q r (k, behind, one, others) second = (k, behind, one, brought_more id a b k m h behind q r others second)

-- parts, and then calls that bring nothing
in_parts : (id : ℕ) (a b : List Event) (g m h : State) (p q : List ℕ) → AreBrought id a g m p q → IsLed id b m h → bytes_of_calls id b ≡ [] → AreInParts id (a ++ b) g h p q
in_parts id a b g m h p q brought after bare = record { parts = a; others = b; all = refl; at = m; brought = brought; after = after; bare = bare }

-- one part
pub part_moves : (id n : ℕ) (g h : State) (piece left part : List ℕ) → part ≡ take n piece → left ≡ drop n piece → IsFeedPart (bytes_of_body_in (connection_at g id) piece) piece n → waiting g id ≡ []
    → is_closed_in (connection_at g id) ≡ false → TakesBytes (connection_at h id) → IsLed id (Bytes id part ∷ []) g h → IsLedAsWritten (Bytes id part ∷ []) g h
    → (now : IsMovedAsWritten id g h piece left [] []) × AreBrought id now.moved.calls g h piece left
unfolding moved_bytes moved_one
part_moves id n g h piece left part first rest cut quiet none takes led calm = (
  moved_bytes id n g h piece left part first rest none takes led calm,
  (h, left, record { size = n; cut = cut; call = ap (Bytes id) first; rest = rest; quiet = quiet; going = none; led = led; as_written = calm }, (refl, refl)),
)

-- no part, where it was refused
pub part_fails : (id : ℕ) (g h : State) (piece left : List ℕ) → IsLed id [] g h → left ≡ piece → (now : IsMoved id g h piece left [] []) × AreInParts id now.calls g h piece left
unfolding moved_still
part_fails id g h piece left led still = (moved_still id g h piece left [] [] led still refl, in_parts id [] [] g g h piece left (refl, still) led refl)

pub parts_none : (id : ℕ) (g : State) (piece : List ℕ) → (now : IsMovedAsWritten id g g piece piece [] []) × AreBrought id now.moved.calls g g piece piece
unfolding moved_none
parts_none id g piece = (moved_none id g g piece piece [] [] refl refl refl, (refl, refl))

module _ (id : ℕ) (g m h : State) (p q r : List ℕ) where
  pub parts_more : Beginnings → ((was : IsMovedAsWritten id g m p q [] []) × AreBrought id was.moved.calls g m p q) → ((now : IsMovedAsWritten id m h q r [] []) × AreBrought id now.moved.calls m h q r)
      → (all : IsMovedAsWritten id g h p r [] []) × AreBrought id all.moved.calls g h p r
  unfolding moved_more moved_then
  parts_more begins (was, first) (now, second) = (moved_more id g m h p q r [] [] [] begins was now, brought_more id was.moved.calls now.moved.calls g m h p q r first second)

  pub parts_fail : ((was : IsMovedAsWritten id g m p q [] []) × AreBrought id was.moved.calls g m p q) → ((now : IsMoved id m h q r [] []) × AreInParts id now.calls m h q r)
      → (all : IsMoved id g h p r [] []) × AreInParts id all.calls g h p r
  unfolding moved_then
  parts_fail (was, first) (now, second) = (
    moved_then id g m h p q r [] [] [] was.moved now,
    record {
      parts = was.moved.calls ++ second.parts;
      others = second.others;
      all = ap (λ cs. was.moved.calls ++ cs) second.all ∙ sym (append_assoc was.moved.calls second.parts second.others);
      at = second.at;
      brought = brought_more id was.moved.calls second.parts g m second.at p q r first second.brought;
      after = second.after;
      bare = second.bare;
    },
  )

module _ (id : ℕ) (g m : State) (piece left portion : List ℕ) where
  -- with a portion in front of what was handed out
  pub failing_behind : ((was : IsMoved id g m piece left [] []) × AreInParts id was.calls g m piece left) → (now : IsMoved id g m piece left portion portion) × AreInParts id now.calls g m piece left
  unfolding moved_behind
  failing_behind (was, parts) = (moved_behind id g m piece left portion was, parts)

  module _ (is : (was : IsMovedAsWritten id g m piece left [] []) × AreBrought id was.moved.calls g m piece left) where
    -- nothing was called behind the parts
    pub parts_behind : (now : IsMovedAsWritten id g m piece left portion portion) × ((parts : AreInParts id now.moved.calls g m piece left) × (parts.at ≡ m))
    unfolding moved_calmly_behind moved_behind
    parts_behind = (
      moved_calmly_behind id g m piece left portion is.0,
      (record { parts = is.0.moved.calls; others = []; all = sym (append-nil is.0.moved.calls); at = m; brought = is.1; after = led_none id m; bare = refl }, refl),
    )

    -- what waits was taken
    pub parts_taken : Beginnings → (h : State) (given : List ℕ) → bytes_refusal (connection_at h id) ≡ bytes_refusal (connection_at m id) → IsLed id (Take id given ∷ []) m h → GoesOn m h (Take id given) → portion ≡ []
        → (now : IsMovedAsWritten id g h piece left portion given) × ((parts : AreInParts id now.moved.calls g h piece left) × (parts.at ≡ m))
    unfolding moved_more moved_then moved_calmly_behind moved_behind moved_take moved_one in_parts
    parts_taken begins h given stays led on none = (
      moved_more id g m h piece left left portion portion given begins (moved_calmly_behind id g m piece left portion is.0) (moved_take id m h left portion given stays led on none),
      (in_parts id is.0.moved.calls (Take id given ∷ []) g m h piece left is.1 led (joined_one id (Take id given) refl), refl),
    )

-- ---- a connection is given up

-- its end came, or was refused
nothing_called : (id : ℕ) (g h : State) → h ≡ g → bytes_refusal (connection_at g id) ≢ None → bytes_refusal (connection_at h id) ≢ None → IsGivenUp id g h
nothing_called id g h same was over = record {
  calls = [];
  own = own_none id;
  timely = λ events. tt;
  led = subst (IsLed id [] g) (sym same) (led_none id g);
  as_written = subst (IsLedAsWritten [] g) (sym same) (calm_none g);
  brings = refl;
  gives = refl;
  waits = ap (λ (s : State). waiting s id) same;
  ends = λ takes. absurd (was takes);
  over = over;
}

end_called : (id : ℕ) (g h : State) → waiting h id ≡ waiting g id → IsLed id (End id ∷ []) g h → IsLedAsWritten (End id ∷ []) g h → bytes_refusal (connection_at h id) ≢ None → IsGivenUp id g h
end_called id g h same led calm over = record {
  calls = End id ∷ [];
  own = move_one id (End id) refl;
  timely = λ events. (tt, tt);
  led = led;
  as_written = calm;
  brings = joined_one id (End id) refl;
  gives = handed_one id (End id) refl;
  waits = same;
  ends = λ takes. ap (list_any is_end) (calls_of_one id (End id) refl);
  over = over;
}

pub end_gives : (id : ℕ) (g m : State) (r : Result (Unit {0}) FlowFault) → OnOk r (IsLed id (End id ∷ []) g m) → OnOk r (IsLedAsWritten (End id ∷ []) g m) → OnErr r (m ≡ g) → waiting m id ≡ waiting g id
    → OnErr r (bytes_refusal (connection_at g id) ≢ None) → bytes_refusal (connection_at m id) ≢ None → IsGivenUp id g m
end_gives id g m (Ok u) led calm same waits was over = end_called id g m waits led calm over
end_gives id g m (Err e) led calm same waits was over = nothing_called id g m same was over
