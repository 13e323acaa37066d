-- What was told and what came, as far as it is known.
use Rattle.std.proofs.Common.{◌≡◌, ℕ, List, [], ◌∷◌, ◌++◌, length, take, drop, None, Some, inl, inr, refl, sym, ap, subst, ◌∙◌, append-nil, append_assoc, ◌≤◌, ◌+◌, ◌-◌, arith, true, false, Result, Ok, Err, IfOk, OnOk}
use Rattle.std.proofs.lemmas.List.{length-append, length-drop, length-take-le, take_all, take_at, take-take, take-append-drop}
use Rattle.resp.specs.declared.limits.Limits.{Limits}
use Rattle.resp.specs.declared.reply.Reply.{Reply}
use Rattle.resp.specs.Command.{line_end}
use Rattle.resp.specs.Spelled.{SpellsReply}
use Rattle.resp.specs.Verdict.{IsReadAs}
use Rattle.redis_store.specs.declared.connection.Greeting.{Greeting}
use Rattle.redis_store.specs.Exchanges.{Talk, with_command, with_heard, with_exchange}
use Rattle.redis_store.specs.Told.{IsOpened, IsToldIn}
use Rattle.redis_store.specs.Ahead.{before_last, IsToldLast}

-- ---- exchanges

pub told_begins : (a : Talk) (told none : List ℕ) → none ≡ [] → with_command a told ≡ with_exchange a told none
told_begins None told none is = refl
told_begins (Some (all, before)) told none is = ap (λ (l : List ℕ). Some ((told, l) ∷ all, before)) (sym is)

pub heard_none : (a : Talk) → with_heard a [] ≡ a
heard_none None = refl
heard_none (Some ([], before)) = refl
heard_none (Some (last ∷ all, before)) = ap (λ (l : List ℕ). Some ((last.0, l) ∷ all, before)) (append-nil last.1)

heard_twice : (a : Talk) (front back : List ℕ) → with_heard (with_heard a front) back ≡ with_heard a (front ++ back)
heard_twice None front back = refl
heard_twice (Some ([], before)) front back = refl
heard_twice (Some (last ∷ all, before)) front back = ap (λ (l : List ℕ). Some ((last.0, l) ∷ all, before)) (append_assoc last.1 front back)

heard_exchange : (a : Talk) (told came part : List ℕ) → with_heard (with_exchange a told came) part ≡ with_exchange a told (came ++ part)
heard_exchange None told came part = refl
heard_exchange (Some (all, before)) told came part = refl

-- what came to what was told last, told ahead of its call
pub heard_ahead : (a : Talk) (told came : List ℕ) → with_heard (with_command a told) came ≡ with_exchange a told came
heard_ahead None told came = refl
heard_ahead (Some (all, before)) told came = refl

pub told_before : {A E C : Type 0} (talk : C → Talk) (result kept : Result A E) (Spells : A → List ℕ → Type 0) (first : Greeting) (old : Talk) (mid new : C) (commands : List ℕ) → IsToldLast old commands
    → IfOk result (λ x. (came : List ℕ) × Spells x came × (talk mid ≡ with_heard old came)) → OnOk result (new ≡ mid) → kept ≡ result
    → IfOk kept (λ x. (came : List ℕ) × Spells x came × IsToldIn true first (before_last old) (talk new) commands came)
told_before {A} {E} talk result kept Spells first old mid new commands last heard same is =
    subst (λ (r : Result A E). IfOk r (λ x. (came : List ℕ) × Spells x came × IsToldIn true first (before_last old) (talk new) commands came)) (sym is) (of_result result heard same)
  where
    of_result : (r : Result A E) → IfOk r (λ x. (came : List ℕ) × Spells x came × (talk mid ≡ with_heard old came)) → OnOk r (new ≡ mid) → IfOk r (λ x. (came : List ℕ) × Spells x came × IsToldIn true first (before_last old) (talk new) commands came)
    of_result (Ok x) heard same = (
      heard.0,
      heard.1,
      record {
        ready = before_last old;
        over = inl refl;
        told = ap talk same ∙ heard.2 ∙ ap (λ (t : Talk). with_heard t heard.0) last ∙ heard_ahead (before_last old) commands heard.0;
      },
    )
    of_result (Err e) heard same = tt

-- what was told ahead and not answered was told again, over a new connection
pub told_again : {A E : Type 0} (result : Result A E) (Spells : A → List ℕ → Type 0) (first other : Greeting) (old ended new : Talk) (commands : List ℕ) → IsToldLast old commands → ended ≡ old → other ≡ first
    → IfOk result (λ x. (came : List ℕ) × Spells x came × IsToldIn false other ended new commands came)
    → IfOk result (λ x. (came : List ℕ) × Spells x came × IsToldIn true first (before_last old) new commands came)
told_again (Ok x) Spells first other old ended new commands last same is anew =
    let opened : IsOpened first ended anew.2.ready = subst (λ f. IsOpened f ended anew.2.ready) is anew.2.over in (
      anew.0,
      anew.1,
      record {
        ready = anew.2.ready;
        over = inr (ended, record { told = commands; rest = []; begins = sym (append-nil commands); last = same ∙ last }, opened);
        told = anew.2.told;
      },
    )
told_again (Err e) Spells first other old ended new commands last same is anew = tt

-- more came in the exchange at hand
pub more_came : (a b c : Talk) (told old part new : List ℕ) → b ≡ with_exchange a told old → c ≡ with_heard b part → new ≡ old ++ part → c ≡ with_exchange a told new
more_came a b c told old part new before now is =
    now ∙ ap (λ (x : Talk). with_heard x part) before ∙ heard_exchange a told old part ∙ ap (with_exchange a told) (sym is)

pub more_heard : (a b c : Talk) (old part new : List ℕ) → b ≡ with_heard a old → c ≡ with_heard b part → new ≡ old ++ part → c ≡ with_heard a new
more_heard a b c old part new before now is =
    now ∙ ap (λ (x : Talk). with_heard x part) before ∙ heard_twice a old part ∙ ap (with_heard a) (sym is)

-- what came is a bulk string's line and some bytes, and then came the rest of its content and the end of its line
pub whole_bulk : (a b c : Talk) (told came front begun content part : List ℕ) → b ≡ with_exchange a told came → c ≡ with_heard b part → came ≡ front ++ begun → content ++ line_end ≡ begun ++ part
    → c ≡ with_exchange a told (front ++ content ++ line_end)
whole_bulk a b c told came front begun content part first second cut all =
    more_came a b c told came part (front ++ content ++ line_end) first second
    (append_assoc front content line_end ∙ ap (λ (l : List ℕ). front ++ l) all ∙ sym (append_assoc front begun part) ∙ ap (λ (l : List ℕ). l ++ part) (sym cut))

-- ---- bytes

-- all bytes that came are a reply's
pub whole_reply : (limits : Limits) (answer : Reply) (bytes : List ℕ) (len : ℕ) → IsReadAs (SpellsReply limits) bytes (Ok (Some (answer, len))) → length bytes ≤ len
    → SpellsReply limits answer bytes
whole_reply limits answer bytes len read all = subst (SpellsReply limits answer) (take_all len bytes all) read.1

regrouped : (a t d p b : List ℕ) → (a ++ ((t ++ d) ++ p)) ++ b ≡ (a ++ t) ++ (d ++ p ++ b)
regrouped a t d p b = simp (append_assoc) refl

-- what was read to a vector's end, of which as much is kept as came
pub heard_behind : (start count len : ℕ) (old items room post behind : List ℕ) → take start items ≡ old → length old ≡ start → count ≤ length room → start + count ≤ len
    → take (start + count) (take len ((take start items ++ (room ++ post)) ++ behind)) ≡ old ++ take count room
heard_behind start count len old items room post behind front same bound within =
    let whole : (take start items ++ (room ++ post)) ++ behind ≡ (old ++ take count room) ++ (drop count room ++ post ++ behind) =
    ap (λ (l : List ℕ). (l ++ (room ++ post)) ++ behind) front
    ∙ ap (λ (l : List ℕ). (old ++ (l ++ post)) ++ behind) (sym (take-append-drop count room))
    ∙ regrouped old (take count room) (drop count room) post behind in
    take-take (start + count) len _ within ∙ ap (take (start + count)) whole
    ∙ take_at (old ++ take count room) (drop count room ++ post ++ behind) (start + count) (omega (arith, length-append old (take count room), length-take-le count room bound, same))

-- a vector that was made longer begins with what it held
pub grown_front : (old pad : List ℕ) (start n : ℕ) → start ≡ length old → start ≤ n → take start (take n old ++ pad) ≡ old
grown_front old pad start n same le = ap (λ (l : List ℕ). take start (l ++ pad)) (take_all n old (omega (arith, same, le))) ∙ take_at old pad start (sym same)

-- bytes are their first ones and the rest
pub cut_front : (start : ℕ) (came bytes : List ℕ) → bytes ≡ came → came ≡ take start came ++ take (length bytes - start) (drop start bytes)
cut_front start came bytes is = subst (λ b. came ≡ take start came ++ take (length b - start) (drop start b)) (sym is)
    (sym (take-append-drop start came) ∙ ap (λ (l : List ℕ). take start came ++ l) (sym (take_all (length came - start) (drop start came) (omega (arith, length-drop start came)))))
