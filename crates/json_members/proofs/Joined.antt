-- An object that is cut between its members.
use Rattle.std.proofs.Common.{◌≡◌, ℕ, zero, suc, ◌+◌, List, [], ◌∷◌, ◌++◌, length, take, drop, Option, Some, None, refl, sym, ap, ap₂, ◌∙◌, subst, arith}
use Rattle.std.specs.Prelude.{⊤, option_and_then}
use Rattle.json.specs.Token.{Token, begin_object, end_object, begin_array, end_array, key, string, number, boolean, null, bad}
use Rattle.json.specs.Json.{Json, object, Members, no_members, member}
use Rattle.json.specs.Lex.{between, fresh, lex, punctuate, tokens}
use Rattle.json_seams.specs.Cuts.{IsCutComma}
use Rattle.json_seams.specs.Seams.{last_token, behind_comma, from_comma, seam}
use Rattle.json_stack.specs.Machine.{Frame, in_array, in_object, in_member, StackState, reading, done, failed, opened_frame, next_state, state_after, start_state, result_of, whole_value}
use Rattle.json_members.specs.MemberCuts.{IsMemberCut, first_token, front_object, back_object}
use Rattle.json_members.specs.JoinedObjects.{members_before, some_members, joined_objects}
use Rattle.json_seams.proofs.Lexing.{lex_cut}
use Rattle.json_members.proofs.Closed.{punctuate_closed}
use Rattle.json_members.proofs.Depths.{HasDepth, state_depth}
use Rattle.json_members.proofs.Outermost.{Lasting, OfState, after_in}
use Rattle.json_members.proofs.Prepended.{behind_key}
use Rattle.json_members.proofs.Commas.{Meets, meets}

-- what is used of the seams and of the machine
pub record Laws : Type 0 where
  pub cut : (text : List ℕ) (at : ℕ) → IsCutComma text at → tokens text ≡ seam (tokens (take at text)) (tokens (drop (at + 1) text))
  pub value : (depth : ℕ) (ts : List Token) → whole_value depth ts ≡ result_of (state_after (start_state depth) ts)
  pub joined : (s : StackState) (front back : List Token) → state_after s (front ++ back) ≡ state_after (state_after s front) back
  pub stays_failed : (ts : List Token) → state_after failed ts ≡ failed
  pub nothing_behind : (j : Json) (t : Token) (ts : List Token) → state_after (done j) (t ∷ ts) ≡ failed
  pub bounded : (depth : ℕ) (ts : List Token) (room : ℕ) (frames : List Frame) → state_after (start_state depth) ts ≡ reading room frames → length frames + room ≡ depth

-- the outermost frame is that of an object
abbrev IsObjectFrame : Frame → Type 0
IsObjectFrame (in_array js) = ⊥
IsObjectFrame (in_object ms) = ⊤
IsObjectFrame (in_member ms k) = ⊤

abbrev object_lasts : Lasting
object_lasts = record {
  kept = IsObjectFrame;
  ended = λ j. ⊤;
  no_array = λ js h. h;
  value_behind = λ ms k j h. tt;
  key_behind = λ ms k h. tt;
  end_behind = λ ms h. tt;
}

begun : (depth : ℕ) → OfState object_lasts (opened_frame depth [] (in_object no_members))
begun zero = tt
begun (suc room) = tt

module _ (laws : Laws) where
  abbrev result : StackState → List Token → Option Json
  result s ts = result_of (state_after s ts)

  from_failed : (ts : List Token) → result failed ts ≡ None
  from_failed ts = ap result_of (laws.stays_failed ts)

  -- ---- behind an object with members

  abbrev Grows : Members → ℕ → List Token → Type 0
  Grows first room rest =
      result (reading room (in_object first ∷ [])) (behind_comma rest) ≡ joined_objects (Some (object first)) (result (reading room (in_object no_members ∷ [])) rest)

  none_joined : (first : Option Json) → joined_objects first None ≡ None
  none_joined first = go (option_and_then some_members first)
    where
      go : (o : Option Members) → option_and_then (λ ms. option_and_then (λ ns. Some (object (members_before ms ns))) None) o ≡ None
      go None = refl
      go (Some ms) = refl

  no_value : (first : Members) (ts us : List Token) (s t : StackState) → s ≡ failed → t ≡ failed → result s ts ≡ joined_objects (Some (object first)) (result t us)
  no_value first ts us s t e f =
      ap (λ x. result x ts) e ∙ from_failed ts ∙ sym (none_joined (Some (object first))) ∙ ap (joined_objects (Some (object first))) (sym (ap (λ x. result x us) f ∙ from_failed us))

  shut : (room : ℕ) (ms : Members) (frame : Frame) → opened_frame room (in_object ms ∷ []) frame ≡ failed
  shut zero ms frame = refl
  shut (suc room) ms frame = refl

  closed_at_once : (first : Members) (ts : List Token) → None ≡ joined_objects (Some (object first)) (result (done (object no_members)) ts)
  unfolding state_after
  closed_at_once no_members [] = refl
  closed_at_once (member k j ms) [] = refl
  closed_at_once first (t ∷ ts) = sym (none_joined (Some (object first))) ∙ ap (joined_objects (Some (object first))) (sym (ap result_of (laws.nothing_behind (object no_members) t ts)))

  grows : (k : List ℕ) (j : Json) (ms : Members) (room : ℕ) (rest : List Token) → Grows (member k j ms) room rest
  unfolding state_after
  grows k j ms room [] = refl
  grows k j ms room (begin_object ∷ ts) = no_value (member k j ms) ts ts _ _ (shut room (member k j ms) _) (shut room no_members _)
  grows k j ms room (end_object ∷ ts) = closed_at_once (member k j ms) ts
  grows k j ms room (begin_array ∷ ts) = no_value (member k j ms) ts ts _ _ (shut room (member k j ms) _) (shut room no_members _)
  grows k j ms room (end_array ∷ ts) = no_value (member k j ms) [] ts failed failed refl refl
  grows k j ms room (key s ∷ ts) = behind_key (member k j ms) room s ts
  grows k j ms room (string s ∷ ts) = no_value (member k j ms) ts ts failed failed refl refl
  grows k j ms room (number s ∷ ts) = no_value (member k j ms) ts ts failed failed refl refl
  grows k j ms room (boolean b ∷ ts) = no_value (member k j ms) ts ts failed failed refl refl
  grows k j ms room (null ∷ ts) = no_value (member k j ms) ts ts failed failed refl refl
  grows k j ms room (bad ∷ ts) = no_value (member k j ms) ts ts failed failed refl refl

  -- ---- a comma in one bracket

  -- the state behind the first part, what the comma meets, and the levels that were allowed
  abbrev IsJoined : ℕ → StackState → Option Token → List Token → Type 0
  IsJoined depth s last rest =
      result s (from_comma last rest) ≡ joined_objects (result_of (next_state s end_object)) (result (start_state depth) (begin_object ∷ rest))

  -- what is known of that state
  record Known (depth : ℕ) (s : StackState) (last : Option Token) : Type 0 where
    pub object : OfState object_lasts s
    pub one : HasDepth 1 s
    pub met : Meets s last
    pub levels : (room : ℕ) (frames : List Frame) → s ≡ reading room frames → length frames + room ≡ depth

  faulty : (depth room : ℕ) (frames : List Frame) (last : Option Token) (rest : List Token) (first : Option Json)
      → ((more : List Token) → from_comma last more ≡ bad ∷ []) → None ≡ joined_objects first (result (start_state depth) (begin_object ∷ rest))
      → result (reading room frames) (from_comma last rest) ≡ joined_objects first (result (start_state depth) (begin_object ∷ rest))
  unfolding state_after
  faulty depth room frames last rest first met e = ap (result (reading room frames)) (met rest) ∙ e

  at_comma : (depth : ℕ) (s : StackState) (last : Option Token) (rest : List Token) → Known depth s last → IsJoined depth s last rest
  unfolding state_after
  at_comma depth failed last rest known = from_failed (from_comma last rest)
  at_comma depth (done j) last rest known = let e = known.one in let never : ⊥ = omega (arith, e) in absurd never
  at_comma depth (reading room []) last rest known = absurd known.object
  at_comma depth (reading room (in_array js ∷ [])) last rest known = absurd known.object
  at_comma depth (reading room (in_object no_members ∷ [])) last rest known = faulty depth room (in_object no_members ∷ []) last rest (Some (object no_members)) known.met refl
  at_comma depth (reading room (in_object (member k j ms) ∷ [])) last rest known =
      let levels : suc room ≡ depth = omega (arith, known.levels room (in_object (member k j ms) ∷ []) refl) in
      ap (result (reading room (in_object (member k j ms) ∷ []))) (known.met rest)
      ∙ grows k j ms room rest
      ∙ ap (λ d. joined_objects (Some (object (member k j ms))) (result (start_state d) (begin_object ∷ rest))) levels
  at_comma depth (reading room (in_member ms k ∷ [])) last rest known = faulty depth room (in_member ms k ∷ []) last rest None known.met refl
  at_comma depth (reading room (frame ∷ next ∷ frames)) last rest known = let e = known.one in let never : ⊥ = omega (arith, e) in absurd never

  -- ---- the text

  -- the tokens before a comma begin as those of the whole
  is_begun : (front more : List Token) (depth : ℕ) → first_token (seam front more) ≡ Some begin_object → OfState object_lasts (state_after (start_state depth) front)
  unfolding state_after
  is_begun [] more depth h = let never : ⊥ = cc in absurd never
  is_begun (t ∷ ts) more depth h =
      subst (λ u. OfState object_lasts (state_after (start_state depth) (u ∷ ts))) (sym (some_same h)) (after_in object_lasts (opened_frame depth [] (in_object no_members)) ts (begun depth))
    where
      some_same : Some t ≡ Some begin_object → t ≡ begin_object
      some_same e = cc

  closed_front : (depth : ℕ) (text : List ℕ) (at : ℕ) → IsCutComma text at
      → state_after (start_state depth) (tokens (front_object text at)) ≡ next_state (state_after (start_state depth) (tokens (take at text))) end_object
  unfolding lex
  closed_front depth text at is =
      ap (λ ls. state_after (start_state depth) (punctuate fresh ls)) (lex_cut 125 refl [] between (take at text) is.outside) ∙ punctuate_closed fresh (lex between (take at text)) (start_state depth)

  opened_back : (text : List ℕ) (at : ℕ) → tokens (back_object text at) ≡ begin_object ∷ tokens (drop (at + 1) text)
  unfolding lex punctuate
  opened_back text at = refl

  pub object_joined : (depth : ℕ) (text : List ℕ) (at : ℕ) → IsMemberCut text at → first_token (tokens text) ≡ Some begin_object
      → whole_value depth (tokens text) ≡ joined_objects (whole_value depth (tokens (front_object text at))) (whole_value depth (tokens (back_object text at)))
  object_joined depth text at is begins =
      let front = tokens (take at text) in
      let rest = tokens (drop (at + 1) text) in
      let start = start_state depth in
      let cut = laws.cut text at is.comma in
      let known : Known depth (state_after start front) (last_token front) = record {
        object = is_begun front rest depth (ap first_token (sym cut) ∙ begins);
        one = subst (λ n. HasDepth n (state_after start front)) is.outermost (state_depth depth (take at text));
        met = meets depth front;
        levels = laws.bounded depth front;
      } in
      laws.value depth (tokens text)
      ∙ ap (result start) cut
      ∙ ap result_of (laws.joined start front (from_comma (last_token front) rest))
      ∙ at_comma depth (state_after start front) (last_token front) rest known
      ∙ ap₂ joined_objects
      (sym (laws.value depth (tokens (front_object text at)) ∙ ap result_of (closed_front depth text at is.comma)))
      (sym (laws.value depth (tokens (back_object text at)) ∙ ap (result start) (opened_back text at)))
