-- Values inside children JSON whose tokens come one at a time.
use Rattle.std.proofs.Common.{◌≡◌, ℕ, zero, suc, ◌+◌, List, [], ◌∷◌, length, Bool, true, false, Option, Some, None, option_map, String, Global, string_bytes, refl, sym, ap, ◌∙◌, subst, arith}
use Rattle.json.specs.Token.{Token}
use Rattle.json.specs.Json as json
use Rattle.json.specs.Json.{Json}
use Rattle.json_stack.specs.Machine.{Frame, in_array, in_object, StackState, reading, done, failed, opened_frame, state_within, next_state, start_state}
use Rattle.serde_json.specs.Data.{Data, null, boolean, number, string}
use Rattle.serde_json.specs.Read.{number_of, of_json}
use Rattle.children_reader.specs.Kept.{IsField}
use Rattle.children_reader.specs.MemberReader.{NoneAfter, is_object_frame, outermost, IsOpen, IsOfBracket, IsEndedField, IsStillOpen, IsOpenOrEnded, opens, IsBegunValue}
use Rattle.json_spelling.specs.Spelled.{IsSpelled, begins_object}
use Rattle.json_spelling.specs.Speller.{FollowsMachine, GoesOver, RefusesToken, IsEnded, IsUnended}
use Rattle.children_reader.specs.declared.fields.Field.{Field}
use Rattle.children_reader.specs.declared.member_reader.Begun.{Begun}
use Rattle.children_reader.specs.declared.member_reader.UnderWay.{UnderWay}
use Rattle.json_spelling.specs.declared.speller.Speller.{Speller}
use Rattle.json_spelling.specs.declared.spelling.Spelled.{Spelled}
use Rattle.children_reader.proofs.Nested.{Kept, step_kept, failed_on}
use Rattle.json_spelling.proofs.SoundLemmas.{made_sound}

-- ---- one token more

module _ (t : Token) (old new : UnderWay) (same : new.object ≡ old.object) (goes : GoesOver old.speller t new.speller) (levels : ℕ) where
  come : (s : StackState) → Kept levels new.object s → FollowsMachine s new.speller → IsOpenOrEnded levels s new
  come (reading room frames) kept follows = record { room = room; frames = frames; stands = refl; sum = kept.0; kind = kept.1; follows = follows }
  come (done j) kept follows = (follows.0, follows.1, kept follows.0 follows.1, follows)
  come failed kept follows = absurd follows

  gone_from : (room : ℕ) (frames : List Frame) → length frames + room ≡ levels → outermost frames ≡ Some old.object → FollowsMachine (reading room frames) old.speller → IsOpenOrEnded levels (state_within room frames t) new
  gone_from room [] sum kind follows = let never : ⊥ = cc in absurd never
  gone_from room (frame ∷ frames) sum kind follows =
      come (state_within room (frame ∷ frames) t) (step_kept levels new.object room frame frames t sum (kind ∙ ap (λ b. Some b) (sym same))) (goes (reading room (frame ∷ frames)) follows)

  pub gone_on : (s : StackState) → IsOpen levels s old → IsOpenOrEnded levels (next_state s t) new
  gone_on s at = subst (λ r. IsOpenOrEnded levels (next_state r t) new) (sym at.stands) (gone_from at.room at.frames at.sum at.kind at.follows)

pub refused_on : (t : Token) (old : UnderWay) → RefusesToken old.speller t → (levels : ℕ) (s : StackState) → IsOpen levels s old → NoneAfter (next_state s t)
refused_on t old none levels s at = subst (λ r. NoneAfter (next_state r t)) (sym at.stands) (none (reading at.room at.frames) at.follows)

-- ---- its end

apart : (room : ℕ) (frames : List Frame) (j : Json) → reading room frames ≡ done j → ⊥
apart room frames j is = cc

same_done : (i j : Json) → done i ≡ done j → i ≡ j
same_done i j is = cc

same_some : (d e : Data) → Some d ≡ Some e → d ≡ e
same_some d e is = cc

module _ (way : UnderWay) (spelled : Spelled) (ends : (s : StackState) → FollowsMachine s way.speller → IsEnded s spelled) (levels : ℕ) where
  ended_as : (field : Field) → ((j : Json) (d : Data) → of_json j ≡ Some d → IsOfBracket way.object d → IsEnded (done j) spelled → IsField field d) → (s : StackState) → IsOpenOrEnded levels s way → IsEndedField s way field
  ended_as field is (reading room frames) at =
      let follows = subst (λ r. FollowsMachine r way.speller) (sym at.stands) at.follows in
      let ended = ends (reading room frames) follows in
      absurd (apart room frames ended.0 ended.2)
  ended_as field is (done j) at = record { json = j; value = at.0; stands = refl; made = at.1; is = is j at.0 at.1 at.2 (ends (done j) at.3); kind = at.2 }
  ended_as field is failed at = absurd at

  pub ended_object : way.object ≡ true → (s : StackState) → IsOpenOrEnded levels s way → IsEndedField s way (Field.Object spelled)
  ended_object object s at = ended_as (Field.Object spelled) field s at
    where
      field : (j : Json) (d : Data) → of_json j ≡ Some d → IsOfBracket way.object d → IsEnded (done j) spelled → IsField (Field.Object spelled) d
      field j d made kind ended =
          let shape = subst (λ b. IsOfBracket b d) object kind in
          let same : ended.1 ≡ d = same_some ended.1 d (sym ended.3 ∙ ap of_json (sym (same_done j ended.0 ended.2)) ∙ made) in
          (shape.0, shape.1, subst (λ e. IsSpelled spelled e) same ended.4, made_sound j d made)

  pub ended_array : way.object ≡ false → (s : StackState) → IsOpenOrEnded levels s way → IsEndedField s way Field.Other
  ended_array array s at = ended_as Field.Other field s at
    where
      field : (j : Json) (d : Data) → of_json j ≡ Some d → IsOfBracket way.object d → IsEnded (done j) spelled → IsField Field.Other d
      field j d made kind ended = let shape = subst (λ b. IsOfBracket b d) array kind in subst (IsField Field.Other) (sym shape.1) (refl, refl, refl)

pub not_ended : (old new : UnderWay) → new.object ≡ old.object → ((s : StackState) → FollowsMachine s old.speller → IsUnended s old.speller new.speller) → (levels : ℕ) (s : StackState) → IsOpenOrEnded levels s old → IsStillOpen levels s old new
not_ended old new object left levels (reading room frames) at =
    let follows = subst (λ r. FollowsMachine r old.speller) (sym at.stands) at.follows in
    let same = (left (reading room frames) follows).3 in
    (record { room = at.room; frames = at.frames; stands = at.stands; sum = at.sum; kind = at.kind ∙ ap (λ b. Some b) (sym object); follows = subst (FollowsMachine (reading at.room at.frames)) (sym same) at.follows }, object)
not_ended old new object left levels (done j) at =
    let going = left (done j) at.3 in
    absurd (apart going.0 going.1 j (sym going.2))
not_ended old new object left levels failed at = absurd at

-- ---- its first token

open_frame : (levels : ℕ) (frame : Frame) (way : UnderWay) → is_object_frame frame ≡ way.object → FollowsMachine (opened_frame levels [] frame) way.speller → IsOpen levels (opened_frame levels [] frame) way
open_frame zero frame way kind follows = absurd follows
open_frame (suc room) frame way kind follows = record { room = room; frames = frame ∷ []; stands = refl; sum = omega arith; kind = ap (λ b. Some b) kind; follows = follows }

pub begun_open : (levels : ℕ) (t : Token) (way : UnderWay) → opens t ≡ true → way.object ≡ begins_object t → FollowsMachine (next_state (start_state levels) t) way.speller → IsBegunValue levels t (Begun.Open way)
begun_open levels Token.begin_object way is kind follows = (open_frame levels (in_object json.no_members) way (sym kind) follows, refl, kind)
begun_open levels Token.begin_array way is kind follows = (open_frame levels (in_array json.no_items) way (sym kind) follows, refl, kind)
begun_open levels other way is kind follows = let never : ⊥ = cc in absurd never

pub begun_null : (levels : ℕ) → IsBegunValue levels Token.null (Begun.Scalar Field.Null)
begun_null levels = (json.null, null, refl, refl, refl, refl, refl)

pub begun_boolean : (levels : ℕ) (b : Bool) → IsBegunValue levels (Token.boolean b) (Begun.Scalar Field.Other)
begun_boolean levels b = (json.boolean b, boolean b, refl, refl, (refl, refl, refl), refl, refl)

pub begun_text : (levels : ℕ) (s : List ℕ) (text : String Global) → string_bytes text ≡ s → IsBegunValue levels (Token.string s) (Begun.Scalar (Field.Text text))
begun_text levels s text same = (json.string s, string s, refl, refl, ap string (sym same), refl, refl)

pub begun_number : (levels : ℕ) (s : List ℕ) (speller : Speller) → FollowsMachine (next_state (start_state levels) (Token.number s)) speller → IsBegunValue levels (Token.number s) (Begun.Scalar Field.Other)
begun_number levels s speller follows = go (number_of s) refl
  where
    go : (o : Option _) → number_of s ≡ o → IsBegunValue levels (Token.number s) (Begun.Scalar Field.Other)
    go None is = let never : ⊥ = (let none = ap (option_map number) is in let some = follows.1 in cc) in absurd never
    go (Some n) is = (json.number s, number n, refl, ap (option_map number) is, (refl, refl, refl), refl, refl)

abbrev pub begins_none : Token → Bool
begins_none Token.end_array = true
begins_none Token.end_object = true
begins_none (Token.key s) = true
begins_none Token.bad = true
begins_none t = false

fails_first : (levels : ℕ) (t : Token) → begins_none t ≡ true → next_state (start_state levels) t ≡ failed
fails_first levels Token.end_array is = refl
fails_first levels Token.end_object is = refl
fails_first levels (Token.key s) is = refl
fails_first levels Token.bad is = refl
fails_first levels t is = let never : ⊥ = cc in absurd never

pub no_first : (levels : ℕ) (t : Token) → begins_none t ≡ true → NoneAfter (next_state (start_state levels) t)
no_first levels t is = failed_on (next_state (start_state levels) t) (fails_first levels t is)

pub begun_numeral : (levels : ℕ) (t : Token) (s : List ℕ) (speller : Speller) → t ≡ Token.number s → FollowsMachine (next_state (start_state levels) t) speller → IsBegunValue levels t (Begun.Scalar Field.Other)
begun_numeral levels t s speller is follows =
    subst (λ u. IsBegunValue levels u (Begun.Scalar Field.Other)) (sym is) (begun_number levels s speller (subst (λ u. FollowsMachine (next_state (start_state levels) u) speller) is follows))
