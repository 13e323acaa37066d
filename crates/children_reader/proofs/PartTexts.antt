-- The text of a part of children JSON.
use Rattle.std.proofs.Common.{◌≡◌, ℕ, zero, suc, ◌+◌, ◌-◌, ◌<◌, ◌≤◌, true, List, [], ◌∷◌, ◌++◌, length, take, drop, get_or, Option, Some, None, IsUtf8, refl, sym, ap, ◌∙◌, subst, arith, add-one, length-append}
use Rattle.std.proofs.lemmas.List.{take-append-drop, drop-drop, length-take-le, take_at, take_more, get_or_at}
use Rattle.std.proofs.lemmas.Str.{IsUtf8-append, IsUtf8-take, IsUtf8-drop, IsUtf8-from_ascii, IsCharBoundary-from_take, IsCharBoundary-before_ascii, IsCharBoundary-after_ascii}
use Rattle.std.proofs.Math.Seq.{take-add}
use Rattle.json.specs.Token.{begin_object}
use Rattle.json.specs.Lex.{tokens}
use Rattle.json_members.specs.MemberCuts.{first_token, opens_object, front_object, back_object}
use Rattle.children_reader.specs.Collected.{object_behind, IsPartUpTo}
use Rattle.json_spelling.proofs.PiecesTaken.{ascii_byte}
use Rattle.children_reader.proofs.Braces.{FirstLaw}

-- ---- it begins an object

brace_opens : (xs : List ℕ) → opens_object (123 ∷ xs) ≡ true
unfolding opens_object
brace_opens xs = refl

front_opens : (xs : List ℕ) (n : ℕ) → 0 < n → opens_object (front_object (123 ∷ xs) n) ≡ true
front_opens xs zero some = let never : ⊥ = omega arith in absurd never
front_opens xs (suc n) some = brace_opens (take n xs ++ 125 ∷ [])

part_opens : (json text : List ℕ) (at : ℕ) (next : Option ℕ) → IsPartUpTo json at text next → opens_object text ≡ true
part_opens json text at None part = ap opens_object part ∙ brace_opens (drop at json)
part_opens json text at (Some next) part = ap opens_object part.3 ∙ front_opens (drop at json) (next - at) (omega (arith, part.0))

pub begins : FirstLaw → (json text : List ℕ) (at : ℕ) (next : Option ℕ) → IsPartUpTo json at text next → first_token (tokens text) ≡ Some begin_object
begins law json text at next part = (law text).1 (part_opens json text at next part)

pub rest_begins : FirstLaw → (json : List ℕ) (at : ℕ) → first_token (tokens (object_behind at json)) ≡ Some begin_object
rest_begins law json at = (law (object_behind at json)).1 (brace_opens (drop at json))

-- what stands behind the cut is what stands behind that place of the whole
pub behind_cut : (json : List ℕ) (at next : ℕ) → at < next → back_object (object_behind at json) (next - at) ≡ object_behind next json
behind_cut json at next ahead =
    let place : at + (next - at) ≡ next = omega arith in
    ap (λ n. 123 ∷ drop n (123 ∷ drop at json)) (add-one (next - at)) ∙ ap (λ t. 123 ∷ t) (drop-drop (next - at) at json ∙ ap (λ n. drop n json) place)

-- ---- where it is text

pub byte_text : (k : ℕ) → k < 128 → IsUtf8 (k ∷ [])
byte_text k small = IsUtf8-from_ascii (k ∷ []) (ascii_byte k small)

pub behind_byte : (k : ℕ) (xs : List ℕ) → k < 128 → IsUtf8 (k ∷ xs) → IsUtf8 xs
behind_byte k xs small utf8 = IsUtf8-drop (k ∷ xs) 1 utf8 (IsCharBoundary-after_ascii (k ∷ xs) 0 utf8 (omega arith) small)

-- a part of text is text
pub part_text : (json text : List ℕ) (at : ℕ) (next : Option ℕ) → at ≤ length json → IsUtf8 (take at json) → IsPartUpTo json at text next → IsUtf8 json → IsUtf8 text
part_text json text at next within before part whole =
    let rest = IsUtf8-drop json at whole (IsCharBoundary-from_take json at whole within before) in
    go next part (IsUtf8-append (123 ∷ []) (drop at json) (byte_text 123 (omega arith)) rest)
  where
    go : (next : Option ℕ) → IsPartUpTo json at text next → IsUtf8 (object_behind at json) → IsUtf8 text
    go None part rest = subst IsUtf8 (sym part) rest
    go (Some next) part rest =
        let comma = part.2.comma in
        let place = next - at in
        let small : get_or (object_behind at json) place 0 < 128 = omega (arith, comma.comma) in
        let front = IsUtf8-take (object_behind at json) place rest (IsCharBoundary-before_ascii (object_behind at json) place comma.within small) in
        subst IsUtf8 (sym part.3) (IsUtf8-append (take place (object_behind at json)) (125 ∷ []) front (byte_text 125 (omega arith)))

-- and the whole is text where its parts are
pub all_text : (json text : List ℕ) (at : ℕ) → IsUtf8 (take at json) → text ≡ object_behind at json → IsUtf8 text → IsUtf8 json
all_text json text at before part utf8 =
    subst IsUtf8 (take-append-drop at json) (IsUtf8-append (take at json) (drop at json) before (behind_byte 123 (drop at json) (omega arith) (subst IsUtf8 part utf8)))

-- the bytes of an object before a comma, with it, are text
with_comma : (whole : List ℕ) (n : ℕ) → n ≤ length whole → IsUtf8 (front_object whole n) → IsUtf8 (take n whole)
with_comma whole n within utf8 =
    let size = length-take-le n whole within in
    let text = front_object whole n in
    let brace : get_or text n 0 ≡ 125 = get_or_at (take n whole) 125 [] 0 n size in
    let inside : n < length text = omega (arith, length-append (take n whole) (125 ∷ [])) in
    subst IsUtf8 (take_at (take n whole) (125 ∷ []) n size) (IsUtf8-take text n utf8 (IsCharBoundary-before_ascii text n inside (omega (arith, brace))))

pub next_text : (json text : List ℕ) (at next : ℕ) → IsUtf8 (take at json) → IsPartUpTo json at text (Some next) → IsUtf8 text → IsUtf8 (take next json)
next_text json text at next before part utf8 =
    let whole = object_behind at json in
    let place = next - at in
    let comma = part.2.comma in
    let found = comma.within in
    let front = with_comma whole place (omega arith) (subst IsUtf8 part.3 utf8) in
    let more : take (place + 1) whole ≡ take place whole ++ 44 ∷ [] = take_more whole place 0 found ∙ ap (λ x. take place whole ++ x ∷ []) comma.comma in
    let longer : IsUtf8 (take (place + 1) whole) = subst IsUtf8 (sym more) (IsUtf8-append (take place whole) (44 ∷ []) front (byte_text 44 (omega arith))) in
    let behind : IsUtf8 (123 ∷ take place (drop at json)) = subst (λ n. IsUtf8 (take n whole)) (add-one place) longer in
    let size : at + place ≡ next = omega (arith, part.0) in
    subst (λ n. IsUtf8 (take n json)) size
    (subst IsUtf8 (sym (take-add at place json)) (IsUtf8-append (take at json) (take place (drop at json)) before (behind_byte 123 (take place (drop at json)) (omega arith) behind)))

-- ---- as the reader sees it

pub record IsTextPart (json : List ℕ) (at : ℕ) (text : List ℕ) (next : Option ℕ) : Type 0 where
  pub part : IsPartUpTo json at text next
  pub utf8 : IsUtf8 text

pub text_part : (json text bytes items : List ℕ) (at : ℕ) (next : Option ℕ) → text ≡ bytes → IsUtf8 bytes → bytes ≡ items → IsPartUpTo json at items next → IsTextPart json at text next
text_part json text bytes items at next read utf8 same part = record {
  part = subst (λ t. IsPartUpTo json at t next) (sym (read ∙ same)) part;
  utf8 = subst IsUtf8 (sym read) utf8;
}
