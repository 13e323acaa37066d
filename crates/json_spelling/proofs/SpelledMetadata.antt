-- Whether what is spelled is metadata.
use Rattle.std.proofs.Common.{◌≡◌, ◌==◌, ℕ, ◌+◌, ◌/◌, ◌%◌, ◌<◌, ◌^◌, pos, negsuc, List, [], ◌∷◌, ◌++◌, Bool, true, false, ◌&&◌, not, nat_le, Option, Some, None, option_map, option_and_then, is_some, decimal, refl, sym, ap, ap₂, ◌∙◌, arith}
use Rattle.std.proofs.lemmas.Fmt.{decimal_by_steps}
use Rattle.std.specs.Borrow.{Bor}
use Rattle.std.specs.Option.{option_copied, option_eq}
use Rattle.std.specs.Prelude.{slice_get, if◌then◌else◌}
use Rattle.json.specs.Token.{Token}
use Rattle.json_stack.specs.Machine.{StackState, reading, done, state_after, start_state}
use Rattle.serde_json.specs.Data.{Num, unsigned, negative, float, Data, null, boolean, number, string, array, object, depth}
use Rattle.serde_json.specs.Find.{as_object}
use Rattle.serde_json.specs.Read.{max_depth}
use Rattle.serde_json.specs.Written.{has_float, compact_text, number_text}
use Rattle.json_spelling.specs.Metadata.{is_metadata, if_metadata}
use Rattle.json_spelling.specs.Sound.{IsSound, IsSoundNum}
use Rattle.json_spelling.specs.Spelled.{data_of, IsSpelled}
use Rattle.json_spelling.specs.Speller.{FollowsMachine, IsEnded, IsUnended, HasSpelled}
use Rattle.json_spelling.specs.declared.speller.Speller.{Speller}
use Rattle.json_spelling.specs.declared.spelling.Spelled.{Spelled}
use Rattle.json_spelling.proofs.Following.{data_read}
use Rattle.json_spelling.proofs.SoundLemmas.{data_sound}

-- ---- only an object's text begins with a brace

abbrev pub begins_brace : List ℕ → Bool
begins_brace [] = false
begins_brace (byte ∷ text) = byte == 123

abbrev BeginsDigit : ℕ → List ℕ → Type 0
BeginsDigit n [] = ⊥
BeginsDigit n (byte ∷ text) = byte < 58

digit_more : (n m x : ℕ) (ds : List ℕ) → BeginsDigit m ds → BeginsDigit n (ds ++ x ∷ [])
digit_more n m x [] is = absurd is
digit_more n m x (d ∷ ds) is = is

digit_first : (n : ℕ) → n < 2 ^ 64 → BeginsDigit n (decimal n)
digit_first n small = decimal_by_steps BeginsDigit (λ n one. omega arith) (λ n ds many so. digit_more n (n / 10) (48 + n % 10) ds so) n small

no_brace : (n : ℕ) (text : List ℕ) → BeginsDigit n text → begins_brace text ≡ false
no_brace n [] is = absurd is
no_brace n (byte ∷ text) is = grind arith

number_begins : (n : Num) → IsSoundNum n → begins_brace (number_text n) ≡ false
number_begins (unsigned n) sound = no_brace n (decimal n) (digit_first n sound)
number_begins (negative (pos n)) sound = absurd sound
number_begins (negative (negsuc n)) sound = refl
number_begins (float x) sound = refl

pub brace_first : (d : Data) → IsSound d → begins_brace (compact_text d) ≡ is_some (as_object d)
brace_first null sound = refl
brace_first (boolean true) sound = refl
brace_first (boolean false) sound = refl
brace_first (number n) sound = number_begins n sound
brace_first (string s) sound = refl
brace_first (array ds) sound = refl
brace_first (object ms) sound = refl

first_brace : (o : Option (Bor ℕ)) (brace : Bor ℕ) (text : List ℕ) → brace.now ≡ 123 → option_copied o ≡ slice_get text 0 → option_eq (λ x y. x.now == y.now) o (Some brace) ≡ begins_brace text
first_brace None brace [] is at = refl
first_brace None brace (x ∷ text) is at = absurd cc
first_brace (Some y) brace [] is at = absurd cc
first_brace (Some y) brace (x ∷ text) is at = let same : y.now ≡ x = grind arith in ap₂ (λ a b. a == b) same is

-- ---- whether a spelled value is metadata

by_float : (float object levels brace : Bool) → (float ≡ false → brace ≡ object) → ((not float && levels) && brace) ≡ (object && (not float && levels))
by_float true true levels brace is = refl
by_float true false levels brace is = refl
by_float false true true brace is = is refl
by_float false true false brace is = refl
by_float false false true brace is = is refl
by_float false false false brace is = refl

pub fits_metadata : (spelled : Spelled) (fits : Bool) (o : Option (Bor ℕ)) (brace : Bor ℕ) → fits ≡ (not spelled.extent.fractional && nat_le spelled.extent.levels 100) → brace.now ≡ 123 → option_copied o ≡ slice_get spelled.text.items 0
    → (d : Data) → IsSound d → IsSpelled spelled d → (fits && option_eq (λ x y. x.now == y.now) o (Some brace)) ≡ is_metadata d
fits_metadata spelled fits o brace fit is at d sound are =
    let begins = first_brace o brace spelled.text.items is at ∙ ap begins_brace are.0 ∙ brace_first d sound in
    ap₂ (λ a b. a && b) (fit ∙ ap₂ (λ b n. not b && nat_le n 100) are.1.1 are.1.0) begins ∙ by_float (has_float d) (is_some (as_object d)) (nat_le (depth d) 100) (is_some (as_object d)) (λ _. refl)

-- ---- what came of all tokens

spelling_of_one : (d : Data) (b : Bool) → is_metadata d ≡ b → option_map compact_text (if_metadata d) ≡ (if b then Some (compact_text d) else None)
spelling_of_one d true is = rw is refl
spelling_of_one d false is = rw is refl

-- the spelling of the metadata that tokens are
abbrev pub spelling_of_tokens : List Token → Option (List ℕ)
spelling_of_tokens ts = option_map compact_text (option_and_then if_metadata (data_of ts))

pub none_ended : (speller : Speller) → ((s : StackState) → FollowsMachine s speller → (rest : Speller) × IsUnended s speller rest) → (ts : List Token) → HasSpelled ts speller → None ≡ spelling_of_tokens ts
none_ended speller unended ts at =
    let s = state_after (start_state max_depth) ts in
    let is = (unended s at).1 in
    sym (ap (λ o. option_map compact_text (option_and_then if_metadata o)) (data_read ts (reading is.0 is.1) is.2))

-- a value that is spelled has that spelling, where it is metadata
pub whole_spelled : (spelled : Spelled) (is : Bool) → ((d : Data) → IsSound d → IsSpelled spelled d → is ≡ is_metadata d) → (d : Data) → IsSound d → IsSpelled spelled d
    → (if is then Some spelled.text.items else None) ≡ option_map compact_text (if_metadata d)
whole_spelled spelled is judged d sound are = ap₂ (λ b t. if b then Some t else None) (judged d sound are) are.0 ∙ sym (spelling_of_one d (is_metadata d) refl)

pub value_ended : (speller : Speller) (spelled : Spelled) (found : Option (List ℕ)) → ((s : StackState) → FollowsMachine s speller → IsEnded s spelled) → ((d : Data) → IsSound d → IsSpelled spelled d → found ≡ option_map compact_text (if_metadata d))
    → (ts : List Token) → HasSpelled ts speller → found ≡ spelling_of_tokens ts
value_ended speller spelled found ended judged ts at =
    let s = state_after (start_state max_depth) ts in
    let there = ended s at in
    let d = there.1 in
    let sound : IsSound d = data_sound there.0 d there.3 in
    judged d sound there.4 ∙ sym (ap (λ o. option_map compact_text (option_and_then if_metadata o)) (data_read ts (done there.0) there.2 ∙ there.3))
