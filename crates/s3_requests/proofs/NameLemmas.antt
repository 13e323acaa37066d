-- Names, taken apart.
use Rattle.std.proofs.Common.{◌≡◌, ◌≢◌, ℕ, zero, suc, ◌+◌, ◌-◌, ◌*◌, ◌/◌, ◌%◌, ◌<◌, List, [], ◌∷◌, ◌++◌, Option, Some, None, codes, length, take, drop, get_or, refl, ap, sym, ◌∙◌, arith, length-append, inl, inr}
use Rattle.std.specs.List.{AllPass}
use Rattle.std.specs.Option.{ForSome}
use Rattle.std.proofs.lemmas.Bool.{cases_lt}
use Rattle.std.proofs.lemmas.List.{take_at, drop_at}
use Rattle.std.proofs.Math.ListN.{get_or-append}
use Rattle.std.proofs.Math.Seq.{get_or-append_right}
use Rattle.hex.specs.Hex.{IsBytes, decode_of, lower_digits}
use Rattle.hex.proofs.HexLemmas.{length-encode_with, decode_of-encode_lower, decode_of-same}
use Rattle.s3_sign.specs.Spelling.{is_path_byte}
use Rattle.s3_requests.specs.ObjectNames.{IsIndexAndNumber, name_beginning, name_digits, object_name, settings_name}
use Rattle.s3_requests.specs.ObjectSites.{IsPrefix}
use Rattle.s3_requests.proofs.PathLemmas.{beginning_plain, hex_plain, plain_both}

-- the bytes of which the digits are
abbrev place : List ℕ → ℕ → List ℕ
place index number = index ++ number / 256 ∷ number % 256 ∷ []

length-place : (index : List ℕ) (number : ℕ) → IsIndexAndNumber index number → length (place index number) ≡ 18
length-place index number is = omega (arith, length-append index (number / 256 ∷ number % 256 ∷ []), is.long)

last_two : (a b i : ℕ) → a < 256 → b < 256 → get_or (a ∷ b ∷ []) i 0 < 256
last_two a b zero ha hb = ha
last_two a b (suc zero) ha hb = hb
last_two a b (suc (suc i)) ha hb = omega arith

bytes_in : (index : List ℕ) (number : ℕ) → ((i : ℕ) → i < length index → get_or index i 0 < 256) → number < 65536 → IsBytes (place index number)
bytes_in index number octets small i =
    elim (cases_lt i (length index)) [
      | inl within ↦ rw (get_or-append index (number / 256 ∷ number % 256 ∷ []) 0 i within) (octets i within)
      | inr past ↦
          rw (get_or-append_right index (number / 256 ∷ number % 256 ∷ []) i 0 past)
          (last_two (number / 256) (number % 256) _ (omega arith) (omega arith))
    ]

place_bytes : (index : List ℕ) (number : ℕ) → IsIndexAndNumber index number → IsBytes (place index number)
place_bytes index number is = bytes_in index number (λ i. is.octets i 0) is.small

length-digits : (index : List ℕ) (number : ℕ) → IsIndexAndNumber index number → length (name_digits index number) ≡ 36
unfolding name_digits
length-digits index number is =
    omega (arith, length-encode_with lower_digits (place index number), length-place index number is)

-- ---- nothing has to be escaped

digits_plain : (index : List ℕ) (number : ℕ) → IsBytes (place index number) → AllPass is_path_byte (name_digits index number)
unfolding name_digits
digits_plain index number bytes = hex_plain (place index number) bytes

pub object_plain : (prefix : Option (List ℕ)) (index : List ℕ) (number : ℕ) → ForSome prefix IsPrefix
    → ((i : ℕ) → i < length index → get_or index i 0 < 256) → number < 65536 → AllPass is_path_byte (object_name prefix index number)
object_plain prefix index number h octets small =
    plain_both (name_beginning prefix) (name_digits index number) (beginning_plain prefix h) (digits_plain index number (bytes_in index number octets small))

word_plain : AllPass is_path_byte (codes "grid")
word_plain zero d h = refl
word_plain (suc zero) d h = refl
word_plain (suc (suc zero)) d h = refl
word_plain (suc (suc (suc zero))) d h = refl
word_plain (suc (suc (suc (suc k)))) d h = absurd (omega arith)

pub settings_plain : (prefix : Option (List ℕ)) → ForSome prefix IsPrefix → AllPass is_path_byte (settings_name prefix)
settings_plain prefix h = plain_both (name_beginning prefix) (codes "grid") (beginning_plain prefix h) word_plain

-- ---- the place, taken apart

index_in : (index : List ℕ) (number : ℕ) → IsIndexAndNumber index number → take 16 (place index number) ≡ index
index_in index number is = take_at index (number / 256 ∷ number % 256 ∷ []) 16 is.long

high_in : (index : List ℕ) (number : ℕ) → IsIndexAndNumber index number → get_or (place index number) 16 0 ≡ number / 256
high_in index number is =
    get_or-append_right index (number / 256 ∷ number % 256 ∷ []) 16 0 (omega (arith, is.long))
    ∙ (let zeroth : 16 - length index ≡ 0 = omega (arith, is.long) in rw zeroth refl)

low_in : (index : List ℕ) (number : ℕ) → IsIndexAndNumber index number → get_or (place index number) 17 0 ≡ number % 256
low_in index number is =
    get_or-append_right index (number / 256 ∷ number % 256 ∷ []) 17 0 (omega (arith, is.long))
    ∙ (let first : 17 - length index ≡ 1 = omega (arith, is.long) in rw first refl)

number_in : (index : List ℕ) (number : ℕ) → IsIndexAndNumber index number
    → get_or (place index number) 16 0 * 256 + get_or (place index number) 17 0 ≡ number
number_in index number is = omega (arith, high_in index number is, low_in index number is)

one_place : (index other : List ℕ) (number another : ℕ) → IsIndexAndNumber index number → IsIndexAndNumber other another
    → place index number ≡ place other another → (index ≡ other) × (number ≡ another)
one_place index other number another here there e = (
  sym (index_in index number here) ∙ ap (take 16) e ∙ index_in other another there,
  sym (number_in index number here)
      ∙ ap (λ p. get_or p 16 0 * 256 + get_or p 17 0) e ∙ number_in other another there,
)

same_digits : (index other : List ℕ) (number another : ℕ) → IsIndexAndNumber index number → IsIndexAndNumber other another
    → name_digits index number ≡ name_digits other another → place index number ≡ place other another
unfolding name_digits
same_digits index other number another here there e =
    decode_of-same (name_digits other another) (place index number) (place other another)
    (ap decode_of (sym e) ∙ decode_of-encode_lower (place index number) (place_bytes index number here))
    (decode_of-encode_lower (place other another) (place_bytes other another there))

-- ---- the prefix

no_slash : (text : List ℕ) → [] ≡ text ++ codes "/" → ⊥
no_slash text e = omega (arith, ap length e, length-append text (codes "/"))

same_prefix : (prefix ours : Option (List ℕ)) → name_beginning prefix ≡ name_beginning ours → prefix ≡ ours
same_prefix None None e = refl
same_prefix None (Some q) e = absurd (no_slash q e)
same_prefix (Some p) None e = absurd (no_slash p (sym e))
same_prefix (Some p) (Some q) e =
    let long : length p ≡ length q = omega (arith, ap length e, length-append p (codes "/"), length-append q (codes "/")) in
    ap (λ x. Some x) (sym (take_at p (codes "/") (length q) long) ∙ ap (take (length q)) e ∙ take_at q (codes "/") (length q) refl)

pub one_name : (prefix ours : Option (List ℕ)) (index other : List ℕ) (number another : ℕ) → IsIndexAndNumber index number → IsIndexAndNumber other another
    → object_name prefix index number ≡ object_name ours other another
    → (prefix ≡ ours) × (index ≡ other) × (number ≡ another)
one_name prefix ours index other number another here there e =
    let p = name_beginning prefix in
    let q = name_beginning ours in
    let long : length p ≡ length q = omega (
      arith,
      ap length e,
      length-append p (name_digits index number),
      length-append q (name_digits other another),
      length-digits index number here,
      length-digits other another there,
    ) in
    let front = sym (take_at p (name_digits index number) (length q) long) ∙ ap (take (length q)) e
    ∙ take_at q (name_digits other another) (length q) refl in
    let back = sym (drop_at p (name_digits index number) (length q) long) ∙ ap (drop (length q)) e
    ∙ drop_at q (name_digits other another) (length q) refl in
    let same = one_place index other number another here there
    (same_digits index other number another here there back) in
    (same_prefix prefix ours front, same.0, same.1)

pub no_object : (prefix : Option (List ℕ)) (index : List ℕ) (number : ℕ) → IsIndexAndNumber index number
    → object_name prefix index number ≢ settings_name prefix
no_object prefix index number is e =
    omega (
      arith,
      ap length e,
      length-append (name_beginning prefix) (name_digits index number),
      length-append (name_beginning prefix) (codes "grid"),
      length-digits index number is,
    )
