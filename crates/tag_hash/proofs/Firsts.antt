-- The fault of a netstring is the first one from left to right.
use Rattle.std.proofs.Common.{◌≡◌, ℕ, suc, ◌+◌, ◌-◌, ◌^◌, ◌<◌, ◌≤◌, List, [], ◌∷◌, ◌++◌, length, take, drop, get_or, Bool, true, false, cond, inl, inr, refl, sym, ap, subst, ◌∙◌, arith, length-drop, length-take}
use Rattle.std.specs.Prelude.{◌==◌, ◌≢◌, ◌&&◌, nat_lt, if◌then◌else◌, Result, Ok, Err, IfErr}
use Rattle.std.specs.Char.{is_ascii_digit}
use Rattle.std.specs.Str.Parse.{digits_value}
use Rattle.std.proofs.lemmas.List.{take-append-drop, drop-drop, get_or-drop, get_or-take}
use Rattle.tag_hash.specs.Decimal.{decimal_text}
use Rattle.tag_hash.specs.NetstringAt.{netstring_at, announced, closed, digit_count, first_value}
use Rattle.tag_hash.specs.Faults.{NoDigit, BeginsWith, IsCut, IsFirst}
use Rattle.tag_hash.specs.declared.netstrings.NetFault.{NetFault}
use Rattle.tag_hash.specs.declared.netstrings.NetFault.TheVariants.{NotDigits, LeadingZero, Short, NoComma, TooLong}
use Rattle.tag_hash.specs.declared.netstrings.Span.{Span}
use Rattle.tag_hash.proofs.Comparisons.{true_or_false, equal, equal_is, unequal_is, below_is, not_below_is, both}
use Rattle.tag_hash.proofs.Announced.{IsAnnounced, announced_by, announced_parts, by_tests, led, first_digits}
use Rattle.tag_hash.proofs.Reading.{cut_at, digits_of_size, netstring_at_by, first_of_both, second_of_both}

-- ---- the digits of a text

counted_more : (c : ℕ) (rest : List ℕ) → is_ascii_digit c ≡ true → digit_count (c ∷ rest) ≡ suc (digit_count rest)
counted_more c rest passes =
    ap (λ b. cond b (1 + digit_count rest) 0) passes ∙ (let e : 1 + digit_count rest ≡ suc (digit_count rest) = omega arith in e)

counted_none : (c : ℕ) (rest : List ℕ) → is_ascii_digit c ≡ false → digit_count (c ∷ rest) ≡ 0
counted_none c rest fails = ap (λ b. cond b (1 + digit_count rest) 0) fails

bare : (text : List ℕ) → digit_count text ≡ 0 → NoDigit text
bare [] none = tt
bare (c ∷ rest) none =
    true_or_false (is_ascii_digit c) (NoDigit (c ∷ rest)) (λ passes. let more = counted_more c rest passes in absurd (omega arith)) (λ fails. fails)

-- none follows those that are counted
digits_end : (text : List ℕ) → NoDigit (drop (digit_count text) text)
digits_end [] = tt
digits_end (c ∷ rest) =
    true_or_false (is_ascii_digit c) _
    (λ passes. subst (λ n. NoDigit (drop n (c ∷ rest))) (sym (counted_more c rest passes)) (digits_end rest))
    (λ fails. subst (λ n. NoDigit (drop n (c ∷ rest))) (sym (counted_none c rest fails)) fails)

begins : (text : List ℕ) → BeginsWith text (take (digit_count text) text) (drop (digit_count text) text)
begins text = record { text_is = sym (take-append-drop (digit_count text) text); digits_are = first_digits text; ends = digits_end text }

some_text : (text : List ℕ) → length text ≢ 0 → text ≢ []
some_text text some none = some (ap length none)

no_text : (text : List ℕ) → length text ≡ 0 → text ≡ []
no_text [] none = refl
no_text (c ∷ rest) none = absurd (omega arith)

-- a zero before another digit
zero_led : (text : List ℕ) → get_or text 0 0 ≡ 48 → 1 < digit_count text → IsFirst text LeadingZero
zero_led [] first many = absurd (omega arith)
zero_led (c ∷ []) first many =
    true_or_false (is_ascii_digit c) _
    (λ passes. let one : digit_count (c ∷ []) ≡ 1 = counted_more c [] passes in absurd (omega arith))
    (λ fails. let none : digit_count (c ∷ []) ≡ 0 = counted_none c [] fails in absurd (omega arith))
zero_led (c ∷ d ∷ rest) first many =
    true_or_false (is_ascii_digit d) _
    (λ passes. (d, rest, ap (λ x. x ∷ d ∷ rest) first, passes))
    (λ fails.
    let none : digit_count (d ∷ rest) ≡ 0 = counted_none d rest fails in
    true_or_false (is_ascii_digit c) _
    (λ passes. let one : digit_count (c ∷ d ∷ rest) ≡ suc (digit_count (d ∷ rest)) = counted_more c (d ∷ rest) passes in absurd (omega arith))
    (λ other. let zero_digits : digit_count (c ∷ d ∷ rest) ≡ 0 = counted_none c (d ∷ rest) other in absurd (omega arith)))

-- a text whose digits are too many begins with no zero
value_of_zero : (ds : List ℕ) → length ds ≤ 1 → get_or ds 0 0 ≡ 48 → digits_value 10 ds ≡ 0
value_of_zero [] few first = absurd (omega arith)
value_of_zero (d ∷ []) few first = ap (λ x. digits_value 10 (x ∷ [])) first
value_of_zero (d ∷ e ∷ ds) few first = absurd (omega arith)

no_zero : (text : List ℕ) → led text ≡ false → 0 < digit_count text → 2 ^ 64 ≤ first_value text → get_or (take (digit_count text) text) 0 0 ≢ 48
no_zero text alone some large first =
    let k = digit_count text in
    let front : get_or text 0 0 ≡ 48 = sym (get_or-take k text 0 0 some) ∙ first in
    true_or_false (nat_lt 1 k) _
    (λ more. let wrong : led text ≡ true = both _ _ (equal _ _ front) more in cc)
    (λ few.
    let short : k ≤ 1 = not_below_is _ _ few in
    let long : length (take k text) ≤ 1 = omega (arith, length-take k text) in
    let nothing : first_value text ≡ 0 = value_of_zero (take k text) long first in
    absurd (omega arith))

-- ---- faults of the announcement

announced_first : (text : List ℕ) (fault : NetFault) (a b c d : Bool) → (length text == 0) ≡ a → (digit_count text == 0) ≡ b → led text ≡ c → nat_lt (first_value text) (2 ^ 64) ≡ d
    → by_tests a b c (cond d (Ok (first_value text)) (Err TooLong)) ≡ Err fault → IsFirst text fault
announced_first text fault true b c d first second third fourth e =
    let is : Short ≡ fault = cc in subst (IsFirst text) is (inl (no_text text (equal_is _ _ first)))
announced_first text fault false true c d first second third fourth e =
    let is : NotDigits ≡ fault = cc in
    subst (IsFirst text) is (some_text text (unequal_is _ _ first), bare text (equal_is _ _ second))
announced_first text fault false false true d first second third fourth e =
    let is : LeadingZero ≡ fault = cc in
    subst (IsFirst text) is
    (zero_led text (equal_is _ _ (first_of_both _ _ third)) (below_is _ _ (second_of_both (get_or text 0 0 == 48) _ third)))
announced_first text fault false false false true first second third fourth e = absurd (cc)
announced_first text fault false false false false first second third fourth e =
    let is : TooLong ≡ fault = cc in
    let large : 2 ^ 64 ≤ first_value text = not_below_is _ _ fourth in
    let none : digit_count text ≢ 0 = unequal_is _ _ second in
    subst (IsFirst text) is
    (take (digit_count text) text, drop (digit_count text) text, begins text, no_zero text third (omega arith) large, large)

announcement_first : (text : List ℕ) (fault : NetFault) → announced text ≡ Err fault → IsFirst text fault
announcement_first text fault e =
    announced_first text fault (length text == 0) (digit_count text == 0) (led text) (nat_lt (first_value text) (2 ^ 64)) refl refl refl refl
    (sym (announced_by text (length text == 0) (digit_count text == 0) (led text) refl refl refl) ∙ e)

-- ---- faults behind the announcement

-- the text of an announced number
announced_text : (text : List ℕ) (size : ℕ) → IsAnnounced text size → decimal_text size ≡ take (digit_count text) text
announced_text text size said = digits_of_size text size said

announced_begins : (text : List ℕ) (size : ℕ) → IsAnnounced text size → BeginsWith text (decimal_text size) (drop (digit_count text) text)
announced_begins text size said = subst (λ ds. BeginsWith text ds (drop (digit_count text) text)) (sym (announced_text text size said)) (begins text)

-- what follows the digits is cut short
cut_short : (bytes : List ℕ) (at size : ℕ) → (get_or bytes (at + digit_count (drop at bytes) + 1 - 1) 0 == 58 && nat_lt (at + digit_count (drop at bytes) + 1 + size) (length bytes)) ≡ false
    → IsCut size (drop (digit_count (drop at bytes)) (drop at bytes))
cut_short bytes at size fails body is =
    let k = digit_count (drop at bytes) in
    let here : drop (at + k) bytes ≡ 58 ∷ body = sym (drop-drop k at bytes) ∙ is in
    let colon : get_or bytes (at + k) 0 ≡ 58 = (let e : at + k + 0 ≡ at + k = omega arith in ap (λ n. get_or bytes n 0) (sym e) ∙ sym (get_or-drop (at + k) bytes 0 0) ∙ ap (λ xs. get_or xs 0 0) here) in
    let place : at + k + 1 - 1 ≡ at + k = omega arith in
    let first : (get_or bytes (at + k + 1 - 1) 0 == 58) ≡ true = equal _ _ (ap (λ n. get_or bytes n 0) place ∙ colon) in
    let long : length (drop (at + k) bytes) ≡ suc (length body) = ap length here in
    let left = length-drop (at + k) bytes in
    true_or_false (nat_lt (at + k + 1 + size) (length bytes)) _
    (λ room. let passes = both _ _ first room in let wrong : false ≡ true = sym fails ∙ passes in absurd (cc))
    (λ none. let far : length bytes ≤ at + k + 1 + size = not_below_is _ _ none in omega arith)

-- another byte stands in place of the comma
other_byte : (bytes : List ℕ) (at start size : ℕ) → start ≡ at + digit_count (drop at bytes) + 1 → IsAnnounced (drop at bytes) size → get_or bytes (start - 1) 0 ≡ 58 → start + size < length bytes → get_or bytes (start + size) 0 ≢ 44
    → IsFirst (drop at bytes) NoComma
other_byte bytes at start size is said colon room other =
    let text = drop at bytes in
    let k = digit_count text in
    let body = drop start bytes in
    let inside : k < length text = omega (arith, length-drop at bytes) in
    let fits : size < length body = omega (arith, length-drop start bytes) in
    let before : start - 1 ≡ at + k = omega arith in
    let colon_here : get_or text k 0 ≡ 58 = get_or-drop at bytes k 0 ∙ ap (λ n. get_or bytes n 0) (sym before) ∙ colon in
    let place : at + (k + 1) ≡ start = omega arith in
    let body_here : drop (k + 1) text ≡ body = drop-drop (k + 1) at bytes ∙ ap (λ n. drop n bytes) place in
    let byte_here : get_or body size 0 ≡ get_or bytes (start + size) 0 = get_or-drop start bytes size 0 in
    let taken : length (take size body) ≡ size = omega (arith, length-take size body) in
    let digits : take k text ≡ decimal_text (length (take size body)) = sym (announced_text text size said) ∙ ap decimal_text (sym taken) in
    let limit : size < 2 ^ 64 = said.small in (
      take size body,
      get_or body size 0,
      drop (size + 1) body,
      subst (λ n. n < 2 ^ 64) (sym taken) limit,
      cut_at text k inside ∙ (λ i. digits i ++ colon_here i ∷ body_here i)
          ∙ ap (λ t. decimal_text (length (take size body)) ++ 58 ∷ t) (cut_at body size fits),
      λ comma. other (sym byte_here ∙ comma),
    )

abbrev outcome : Bool → Bool → ℕ → ℕ → Result (Span × ℕ) NetFault
outcome a b start size = if a then (if b then Ok (record { start = start; len = size }, start + size + 1) else Err NoComma) else Err Short

closed_first : (bytes : List ℕ) (at size : ℕ) (fault : NetFault) (a b : Bool) → IsAnnounced (drop at bytes) size
    → (get_or bytes (at + digit_count (drop at bytes) + 1 - 1) 0 == 58 && nat_lt (at + digit_count (drop at bytes) + 1 + size) (length bytes)) ≡ a
    → (get_or bytes (at + digit_count (drop at bytes) + 1 + size) 0 == 44) ≡ b
    → outcome a b (at + digit_count (drop at bytes) + 1) size ≡ Err fault → IsFirst (drop at bytes) fault
closed_first bytes at size fault false b said first second e =
    let is : Short ≡ fault = cc in
    let limit : size < 2 ^ 64 = said.small in
    subst (IsFirst (drop at bytes)) is
    (inr (size, drop (digit_count (drop at bytes)) (drop at bytes), announced_begins (drop at bytes) size said, limit, cut_short bytes at size first))
closed_first bytes at size fault true true said first second e = absurd (cc)
closed_first bytes at size fault true false said first second e =
    let is : NoComma ≡ fault = cc in
    subst (IsFirst (drop at bytes)) is
    (other_byte bytes at (at + digit_count (drop at bytes) + 1) size refl said (equal_is _ _ (first_of_both _ _ first))
    (below_is _ _ (second_of_both (get_or bytes (at + digit_count (drop at bytes) + 1 - 1) 0 == 58) _ first)) (unequal_is _ _ second))

-- ---- both

fault_parts : (bytes : List ℕ) (at : ℕ) (fault : NetFault) (said : Result ℕ NetFault) → announced (drop at bytes) ≡ said
    → closed bytes (at + digit_count (drop at bytes) + 1) said ≡ Err fault → IsFirst (drop at bytes) fault
fault_parts bytes at fault (Err met) says e =
    let is : met ≡ fault = cc in subst (IsFirst (drop at bytes)) is (announcement_first (drop at bytes) met says)
fault_parts bytes at fault (Ok size) says e =
    let start = at + digit_count (drop at bytes) + 1 in
    closed_first bytes at size fault (get_or bytes (start - 1) 0 == 58 && nat_lt (start + size) (length bytes)) (get_or bytes (start + size) 0 == 44)
    (announced_parts (drop at bytes) size says) refl refl e

fault_cases : (bytes : List ℕ) (at : ℕ) (r : Result (Span × ℕ) NetFault) → netstring_at bytes at ≡ r → IfErr r (IsFirst (drop at bytes))
fault_cases bytes at (Ok read) e = tt
fault_cases bytes at (Err fault) e =
    fault_parts bytes at fault (announced (drop at bytes)) refl (sym (netstring_at_by bytes at (digit_count (drop at bytes)) (announced (drop at bytes)) refl refl) ∙ e)

pub fault_is_first : (bytes : List ℕ) (at : ℕ) → IfErr (netstring_at bytes at) (IsFirst (drop at bytes))
fault_is_first bytes at = fault_cases bytes at (netstring_at bytes at) refl
