-- The number of bytes that a text announces, case by case.
use Rattle.std.proofs.Common.{◌≡◌, ℕ, suc, ◌+◌, ◌^◌, ◌<◌, ◌≤◌, List, [], ◌∷◌, ◌++◌, length, take, get_or, Bool, true, false, cond, refl, sym, ap, subst, ◌∙◌, arith}
use Rattle.std.specs.Prelude.{◌==◌, ◌≢◌, ◌&&◌, nat_lt, if◌then◌else◌, Result, Ok, Err}
use Rattle.std.specs.List.{list_all}
use Rattle.std.specs.Char.{is_ascii_digit, digit_value}
use Rattle.std.specs.Str.Parse.{AllDigits}
use Rattle.std.proofs.lemmas.Bool.Decides.{nat_tests}
use Rattle.tag_hash.specs.NetstringAt.{announced, digit_count, first_value}
use Rattle.tag_hash.specs.declared.netstrings.NetFault.{NetFault}
use Rattle.tag_hash.specs.declared.netstrings.NetFault.TheVariants.{NotDigits, LeadingZero, Short, TooLong}
use Rattle.tag_hash.proofs.Comparisons.{true_or_false, equal, unequal, equal_is, unequal_is, below, not_below, below_is, not_below_is, both, not_first, not_second}

-- the announcement of a value: it may be too long
abbrev pub in_64_bits : ℕ → Result ℕ NetFault
in_64_bits n = if nat_lt n (2 ^ 64) then Ok n else Err TooLong

abbrev pub by_tests : Bool → Bool → Bool → Result ℕ NetFault → Result ℕ NetFault
by_tests empty bare led value = cond empty (Err Short) (cond bare (Err NotDigits) (cond led (Err LeadingZero) value))

abbrev pub led : List ℕ → Bool
led text = get_or text 0 0 == 48 && nat_lt 1 (digit_count text)

pub announced_by : (text : List ℕ) (a b c : Bool) → (length text == 0) ≡ a → (digit_count text == 0) ≡ b → led text ≡ c → announced text ≡ by_tests a b c (in_64_bits (first_value text))
unfolding announced
announced_by text a b c first second third i = by_tests (first i) (second i) (third i) (in_64_bits (first_value text))

pub announced_empty : (text : List ℕ) → length text ≡ 0 → announced text ≡ Err Short
announced_empty text empty = announced_by text true (digit_count text == 0) (led text) (equal _ _ empty) refl refl

pub announced_bare : (text : List ℕ) → length text ≢ 0 → digit_count text ≡ 0 → announced text ≡ Err NotDigits
announced_bare text some bare = announced_by text false true (led text) (unequal _ _ some) (equal _ _ bare) refl

pub announced_led : (text : List ℕ) → length text ≢ 0 → digit_count text ≢ 0 → get_or text 0 0 ≡ 48 → 1 < digit_count text → announced text ≡ Err LeadingZero
announced_led text some digits zero more = announced_by text false false true (unequal _ _ some) (unequal _ _ digits) (both _ _ (equal _ _ zero) (below _ _ more))

not_led : (text : List ℕ) → (get_or text 0 0 ≡ 48 → digit_count text ≤ 1) → led text ≡ false
not_led text alone = true_or_false (get_or text 0 0 == 48) (led text ≡ false)
    (λ zero. not_second (get_or text 0 0 == 48) (nat_lt 1 (digit_count text)) (not_below _ _ (alone (equal_is _ _ zero))))
    (λ other. not_first (get_or text 0 0 == 48) (nat_lt 1 (digit_count text)) other)

pub announced_value : (text : List ℕ) → length text ≢ 0 → digit_count text ≢ 0 → (get_or text 0 0 ≡ 48 → digit_count text ≤ 1) → announced text ≡ in_64_bits (first_value text)
announced_value text some digits alone = announced_by text false false false (unequal _ _ some) (unequal _ _ digits) (not_led text alone)

pub in_64_bits-below : (n : ℕ) → n < 2 ^ 64 → in_64_bits n ≡ Ok n
in_64_bits-below n small = let test : nat_lt n (2 ^ 64) ≡ true = below n (2 ^ 64) small in rw test

-- what an announced number is
pub record IsAnnounced (text : List ℕ) (size : ℕ) : Type 0 where
  pub digits : 0 < digit_count text
  pub alone : get_or text 0 0 ≡ 48 → digit_count text ≤ 1
  pub value : first_value text ≡ size
  pub small : size < 2 ^ 64

ok_parts : (text : List ℕ) (size : ℕ) (a b c d : Bool) → (length text == 0) ≡ a → (digit_count text == 0) ≡ b → led text ≡ c → nat_lt (first_value text) (2 ^ 64) ≡ d
    → by_tests a b c (cond d (Ok (first_value text)) (Err TooLong)) ≡ Ok size → IsAnnounced text size
ok_parts text size true b c d first second third fourth e = absurd (cc)
ok_parts text size false true c d first second third fourth e = absurd (cc)
ok_parts text size false false true d first second third fourth e = absurd (cc)
ok_parts text size false false false false first second third fourth e = absurd (cc)
ok_parts text size false false false true first second third fourth e =
    let same : first_value text ≡ size = cc in
    let some : digit_count text ≢ 0 = unequal_is _ _ second in
    record {
      digits = omega arith;
      alone = λ zero. true_or_false (nat_lt 1 (digit_count text)) _ (λ more. absurd (let wrong : led text ≡ true = both _ _ (equal _ _ zero) more in cc)) (λ few. not_below_is _ _ few);
      value = same;
      small = subst (λ n. n < 2 ^ 64) same (below_is _ _ fourth);
    }

pub announced_parts : (text : List ℕ) (size : ℕ) → announced text ≡ Ok size → IsAnnounced text size
announced_parts text size e =
    ok_parts text size (length text == 0) (digit_count text == 0) (led text) (nat_lt (first_value text) (2 ^ 64)) refl refl refl refl
    (sym (announced_by text (length text == 0) (digit_count text == 0) (led text) refl refl refl) ∙ e)

-- ---- digits

digit_passes : (c : ℕ) → digit_value c < 10 → is_ascii_digit c ≡ true
digit_passes c small = grind (arith, nat_tests)

digit_is : (c : ℕ) → is_ascii_digit c ≡ true → digit_value c < 10
digit_is c passes = grind (arith, nat_tests)

-- the digits in front of a colon are counted
pub digit_count-colon : (ds t : List ℕ) → AllDigits 10 ds → digit_count (ds ++ 58 ∷ t) ≡ length ds
digit_count-colon [] t all = refl
digit_count-colon (d ∷ ds) t all =
    ap (λ b. cond b (1 + digit_count (ds ++ 58 ∷ t)) 0) (digit_passes d all.0) ∙ ap (λ n. 1 + n) (digit_count-colon ds t all.1) ∙ one_more (length ds)
  where
    one_more : (n : ℕ) → 1 + n ≡ suc n
    one_more n = omega arith

-- there are no more of them than bytes
pub digits_within : (text : List ℕ) → digit_count text ≤ length text
digits_within [] = omega arith
digits_within (c ∷ text) = true_or_false (is_ascii_digit c) _
    (λ passes. let e : digit_count (c ∷ text) ≡ 1 + digit_count text = ap (λ b. cond b (1 + digit_count text) 0) passes in let h = digits_within text in omega arith)
    (λ fails. let e : digit_count (c ∷ text) ≡ 0 = ap (λ b. cond b (1 + digit_count text) 0) fails in omega arith)

-- and they are digits
pub first_digits : (text : List ℕ) → AllDigits 10 (take (digit_count text) text)
first_digits [] = tt
first_digits (c ∷ text) = true_or_false (is_ascii_digit c) _
    (λ passes. subst (λ b. AllDigits 10 (take (cond b (1 + digit_count text) 0) (c ∷ text))) (sym passes) (counted (digit_count text) (digit_is c passes) (first_digits text)))
    (λ fails. subst (λ b. AllDigits 10 (take (cond b (1 + digit_count text) 0) (c ∷ text))) (sym fails) tt)
  where
    counted : (n : ℕ) → digit_value c < 10 → AllDigits 10 (take n text) → AllDigits 10 (take (1 + n) (c ∷ text))
    counted n digit more = subst (λ m. AllDigits 10 (take m (c ∷ text))) (let e : suc n ≡ 1 + n = omega arith in e) (digit, more)

pub first_digits_pass : (text : List ℕ) → list_all is_ascii_digit (take (digit_count text) text) ≡ true
first_digits_pass [] = refl
first_digits_pass (c ∷ text) = true_or_false (is_ascii_digit c) _
    (λ passes. subst (λ b. list_all is_ascii_digit (take (cond b (1 + digit_count text) 0) (c ∷ text)) ≡ true) (sym passes) (counted (digit_count text) passes (first_digits_pass text)))
    (λ fails. subst (λ b. list_all is_ascii_digit (take (cond b (1 + digit_count text) 0) (c ∷ text)) ≡ true) (sym fails) refl)
  where
    counted : (n : ℕ) → is_ascii_digit c ≡ true → list_all is_ascii_digit (take n text) ≡ true → list_all is_ascii_digit (take (1 + n) (c ∷ text)) ≡ true
    counted n passes more = subst (λ m. list_all is_ascii_digit (take m (c ∷ text)) ≡ true) (let e : suc n ≡ 1 + n = omega arith in e) (both _ _ passes more)
