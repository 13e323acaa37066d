-- A word that stands before a bracket, a colon or a comma is the same as at the end of a text.
use Rattle.std.proofs.Common.{◌≡◌, ℕ, ◌+◌, ◌-◌, ◌≤◌, Bool, true, false, cond, ◌&&◌, ◌||◌, ◌==◌, List, [], ◌∷◌, ◌++◌, length, take, drop, Option, Some, None, option_map, option_and_then, refl, sym, ap, ap₂, ◌∙◌, arith, length-append}
use Rattle.std.proofs.lemmas.Bool.{true≢false, false≢true}
use Rattle.std.proofs.lemmas.List.{drop-append-le, take-append-le}
use Rattle.std.proofs.lemmas.List.Sums.{prefix_len-le-length}
use Rattle.std.specs.List.{prefix_len, starts_with}
use Rattle.std.specs.Prelude.{nat_eq}
use Rattle.std.specs.Char.{is_ascii_digit}
use Rattle.json.specs.Token.{Token, number, boolean, null, bad}
use Rattle.json.specs.Word.{is_operator, is_space, head, ends_word, after_digits, after_minus, after_sign, after_whole, after_fraction, after_exponent, after_number, number_before, literal, word}
use Rattle.json.specs.Ascii as ascii
use Rattle.json_seams.proofs.Operators.{apart, apart_from, no_digit}

module _ (byte : ℕ) (ends : is_operator byte ≡ true) (rest : List ℕ) where
  -- the text before that byte and the rest
  abbrev more : List ℕ → List ℕ
  more t = t ++ byte ∷ rest

  ends_same : (t : List ℕ) → ends_word (more t) ≡ ends_word t
  ends_same [] = ap (λ o. o || is_space byte) ends
  ends_same (x ∷ t) = refl

  -- ---- numbers

  -- what a part of a number leaves is followed by that byte and the rest
  abbrev Follows : Option (List ℕ) → Option (List ℕ) → Type 0
  Follows o p = p ≡ option_map more o

  head_same : (k : ℕ) (t : List ℕ) → is_operator k ≡ false → (32 == k) ≡ false → (head (more t) == k) ≡ (head t == k)
  head_same k [] other blank = apart is_operator byte k ends other ∙ sym blank
  head_same k (x ∷ t) other blank = refl

  one : (k : ℕ) (t : List ℕ) → (32 == k) ≡ false → (head t == k) ≡ true → drop 1 (more t) ≡ more (drop 1 t)
  one k [] blank found = absurd (false≢true (sym blank ∙ found))
  one k (x ∷ t) blank found = refl

  skip : (b : Bool) (t : List ℕ) → (b ≡ true → drop 1 (more t) ≡ more (drop 1 t)) → cond b (drop 1 (more t)) (more t) ≡ more (cond b (drop 1 t) t)
  skip true t h = h refl
  skip false t h = refl

  choose : (b : Bool) (x y p q : Option (List ℕ)) → (b ≡ true → Follows x p) → Follows y q → Follows (cond b x y) (cond b p q)
  choose true x y p q f g = f refl
  choose false x y p q f g = g

  then : (f : List ℕ → Option (List ℕ)) (o p : Option (List ℕ)) → ((t : List ℕ) → Follows (f t) (f (more t))) → Follows o p → Follows (option_and_then f o) (option_and_then f p)
  then f None p g e = ap (option_and_then f) e
  then f (Some t) p g e = ap (option_and_then f) e ∙ g t

  run_same : (t : List ℕ) → prefix_len is_ascii_digit (more t) ≡ prefix_len is_ascii_digit t
  run_same [] = ap (λ b. cond b (1 + prefix_len is_ascii_digit rest) 0) (no_digit byte ends)
  run_same (x ∷ t) = ap (λ n. cond (is_ascii_digit x) (1 + n) 0) (run_same t)

  digits : (t : List ℕ) → Follows (after_digits t) (after_digits (more t))
  digits t =
      let n = prefix_len is_ascii_digit t in
      ap (λ m. cond (m == 0) None (Some (drop m (more t)))) (run_same t)
      ∙ choose (n == 0) None (Some (drop n t)) None _ (λ e. refl) (ap Some (drop-append-le n t (byte ∷ rest) (prefix_len-le-length is_ascii_digit t)))

  minus : (t : List ℕ) → after_minus (more t) ≡ more (after_minus t)
  minus t = ap (λ b. cond b (drop 1 (more t)) (more t)) (head_same 45 t refl refl) ∙ skip (head t == 45) t (one 45 t refl)

  either : (j k : ℕ) (t : List ℕ) → (32 == j) ≡ false → (32 == k) ≡ false → ((head t == j) || (head t == k)) ≡ true → drop 1 (more t) ≡ more (drop 1 t)
  either j k [] first second found = absurd (false≢true (sym (ap₂ (λ a b. a || b) first second) ∙ found))
  either j k (x ∷ t) first second found = refl

  sign : (t : List ℕ) → after_sign (more t) ≡ more (after_sign t)
  sign t =
      ap₂ (λ a b. cond (a || b) (drop 1 (more t)) (more t)) (head_same 45 t refl refl) (head_same 43 t refl refl)
      ∙ skip ((head t == 45) || (head t == 43)) t (either 45 43 t refl refl)

  whole : (t : List ℕ) → Follows (after_whole t) (after_whole (more t))
  whole t =
      ap (λ b. cond b (Some (drop 1 (more t))) (after_digits (more t))) (head_same 48 t refl refl)
      ∙ choose (head t == 48) (Some (drop 1 t)) (after_digits t) _ _ (λ e. ap Some (one 48 t refl e)) (digits t)

  fraction : (t : List ℕ) → Follows (after_fraction t) (after_fraction (more t))
  fraction t =
      ap (λ b. cond b (after_digits (drop 1 (more t))) (Some (more t))) (head_same 46 t refl refl)
      ∙ choose (head t == 46) (after_digits (drop 1 t)) (Some t) _ _ (λ e. ap after_digits (one 46 t refl e) ∙ digits (drop 1 t)) refl

  signed : (t : List ℕ) → Follows (after_digits (after_sign t)) (after_digits (after_sign (more t)))
  signed t = ap after_digits (sign t) ∙ digits (after_sign t)

  exponent : (t : List ℕ) → Follows (after_exponent t) (after_exponent (more t))
  exponent t =
      ap₂ (λ a b. cond (a || b) (after_digits (after_sign (drop 1 (more t)))) (Some (more t))) (head_same 101 t refl refl) (head_same 69 t refl refl)
      ∙ choose ((head t == 101) || (head t == 69)) (after_digits (after_sign (drop 1 t))) (Some t) _ _
      (λ e. ap (λ u. after_digits (after_sign u)) (either 101 69 t refl refl e) ∙ signed (drop 1 t)) refl

  numeral : (t : List ℕ) → Follows (after_number t) (after_number (more t))
  unfolding after_number
  numeral t =
      then after_exponent (option_and_then after_fraction (after_whole (after_minus t))) _ exponent
      (then after_fraction (after_whole (after_minus t)) _ fraction (ap after_whole (minus t) ∙ whole (after_minus t)))

  number_same : (t : List ℕ) (o p : Option (List ℕ)) → Follows o p → number_before (more t) p ≡ number_before t o
  number_same t None p e = ap (number_before (more t)) e
  number_same t (Some r) p e =
      let long : length (more t) - length (more r) ≡ length t - length r = omega (arith, length-append t (byte ∷ rest), length-append r (byte ∷ rest)) in
      let within : length t - length r ≤ length t = omega arith in
      ap (number_before (more t)) e
      ∙ ap₂ (λ b s. cond b (number s) bad) (ends_same r) (ap (λ n. take n (more t)) long ∙ take-append-le (length t - length r) t (byte ∷ rest) within)

  -- ---- literals

  abbrev is_before_end : List ℕ → List ℕ → Bool
  is_before_end name t = starts_with nat_eq t name && ends_word (drop (length name) t)

  abbrev HasNoOperator : List ℕ → Type 0
  HasNoOperator [] = Unit {0}
  HasNoOperator (x ∷ xs) = (is_operator x ≡ false) × HasNoOperator xs

  both : (a p q e f : Bool) → (p && e) ≡ (q && f) → ((a && p) && e) ≡ ((a && q) && f)
  both true p q e f h = h
  both false p q e f h = refl

  neither : (a p e : Bool) → a ≡ false → ((a && p) && e) ≡ false
  neither true p e h = absurd (true≢false h)
  neither false p e h = refl

  name_same : (name t : List ℕ) → HasNoOperator name → is_before_end name (more t) ≡ is_before_end name t
  name_same [] t h = ends_same t
  name_same (x ∷ name) [] h = neither (x == byte) _ _ (apart_from is_operator byte x ends h.0)
  name_same (x ∷ name) (y ∷ t) h = both (x == y) _ _ _ _ (name_same name t h.1)

  literal_same : (name t : List ℕ) (token : Token) → HasNoOperator name → literal name token (more t) ≡ literal name token t
  literal_same name t token h = ap (λ b. cond b token bad) (name_same name t h)

  pub word_same : (x : ℕ) (t : List ℕ) → word (x ∷ more t) ≡ word (x ∷ t)
  unfolding word
  word_same x t =
      let whole_text = x ∷ t in
      let e = literal_same ascii.true_text whole_text (boolean true) (refl, (refl, (refl, (refl, tt)))) in
      let f = literal_same ascii.false_text whole_text (boolean false) (refl, (refl, (refl, (refl, (refl, tt))))) in
      let n = literal_same ascii.null_text whole_text null (refl, (refl, (refl, (refl, tt)))) in
      let o = number_same whole_text (after_number whole_text) (after_number (more whole_text)) (numeral whole_text) in
      ap₂ (λ a b. cond (x == 116) a b) e (ap₂ (λ a b. cond (x == 102) a b) f (ap₂ (λ a b. cond (x == 110) a b) n o))
