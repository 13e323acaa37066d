-- A string that is closed before a bracket, a colon or a comma has the same content as at the end of a text.
use Rattle.std.proofs.Common.{◌≡◌, ℕ, zero, suc, ◌<◌, Bool, true, false, cond, ◌&&◌, ◌==◌, List, [], ◌∷◌, ◌++◌, get_or, Option, Some, None, option_and_then, ◌⊎◌, inl, inr, refl, sym, ap, ap₂, ◌∙◌, arith}
use Rattle.std.proofs.lemmas.Bool.{true≢false, false≢true, eqb-true, and_parts, cases_Bool, and_right, cond-false}
use Rattle.std.specs.Char.{is_digit, encode_utf8}
use Rattle.json.specs.Text.{code_unit, short_escape, is_high_surrogate, is_low_surrogate, surrogate_pair, Within, plain, after_backslash, after_u, after_high, prepend, content}
use Rattle.json.specs.Lex.{Mode, in_string, in_escape, quote, backslash, operator, space, other, class}
use Rattle.json.specs.Word.{is_operator, is_space}
use Rattle.json_seams.specs.Modes.{next_mode, mode_after, is_outside}
use Rattle.json_seams.proofs.Operators.{apart, no_hex_digit}

-- ---- four digits

abbrev are_digits : ℕ → ℕ → ℕ → ℕ → Bool
are_digits a b c d = is_digit a 16 && is_digit b 16 && is_digit c 16 && is_digit d 16

no_unit : (a b c d : ℕ) → are_digits a b c d ≡ false → code_unit a b c d ≡ None
unfolding code_unit
no_unit a b c d e = cond-false (are_digits a b c d) _ None e

unit_digits : (a b c d u : ℕ) → code_unit a b c d ≡ Some u → are_digits a b c d ≡ true
unit_digits a b c d u e = go (cases_Bool (are_digits a b c d))
  where
    go : (are_digits a b c d ≡ true) ⊎ (are_digits a b c d ≡ false) → are_digits a b c d ≡ true
    go (inl t) = t
    go (inr f) = let same = sym (no_unit a b c d f) ∙ e in let never : ⊥ = cc in absurd never

-- one that is none, among four
second : (p q r : Bool) → (p && false && q && r) ≡ false
second true q r = refl
second false q r = refl

third : (p q r : Bool) → (p && q && false && r) ≡ false
third true true r = refl
third true false r = refl
third false q r = refl

fourth : (p q r : Bool) → (p && q && r && false) ≡ false
fourth true true true = refl
fourth true true false = refl
fourth true false r = refl
fourth false q r = refl

none_either : (b : Bool) (o : Option (List ℕ)) → o ≡ None → cond b o None ≡ None
none_either true o e = e
none_either false o e = refl

-- ---- an operator where digits are to stand

module _ (byte : ℕ) (ends : is_operator byte ≡ true) where
  operator_first : (b c d : ℕ) → code_unit byte b c d ≡ None
  operator_first b c d = no_unit byte b c d (ap (λ o. o && is_digit b 16 && is_digit c 16 && is_digit d 16) (no_hex_digit byte ends))

  operator_second : (a c d : ℕ) → code_unit a byte c d ≡ None
  operator_second a c d = no_unit a byte c d (ap (λ o. is_digit a 16 && o && is_digit c 16 && is_digit d 16) (no_hex_digit byte ends) ∙ second (is_digit a 16) (is_digit c 16) (is_digit d 16))

  operator_third : (a b d : ℕ) → code_unit a b byte d ≡ None
  operator_third a b d = no_unit a b byte d (ap (λ o. is_digit a 16 && is_digit b 16 && o && is_digit d 16) (no_hex_digit byte ends) ∙ third (is_digit a 16) (is_digit b 16) (is_digit d 16))

  operator_fourth : (a b c : ℕ) → code_unit a b c byte ≡ None
  operator_fourth a b c = no_unit a b c byte (ap (λ o. is_digit a 16 && is_digit b 16 && is_digit c 16 && o) (no_hex_digit byte ends) ∙ fourth (is_digit a 16) (is_digit b 16) (is_digit c 16))

  operator_in_unit : (i : ℕ) (t : List ℕ) → i < 4 → get_or t i 0 ≡ byte → content after_u t ≡ None
  unfolding content
  operator_in_unit i [] lt e = refl
  operator_in_unit i (a ∷ []) lt e = refl
  operator_in_unit i (a ∷ b ∷ []) lt e = refl
  operator_in_unit i (a ∷ b ∷ c ∷ []) lt e = refl
  operator_in_unit zero (a ∷ b ∷ c ∷ d ∷ t) lt e = ap (option_and_then _) (ap (λ x. code_unit x b c d) e ∙ operator_first b c d)
  operator_in_unit (suc zero) (a ∷ b ∷ c ∷ d ∷ t) lt e = ap (option_and_then _) (ap (λ x. code_unit a x c d) e ∙ operator_second a c d)
  operator_in_unit (suc (suc zero)) (a ∷ b ∷ c ∷ d ∷ t) lt e = ap (option_and_then _) (ap (λ x. code_unit a b x d) e ∙ operator_third a b d)
  operator_in_unit (suc (suc (suc zero))) (a ∷ b ∷ c ∷ d ∷ t) lt e = ap (option_and_then _) (ap (λ x. code_unit a b c x) e ∙ operator_fourth a b c)
  operator_in_unit (suc (suc (suc (suc i)))) (a ∷ b ∷ c ∷ d ∷ t) lt e = let never : ⊥ = omega arith in absurd never

  operator_in_pair : (high i : ℕ) (t : List ℕ) → i < 6 → get_or t i 0 ≡ byte → content (after_high high) t ≡ None
  unfolding content
  operator_in_pair high i [] lt e = refl
  operator_in_pair high i (s ∷ []) lt e = refl
  operator_in_pair high i (s ∷ u ∷ []) lt e = refl
  operator_in_pair high i (s ∷ u ∷ a ∷ []) lt e = refl
  operator_in_pair high i (s ∷ u ∷ a ∷ b ∷ []) lt e = refl
  operator_in_pair high i (s ∷ u ∷ a ∷ b ∷ c ∷ []) lt e = refl
  operator_in_pair high zero (s ∷ u ∷ a ∷ b ∷ c ∷ d ∷ t) lt e = cond-false ((s == 92) && (u == 117)) _ None (ap (λ x. (x == 92) && (u == 117)) e ∙ ap (λ b. b && (u == 117)) (apart is_operator byte 92 ends refl))
  operator_in_pair high (suc zero) (s ∷ u ∷ a ∷ b ∷ c ∷ d ∷ t) lt e = cond-false ((s == 92) && (u == 117)) _ None (and_right (s == 92) (u == 117) (ap (λ x. x == 117) e ∙ apart is_operator byte 117 ends refl))
  operator_in_pair high (suc (suc zero)) (s ∷ u ∷ a ∷ b ∷ c ∷ d ∷ t) lt e = none_either ((s == 92) && (u == 117)) _ (ap (option_and_then _) (ap (λ x. code_unit x b c d) e ∙ operator_first b c d))
  operator_in_pair high (suc (suc (suc zero))) (s ∷ u ∷ a ∷ b ∷ c ∷ d ∷ t) lt e = none_either ((s == 92) && (u == 117)) _ (ap (option_and_then _) (ap (λ x. code_unit a x c d) e ∙ operator_second a c d))
  operator_in_pair high (suc (suc (suc (suc zero)))) (s ∷ u ∷ a ∷ b ∷ c ∷ d ∷ t) lt e = none_either ((s == 92) && (u == 117)) _ (ap (option_and_then _) (ap (λ x. code_unit a b x d) e ∙ operator_third a b d))
  operator_in_pair high (suc (suc (suc (suc (suc zero))))) (s ∷ u ∷ a ∷ b ∷ c ∷ d ∷ t) lt e = none_either ((s == 92) && (u == 117)) _ (ap (option_and_then _) (ap (λ x. code_unit a b c x) e ∙ operator_fourth a b c))
  operator_in_pair high (suc (suc (suc (suc (suc (suc i)))))) (s ∷ u ∷ a ∷ b ∷ c ∷ d ∷ t) lt e = let never : ⊥ = omega arith in absurd never

-- ---- digits leave the mode as it is

neither : (q b o s : Bool) → q ≡ false → b ≡ false → next_mode in_string (cond q quote (cond b backslash (cond o operator (cond s space other)))) ≡ in_string
neither true b o s e f = absurd (true≢false e)
neither false true o s e f = absurd (true≢false f)
neither false false true s e f = refl
neither false false false true e f = refl
neither false false false false e f = refl

digit_stays : (x : ℕ) → is_digit x 16 ≡ true → next_mode in_string (class x) ≡ in_string
digit_stays x h = neither (x == 34) (x == 92) (is_operator x) (is_space x) (apart (λ y. is_digit y 16) x 34 h refl) (apart (λ y. is_digit y 16) x 92 h refl)

abbrev behind_four : Mode → ℕ → ℕ → ℕ → ℕ → Mode
behind_four m a b c d = next_mode (next_mode (next_mode (next_mode m (class a)) (class b)) (class c)) (class d)

four_stay : (a b c d : ℕ) → are_digits a b c d ≡ true → behind_four in_string a b c d ≡ in_string
four_stay a b c d h =
    let abc = and_parts _ _ h in
    let ab = and_parts _ _ abc.0 in
    let first = and_parts _ _ ab.0 in
    ap (λ m. next_mode (next_mode (next_mode m (class b)) (class c)) (class d)) (digit_stays a first.0)
    ∙ ap (λ m. next_mode (next_mode m (class c)) (class d)) (digit_stays b first.1) ∙ ap (λ m. next_mode m (class d)) (digit_stays c ab.1)
    ∙ digit_stays d abc.1

-- ---- the content

module _ (byte : ℕ) (ends : is_operator byte ≡ true) (rest : List ℕ) where
  abbrev more : List ℕ → List ℕ
  more t = t ++ byte ∷ rest

  abbrev IsClosed : Mode → List ℕ → Type 0
  IsClosed m t = is_outside (mode_after m t) ≡ true

  abbrev mode_of_string : Within → Mode
  mode_of_string plain = in_string
  mode_of_string after_backslash = in_escape
  mode_of_string after_u = in_string
  mode_of_string (after_high h) = in_string

  plain_step : (t : List ℕ) (l q b o s : Bool) (f : Option (List ℕ) → Option (List ℕ)) (x y : Option (List ℕ))
      → (IsClosed in_escape t → content after_backslash (more t) ≡ x) → (IsClosed in_string t → content plain (more t) ≡ y)
      → IsClosed (next_mode in_string (cond q quote (cond b backslash (cond o operator (cond s space other))))) t
      → cond q (Some []) (cond b (content after_backslash (more t)) (cond l None (f (content plain (more t))))) ≡ cond q (Some []) (cond b x (cond l None (f y)))
  plain_step t l true b o s f x y escaped passed h = refl
  plain_step t l false true o s f x y escaped passed h = escaped h
  plain_step t l false false true s f x y escaped passed h = ap (λ p. cond l None (f p)) (passed h)
  plain_step t l false false false true f x y escaped passed h = ap (λ p. cond l None (f p)) (passed h)
  plain_step t l false false false false f x y escaped passed h = ap (λ p. cond l None (f p)) (passed h)

  unit_step : (a b c d : ℕ) (m : Mode) (t : List ℕ) (f g : ℕ → Option (List ℕ)) → m ≡ in_string → (IsClosed in_string t → (u : ℕ) → f u ≡ g u) → IsClosed (behind_four m a b c d) t
      → option_and_then f (code_unit a b c d) ≡ option_and_then g (code_unit a b c d)
  unit_step a b c d m t f g begun same h = go (code_unit a b c d) refl
    where
      go : (o : Option ℕ) → code_unit a b c d ≡ o → option_and_then f o ≡ option_and_then g o
      go None e = refl
      go (Some u) e =
          let kept = ap (λ n. behind_four n a b c d) begun ∙ four_stay a b c d (unit_digits a b c d u e) in
          same (ap (λ n. is_outside (mode_after n t)) (sym kept) ∙ h) u

  pair_step : (s u : Bool) (x y : Option (List ℕ)) → (s ≡ true → x ≡ y) → cond (s && u) x None ≡ cond (s && u) y None
  pair_step true true x y f = f refl
  pair_step true false x y f = refl
  pair_step false u x y f = refl

  escaped_pair : (s u : ℕ) → (s == 92) ≡ true → next_mode (next_mode in_string (class s)) (class u) ≡ in_string
  escaped_pair s u e = ap (λ x. next_mode (next_mode in_string (class x)) (class u)) (eqb-true s 92 e)

  pub content_same : (w : Within) (t : List ℕ) → IsClosed (mode_of_string w) t → content w (more t) ≡ content w t
  unfolding content
  content_same plain [] h = absurd (false≢true h)
  content_same plain (x ∷ t) h =
      plain_step t _ (x == 34) (x == 92) (is_operator x) (is_space x) (prepend (x ∷ [])) (content after_backslash t) (content plain t) (content_same after_backslash t) (content_same plain t) h
  content_same after_backslash [] h = absurd (false≢true h)
  content_same after_backslash (x ∷ t) h =
      ap₂ (λ u p. cond (x == 117) u (option_and_then (λ c. prepend (c ∷ []) p) (short_escape x))) (content_same after_u t h) (content_same plain t h)
  content_same after_u [] h = absurd (false≢true h)
  content_same after_u (a ∷ []) h = operator_in_unit byte ends 1 (a ∷ byte ∷ rest) (omega arith) refl
  content_same after_u (a ∷ b ∷ []) h = operator_in_unit byte ends 2 (a ∷ b ∷ byte ∷ rest) (omega arith) refl
  content_same after_u (a ∷ b ∷ c ∷ []) h = operator_in_unit byte ends 3 (a ∷ b ∷ c ∷ byte ∷ rest) (omega arith) refl
  content_same after_u (a ∷ b ∷ c ∷ d ∷ t) h =
      unit_step a b c d in_string t _ _ refl
      (λ closed u. ap₂ (λ p q. cond (is_high_surrogate u) p (cond (is_low_surrogate u) None (prepend (encode_utf8 u) q))) (content_same (after_high u) t closed) (content_same plain t closed)) h
  content_same (after_high high) [] h = absurd (false≢true h)
  content_same (after_high high) (s ∷ []) h = operator_in_pair byte ends high 1 (s ∷ byte ∷ rest) (omega arith) refl
  content_same (after_high high) (s ∷ u ∷ []) h = operator_in_pair byte ends high 2 (s ∷ u ∷ byte ∷ rest) (omega arith) refl
  content_same (after_high high) (s ∷ u ∷ a ∷ []) h = operator_in_pair byte ends high 3 (s ∷ u ∷ a ∷ byte ∷ rest) (omega arith) refl
  content_same (after_high high) (s ∷ u ∷ a ∷ b ∷ []) h = operator_in_pair byte ends high 4 (s ∷ u ∷ a ∷ b ∷ byte ∷ rest) (omega arith) refl
  content_same (after_high high) (s ∷ u ∷ a ∷ b ∷ c ∷ []) h = operator_in_pair byte ends high 5 (s ∷ u ∷ a ∷ b ∷ c ∷ byte ∷ rest) (omega arith) refl
  content_same (after_high high) (s ∷ u ∷ a ∷ b ∷ c ∷ d ∷ t) h =
      pair_step (s == 92) (u == 117) _ _
      (λ e. unit_step a b c d (next_mode (next_mode in_string (class s)) (class u)) t _ _ (escaped_pair s u e)
      (λ closed l. ap (λ p. cond (is_low_surrogate l) (prepend (encode_utf8 (surrogate_pair high l)) p) None) (content_same plain t closed)) h)
