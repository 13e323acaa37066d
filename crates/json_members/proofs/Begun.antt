-- The first token of a text that opens an object.
use Rattle.std.proofs.Common.{◌≡◌, ℕ, Bool, true, false, cond, ◌||◌, ◌==◌, List, [], ◌∷◌, ◌++◌, Option, Some, None, ◌↔◌, refl, sym, ap, ◌∙◌}
use Rattle.std.proofs.lemmas.Bool.{true≢false, false≢true, eqb-true}
use Rattle.json.specs.Token.{Token, begin_object, end_object, begin_array, end_array, key, string, number, boolean, null, bad}
use Rattle.json.specs.Text.{content, plain}
use Rattle.json.specs.Word.{is_operator, is_space, head, ends_word, word, number_before, after_number}
use Rattle.json.specs.Lex.{Lexeme, token, comma, colon, between, in_word, in_string, Class, quote, backslash, operator, space, other, class, operator_lexeme, string_token, lex_byte, lex, Place, fresh, begins_colon, place_token, punctuate, tokens}
use Rattle.json_members.specs.MemberCuts.{first_token, opens_object, back_object}

abbrev opens : Token → Bool
opens begin_object = true
opens end_object = false
opens begin_array = false
opens end_array = false
opens (key s) = false
opens (string s) = false
opens (number s) = false
opens (boolean b) = false
opens null = false
opens bad = false

abbrev opens_first : List Token → Bool
opens_first [] = false
opens_first (t ∷ ts) = opens t

abbrev opens_lexeme : Lexeme → Bool
opens_lexeme (token t) = opens t
opens_lexeme comma = false
opens_lexeme colon = false

placed : (t : Token) (b : Bool) (k : Place → List Token) → opens_first (place_token fresh t b k) ≡ opens t
placed begin_object b k = refl
placed end_object b k = refl
placed begin_array b k = refl
placed end_array b k = refl
placed (key s) b k = refl
placed (string s) true k = refl
placed (string s) false k = refl
placed (number s) b k = refl
placed (boolean v) b k = refl
placed null b k = refl
placed bad b k = refl

first_placed : (l : Lexeme) (ls : List Lexeme) → opens_first (punctuate fresh (l ∷ ls)) ≡ opens_lexeme l
unfolding punctuate
first_placed (token t) ls = placed t (begins_colon ls) (λ n. punctuate n ls)
first_placed comma ls = refl
first_placed colon ls = refl

-- ---- the first lexeme

operator_opens : (x : ℕ) → opens_lexeme (operator_lexeme x) ≡ (x == 123)
operator_opens x = go (x == 123) (x == 125) (x == 91) (x == 93) (x == 44)
  where
    go : (a b c d e : Bool)
        → opens_lexeme (cond a (token begin_object) (cond b (token end_object) (cond c (token begin_array) (cond d (token end_array) (cond e comma colon))))) ≡ a
    go true b c d e = refl
    go false true c d e = refl
    go false false true d e = refl
    go false false false true e = refl
    go false false false false true = refl
    go false false false false false = refl

string_opens : (o : Option (List ℕ)) → opens (string_token o) ≡ false
string_opens None = refl
string_opens (Some s) = refl

either_opens : (b : Bool) (t u : Token) → opens t ≡ false → opens u ≡ false → opens (cond b t u) ≡ false
either_opens true t u e f = e
either_opens false t u e f = f

number_opens : (t : List ℕ) (o : Option (List ℕ)) → opens (number_before t o) ≡ false
number_opens t None = refl
number_opens t (Some rest) = either_opens (ends_word rest) _ bad refl refl

word_opens : (t : List ℕ) → opens (word t) ≡ false
unfolding word
word_opens t =
    either_opens (head t == 116) _ _ (either_opens _ (boolean true) bad refl refl)
    (either_opens (head t == 102) _ _ (either_opens _ (boolean false) bad refl refl)
    (either_opens (head t == 110) _ _ (either_opens _ null bad refl refl) (number_opens t (after_number t))))

-- ---- the classes

abbrev choice : ℕ → Bool → Bool
choice x later = cond (is_space x) later (x == 123)

is_literal : (later : Bool) (k x : ℕ) → choice k later ≡ false → (x == k) ≡ true → choice x later ≡ false
is_literal later k x e h = ap (λ y. choice y later) (eqb-true x k h) ∙ e

no_space : (x : ℕ) → is_operator x ≡ true → is_space x ≡ false
no_space x h =
    go (x == 123) (x == 125) (x == 91) (x == 93) (x == 58) (x == 44) (this 123 refl) (this 125 refl) (this 91 refl) (this 93 refl) (this 58 refl) (this 44 refl) h
  where
    this : (k : ℕ) → is_space k ≡ false → (x == k) ≡ true → is_space x ≡ false
    this k e is = ap is_space (eqb-true x k is) ∙ e

    Then : Bool → Type 0
    Then b = b ≡ true → is_space x ≡ false

    go : (a b c d e f : Bool) → Then a → Then b → Then c → Then d → Then e → Then f → (a || b || c || d || e || f) ≡ true → is_space x ≡ false
    go true b c d e f g i j k l m h = g refl
    go false true c d e f g i j k l m h = i refl
    go false false true d e f g i j k l m h = j refl
    go false false false true e f g i j k l m h = k refl
    go false false false false true f g i j k l m h = l refl
    go false false false false false true g i j k l m h = m refl
    go false false false false false false g i j k l m h = absurd (false≢true h)

no_brace : (x : ℕ) → is_operator x ≡ false → (x == 123) ≡ false
no_brace x h = go (x == 123) (x == 125) (x == 91) (x == 93) (x == 58) (x == 44) h
  where
    go : (a b c d e f : Bool) → (a || b || c || d || e || f) ≡ false → a ≡ false
    go true b c d e f h = absurd (true≢false h)
    go false b c d e f h = refl

-- what a byte of a class comes to
abbrev MeansIn : ℕ → Bool → Class → Type 0
MeansIn x later quote = choice x later ≡ false
MeansIn x later backslash = choice x later ≡ false
MeansIn x later operator = choice x later ≡ (x == 123)
MeansIn x later space = choice x later ≡ later
MeansIn x later other = choice x later ≡ false

means : (x : ℕ) (later : Bool) → MeansIn x later (class x)
means x later =
    go (x == 34) (x == 92) (is_operator x) (is_space x) (is_literal later 34 x refl) (is_literal later 92 x refl)
    (λ e. ap (λ s. cond s later (x == 123)) (no_space x e)) (λ e. ap (λ s. cond s later (x == 123)) e) (λ o e. ap (λ s. cond s later (x == 123)) e ∙ no_brace x o) refl refl
  where
    go : (q b o s : Bool) → (q ≡ true → choice x later ≡ false) → (b ≡ true → choice x later ≡ false) → (o ≡ true → choice x later ≡ (x == 123)) → (s ≡ true → choice x later ≡ later)
        → (o ≡ false → s ≡ false → choice x later ≡ false) → is_operator x ≡ o → is_space x ≡ s → MeansIn x later (cond q quote (cond b backslash (cond o operator (cond s space other))))
    go true b o s f g i j k l m = f refl
    go false true o s f g i j k l m = g refl
    go false false true s f g i j k l m = i refl
    go false false false true f g i j k l m = j refl
    go false false false false f g i j k l m = k refl refl

step : (c : Class) (x : ℕ) (xs : List ℕ) (later : Bool) → MeansIn x later c → opens_first (punctuate fresh (lex between xs)) ≡ later
    → opens_first (punctuate fresh (lex_byte between c x xs (λ n. lex n xs))) ≡ choice x later
step quote x xs later e go = first_placed _ (lex in_string xs) ∙ string_opens (content plain xs) ∙ sym e
step backslash x xs later e go = first_placed _ (lex in_word xs) ∙ sym e
step operator x xs later e go = first_placed _ (lex between xs) ∙ operator_opens x ∙ sym e
step space x xs later e go = go ∙ sym e
step other x xs later e go = first_placed _ (lex in_word xs) ∙ word_opens (x ∷ xs) ∙ sym e

opens_same : (text : List ℕ) → opens_first (tokens text) ≡ opens_object text
unfolding lex punctuate opens_object
opens_same [] = refl
opens_same (x ∷ xs) = step (class x) x xs (opens_object xs) (means x (opens_object xs)) (opens_same xs)

is_first : (ts : List Token) → opens_first ts ≡ true → first_token ts ≡ Some begin_object
is_first [] h = absurd (false≢true h)
is_first (begin_object ∷ ts) h = refl
is_first (end_object ∷ ts) h = absurd (false≢true h)
is_first (begin_array ∷ ts) h = absurd (false≢true h)
is_first (end_array ∷ ts) h = absurd (false≢true h)
is_first (key s ∷ ts) h = absurd (false≢true h)
is_first (string s ∷ ts) h = absurd (false≢true h)
is_first (number s ∷ ts) h = absurd (false≢true h)
is_first (boolean b ∷ ts) h = absurd (false≢true h)
is_first (null ∷ ts) h = absurd (false≢true h)
is_first (bad ∷ ts) h = absurd (false≢true h)

abbrev opens_option : Option Token → Bool
opens_option None = false
opens_option (Some t) = opens t

of_first : (ts : List Token) → opens_first ts ≡ opens_option (first_token ts)
of_first [] = refl
of_first (t ∷ ts) = refl

pub first_is : (text : List ℕ) → first_token (tokens text) ≡ Some begin_object ↔ opens_object text ≡ true
first_is text = (λ e. sym (opens_same text) ∙ of_first (tokens text) ∙ ap opens_option e, λ e. is_first (tokens text) (opens_same text ∙ e))

pub opens_before : (front back : List ℕ) → opens_object front ≡ true → opens_object (front ++ back) ≡ true
unfolding opens_object
opens_before [] back h = absurd (false≢true h)
opens_before (x ∷ front) back h = go (is_space x) (opens_before front back) h
  where
    go : (s : Bool) → (opens_object front ≡ true → opens_object (front ++ back) ≡ true) → cond s (opens_object front) (x == 123) ≡ true → cond s (opens_object (front ++ back)) (x == 123) ≡ true
    go true f e = f e
    go false f e = e

pub back_opens : (text : List ℕ) (at : ℕ) → opens_object (back_object text at) ≡ true
unfolding opens_object
back_opens text at = refl
