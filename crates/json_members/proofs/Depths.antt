-- The machine has as many frames as brackets are open, until it fails.
use Rattle.std.proofs.Common.{◌≡◌, ℕ, zero, suc, ◌-◌, Bool, true, false, cond, ◌||◌, ◌==◌, List, [], ◌∷◌, length, Option, Some, None, refl, sym, ap, ◌∙◌, subst, arith}
use Rattle.std.specs.Prelude.{⊤}
use Rattle.std.proofs.lemmas.Bool.{true≢false, eqb-true}
use Rattle.json.specs.Token.{Token, begin_object, end_object, begin_array, end_array, key, string, number, boolean, null, bad}
use Rattle.json.specs.Json.{Json, Items, Members, no_items, no_members}
use Rattle.json.specs.Json as json
use Rattle.json.specs.Text.{content, plain}
use Rattle.json.specs.Word.{is_operator, is_space, head, ends_word, word, number_before, after_number}
use Rattle.json.specs.Lex.{Lexeme, token, comma, colon, Mode, between, in_word, in_string, in_escape, Class, quote, backslash, operator, space, other, class, operator_lexeme, string_token, lex_byte, lex, Place, fresh, after_value, after_comma, after_key, begins_colon, may_begin, may_close, if_allowed, place_token, punctuate}
use Rattle.json_seams.specs.Modes.{next_mode}
use Rattle.json_stack.specs.Machine.{Frame, in_array, in_object, in_member, StackState, reading, done, failed, value_ended, opened_frame, array_ended, object_ended, key_read, state_within, next_state, state_after}
use Rattle.json_members.specs.Brackets.{depth_behind, next_depth, bracket_depth}

-- ---- brackets among tokens

abbrev pub token_depth : ℕ → Token → ℕ
token_depth n begin_object = suc n
token_depth n end_object = n - 1
token_depth n begin_array = suc n
token_depth n end_array = n - 1
token_depth n (key s) = n
token_depth n (string s) = n
token_depth n (number s) = n
token_depth n (boolean b) = n
token_depth n null = n
token_depth n bad = n

abbrev pub lexeme_depth : ℕ → Lexeme → ℕ
lexeme_depth n (token t) = token_depth n t
lexeme_depth n comma = n
lexeme_depth n colon = n

unfoldable pub lexemes_depth : ℕ → List Lexeme → ℕ
lexemes_depth n [] = n
lexemes_depth n (l ∷ ls) = lexemes_depth (lexeme_depth n l) ls

-- ---- brackets among bytes are those of the lexemes

operator_depth : (n : ℕ) (x : ℕ) → lexeme_depth n (operator_lexeme x) ≡ depth_behind n x
operator_depth n x = go (x == 123) (x == 125) (x == 91) (x == 93) (x == 44)
  where
    go : (a b c d e : Bool)
        → lexeme_depth n (cond a (token begin_object) (cond b (token end_object) (cond c (token begin_array) (cond d (token end_array) (cond e comma colon)))))
        ≡ cond a (suc n) (cond b (n - 1) (cond c (suc n) (cond d (n - 1) n)))
    go true b c d e = refl
    go false true c d e = refl
    go false false true d e = refl
    go false false false true e = refl
    go false false false false true = refl
    go false false false false false = refl

string_depth : (n : ℕ) (o : Option (List ℕ)) → token_depth n (string_token o) ≡ n
string_depth n None = refl
string_depth n (Some s) = refl

cond_depth : (n : ℕ) (b : Bool) (t u : Token) → token_depth n t ≡ n → token_depth n u ≡ n → token_depth n (cond b t u) ≡ n
cond_depth n true t u e f = e
cond_depth n false t u e f = f

number_depth : (n : ℕ) (t : List ℕ) (o : Option (List ℕ)) → token_depth n (number_before t o) ≡ n
number_depth n t None = refl
number_depth n t (Some rest) = cond_depth n (ends_word rest) _ bad refl refl

word_depth : (n : ℕ) (t : List ℕ) → token_depth n (word t) ≡ n
unfolding word
word_depth n t =
    cond_depth n (head t == 116) _ _ (cond_depth n _ (boolean true) bad refl refl)
    (cond_depth n (head t == 102) _ _ (cond_depth n _ (boolean false) bad refl refl)
    (cond_depth n (head t == 110) _ _ (cond_depth n _ null bad refl refl) (number_depth n t (after_number t))))

-- a byte that is no operator moves nothing
unmoved : (n : ℕ) (a b c d e f : Bool) → (a || b || c || d || e || f) ≡ false → cond a (suc n) (cond b (n - 1) (cond c (suc n) (cond d (n - 1) n))) ≡ n
unmoved n true b c d e f h = absurd (true≢false h)
unmoved n false true c d e f h = absurd (true≢false h)
unmoved n false false true d e f h = absurd (true≢false h)
unmoved n false false false true e f h = absurd (true≢false h)
unmoved n false false false false e f h = refl

not_operator : (n x : ℕ) → is_operator x ≡ false → depth_behind n x ≡ n
not_operator n x h = unmoved n (x == 123) (x == 125) (x == 91) (x == 93) (x == 58) (x == 44) h

abbrev is_class_operator : Class → Bool
is_class_operator quote = false
is_class_operator backslash = false
is_class_operator operator = true
is_class_operator space = false
is_class_operator other = false

same_byte : (n k x : ℕ) → depth_behind n k ≡ n → (x == k) ≡ true → depth_behind n x ≡ n
same_byte n k x e h = ap (λ y. depth_behind n y) (eqb-true x k h) ∙ e

-- one of class operator or none that moves
unmoved_class : (n x : ℕ) → is_class_operator (class x) ≡ false → depth_behind n x ≡ n
unmoved_class n x h = go (x == 34) (x == 92) (is_operator x) (is_space x) (same_byte n 34 x refl) (same_byte n 92 x refl) (not_operator n x) h
  where
    go : (q b o s : Bool) → (q ≡ true → depth_behind n x ≡ n) → (b ≡ true → depth_behind n x ≡ n) → (o ≡ false → depth_behind n x ≡ n)
        → is_class_operator (cond q quote (cond b backslash (cond o operator (cond s space other)))) ≡ false → depth_behind n x ≡ n
    go true b o s f g i h = f refl
    go false true o s f g i h = g refl
    go false false true s f g i h = absurd (true≢false h)
    go false false false s f g i h = i refl

put : (n : ℕ) (l : Lexeme) (ls : List Lexeme) (m : ℕ) → lexeme_depth n l ≡ m → lexemes_depth n (l ∷ ls) ≡ lexemes_depth m ls
unfolding lexemes_depth
put n l ls m e = ap (λ k. lexemes_depth k ls) e

step : (mode : Mode) (c : Class) (n x : ℕ) (xs : List ℕ) (k : Mode → List Lexeme) (f : Mode → ℕ → ℕ) → (is_class_operator c ≡ false → depth_behind n x ≡ n)
    → ((next : Mode) (m : ℕ) → lexemes_depth m (k next) ≡ f next m)
    → lexemes_depth n (lex_byte mode c x xs k) ≡ f (next_mode mode c) (next_depth mode n x)
step between quote n x xs k f h go = put n _ (k in_string) n (string_depth n (content plain xs)) ∙ go in_string n ∙ ap (f in_string) (sym (h refl))
step between backslash n x xs k f h go = put n _ (k in_word) n refl ∙ go in_word n ∙ ap (f in_word) (sym (h refl))
step between operator n x xs k f h go = put n _ (k between) (depth_behind n x) (operator_depth n x) ∙ go between (depth_behind n x)
step between space n x xs k f h go = go between n ∙ ap (f between) (sym (h refl))
step between other n x xs k f h go = put n _ (k in_word) n (word_depth n (x ∷ xs)) ∙ go in_word n ∙ ap (f in_word) (sym (h refl))
step in_word quote n x xs k f h go = go in_word n ∙ ap (f in_word) (sym (h refl))
step in_word backslash n x xs k f h go = go in_word n ∙ ap (f in_word) (sym (h refl))
step in_word operator n x xs k f h go = put n _ (k between) (depth_behind n x) (operator_depth n x) ∙ go between (depth_behind n x)
step in_word space n x xs k f h go = go between n ∙ ap (f between) (sym (h refl))
step in_word other n x xs k f h go = go in_word n ∙ ap (f in_word) (sym (h refl))
step in_string quote n x xs k f h go = go between n
step in_string backslash n x xs k f h go = go in_escape n
step in_string operator n x xs k f h go = go in_string n
step in_string space n x xs k f h go = go in_string n
step in_string other n x xs k f h go = go in_string n
step in_escape c n x xs k f h go = go in_string n

pub lex_depth : (mode : Mode) (n : ℕ) (text : List ℕ) → lexemes_depth n (lex mode text) ≡ bracket_depth mode n text
unfolding lex lexemes_depth bracket_depth
lex_depth mode n [] = refl
lex_depth mode n (x ∷ xs) = step mode (class x) n x xs (λ next. lex next xs) (λ next m. bracket_depth next m xs) (unmoved_class n x) (λ next m. lex_depth next m xs)

-- ---- the machine has so many frames

abbrev pub HasDepth : ℕ → StackState → Type 0
HasDepth n (reading room frames) = length frames ≡ n
HasDepth n (done j) = n ≡ 0
HasDepth n failed = ⊤

ended_depth : (room : ℕ) (frames : List Frame) (j : Json) (n : ℕ) → length frames ≡ n → HasDepth n (value_ended room frames j)
ended_depth room [] j n e = sym e
ended_depth room (in_array js ∷ frames) j n e = e
ended_depth room (in_object ms ∷ frames) j n e = tt
ended_depth room (in_member ms k ∷ frames) j n e = e

opened_depth : (room : ℕ) (frames : List Frame) (frame : Frame) (n : ℕ) → length frames ≡ n → HasDepth (suc n) (opened_frame room frames frame)
opened_depth zero frames frame n e = tt
opened_depth (suc room) [] frame n e = ap suc e
opened_depth (suc room) (in_array js ∷ frames) frame n e = ap suc e
opened_depth (suc room) (in_object ms ∷ frames) frame n e = tt
opened_depth (suc room) (in_member ms k ∷ frames) frame n e = ap suc e

array_depth : (room : ℕ) (frames : List Frame) (n : ℕ) → length frames ≡ n → HasDepth (n - 1) (array_ended room frames)
array_depth room [] n e = tt
array_depth room (in_array js ∷ frames) n e = ended_depth (suc room) frames (json.array js) (n - 1) (omega (arith, e))
array_depth room (in_object ms ∷ frames) n e = tt
array_depth room (in_member ms k ∷ frames) n e = tt

object_depth : (room : ℕ) (frames : List Frame) (n : ℕ) → length frames ≡ n → HasDepth (n - 1) (object_ended room frames)
object_depth room [] n e = tt
object_depth room (in_array js ∷ frames) n e = tt
object_depth room (in_object ms ∷ frames) n e = ended_depth (suc room) frames (json.object ms) (n - 1) (omega (arith, e))
object_depth room (in_member ms k ∷ frames) n e = tt

key_depth : (room : ℕ) (frames : List Frame) (k : List ℕ) (n : ℕ) → length frames ≡ n → HasDepth n (key_read room frames k)
key_depth room [] k n e = tt
key_depth room (in_array js ∷ frames) k n e = tt
key_depth room (in_object ms ∷ frames) k n e = e
key_depth room (in_member ms l ∷ frames) k n e = tt

within_depth : (room : ℕ) (frames : List Frame) (t : Token) (n : ℕ) → length frames ≡ n → HasDepth (token_depth n t) (state_within room frames t)
within_depth room frames Token.begin_object n e = opened_depth room frames (in_object no_members) n e
within_depth room frames Token.end_object n e = object_depth room frames n e
within_depth room frames Token.begin_array n e = opened_depth room frames (in_array no_items) n e
within_depth room frames Token.end_array n e = array_depth room frames n e
within_depth room frames (Token.key s) n e = key_depth room frames s n e
within_depth room frames (Token.string s) n e = ended_depth room frames (json.string s) n e
within_depth room frames (Token.number s) n e = ended_depth room frames (json.number s) n e
within_depth room frames (Token.boolean b) n e = ended_depth room frames (json.boolean b) n e
within_depth room frames Token.null n e = ended_depth room frames json.null n e
within_depth room frames Token.bad n e = tt

next_of_depth : (s : StackState) (t : Token) (n : ℕ) → HasDepth n s → HasDepth (token_depth n t) (next_state s t)
next_of_depth (reading room frames) t n e = within_depth room frames t n e
next_of_depth (done j) t n e = tt
next_of_depth failed t n e = tt

-- ---- and so behind lexemes

fault_depth : (s : StackState) (n : ℕ) → HasDepth n (state_after s (bad ∷ []))
unfolding state_after
fault_depth (reading room frames) n = tt
fault_depth (done j) n = tt
fault_depth failed n = tt

allowed : (b : Bool) (s : StackState) (t : Token) (k : Place → List Token) (next : Place) (n : ℕ) → HasDepth n (state_after (next_state s t) (k next)) → HasDepth n (state_after s (if_allowed b t k next))
unfolding state_after
allowed true s t k next n h = h
allowed false s t k next n h = fault_depth s n

placed : (p : Place) (s : StackState) (t : Token) (b : Bool) (k : Place → List Token) (n m : ℕ) → HasDepth n s
    → ((next : Place) (u : StackState) → HasDepth (token_depth n t) u → HasDepth m (state_after u (k next))) → HasDepth m (state_after s (place_token p t b k))
placed p s begin_object b k n m h go = allowed (may_begin p) s begin_object k fresh m (go fresh _ (next_of_depth s begin_object n h))
placed p s end_object b k n m h go = allowed (may_close p) s end_object k after_value m (go after_value _ (next_of_depth s end_object n h))
placed p s begin_array b k n m h go = allowed (may_begin p) s begin_array k fresh m (go fresh _ (next_of_depth s begin_array n h))
placed p s end_array b k n m h go = allowed (may_close p) s end_array k after_value m (go after_value _ (next_of_depth s end_array n h))
placed p s (key x) b k n m h go = fault_depth s m
placed p s (string x) true k n m h go = allowed (may_begin p) s (key x) k after_key m (go after_key _ (next_of_depth s (key x) n h))
placed p s (string x) false k n m h go = allowed (may_begin p) s (string x) k after_value m (go after_value _ (next_of_depth s (string x) n h))
placed p s (number x) b k n m h go = allowed (may_begin p) s (number x) k after_value m (go after_value _ (next_of_depth s (number x) n h))
placed p s (boolean v) b k n m h go = allowed (may_begin p) s (boolean v) k after_value m (go after_value _ (next_of_depth s (boolean v) n h))
placed p s null b k n m h go = allowed (may_begin p) s null k after_value m (go after_value _ (next_of_depth s null n h))
placed p s bad b k n m h go = fault_depth s m

punctuate_depth : (p : Place) (ls : List Lexeme) (s : StackState) (n : ℕ) → HasDepth n s → HasDepth (lexemes_depth n ls) (state_after s (punctuate p ls))
unfolding punctuate state_after lexemes_depth
punctuate_depth fresh [] s n h = h
punctuate_depth after_value [] s n h = h
punctuate_depth after_comma [] s n h = fault_depth s n
punctuate_depth after_key [] s n h = fault_depth s n
punctuate_depth p (token t ∷ ls) s n h = placed p s t (begins_colon ls) _ n _ h (λ next u i. punctuate_depth next ls u (token_depth n t) i)
punctuate_depth fresh (comma ∷ ls) s n h = fault_depth s _
punctuate_depth after_value (comma ∷ ls) s n h = punctuate_depth after_comma ls s n h
punctuate_depth after_comma (comma ∷ ls) s n h = fault_depth s _
punctuate_depth after_key (comma ∷ ls) s n h = fault_depth s _
punctuate_depth fresh (colon ∷ ls) s n h = fault_depth s _
punctuate_depth after_value (colon ∷ ls) s n h = fault_depth s _
punctuate_depth after_comma (colon ∷ ls) s n h = fault_depth s _
punctuate_depth after_key (colon ∷ ls) s n h = punctuate_depth fresh ls s n h

pub state_depth : (depth : ℕ) (text : List ℕ) → HasDepth (bracket_depth between 0 text) (state_after (reading depth []) (punctuate fresh (lex between text)))
state_depth depth text = subst (λ n. HasDepth n (state_after (reading depth []) (punctuate fresh (lex between text)))) (lex_depth between 0 text) (punctuate_depth fresh (lex between text) (reading depth []) 0 refl)
