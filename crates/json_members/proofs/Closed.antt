-- What the machine comes to where a brace is put behind lexemes.
use Rattle.std.proofs.Common.{◌≡◌, Bool, true, false, List, [], ◌∷◌, ◌++◌, refl, ap, ◌∙◌}
use Rattle.json.specs.Token.{Token, begin_object, end_object, begin_array, end_array, key, string, number, boolean, null, bad}
use Rattle.json.specs.Lex.{Lexeme, token, comma, colon, Place, fresh, after_value, after_comma, after_key, begins_colon, may_begin, may_close, if_allowed, place_token, punctuate}
use Rattle.json_stack.specs.Machine.{StackState, reading, done, failed, next_state, state_after}

abbrev brace : List Lexeme
brace = token end_object ∷ []

abbrev closed : StackState → StackState
closed s = next_state s end_object

no_colon : (ls : List Lexeme) → begins_colon (ls ++ brace) ≡ begins_colon ls
no_colon [] = refl
no_colon (token t ∷ ls) = refl
no_colon (comma ∷ ls) = refl
no_colon (colon ∷ ls) = refl

-- behind a fault the machine has failed, and stays so
fault : (s : StackState) → state_after s (bad ∷ []) ≡ closed (state_after s (bad ∷ []))
unfolding state_after
fault (reading room frames) = refl
fault (done j) = refl
fault failed = refl

abbrev Same : StackState → List Token → List Token → Type 0
Same s more ts = state_after s more ≡ closed (state_after s ts)

allowed : (b : Bool) (s : StackState) (t : Token) (j k : Place → List Token) (next : Place) → Same (next_state s t) (j next) (k next) → Same s (if_allowed b t j next) (if_allowed b t k next)
unfolding state_after
allowed true s t j k next e = e
allowed false s t j k next e = fault s

placed : (p : Place) (s : StackState) (t : Token) (b : Bool) (j k : Place → List Token) → ((n : Place) (u : StackState) → Same u (j n) (k n)) → Same s (place_token p t b j) (place_token p t b k)
placed p s begin_object b j k go = allowed (may_begin p) s begin_object j k fresh (go fresh _)
placed p s end_object b j k go = allowed (may_close p) s end_object j k after_value (go after_value _)
placed p s begin_array b j k go = allowed (may_begin p) s begin_array j k fresh (go fresh _)
placed p s end_array b j k go = allowed (may_close p) s end_array j k after_value (go after_value _)
placed p s (key x) b j k go = fault s
placed p s (string x) true j k go = allowed (may_begin p) s (key x) j k after_key (go after_key _)
placed p s (string x) false j k go = allowed (may_begin p) s (string x) j k after_value (go after_value _)
placed p s (number x) b j k go = allowed (may_begin p) s (number x) j k after_value (go after_value _)
placed p s (boolean v) b j k go = allowed (may_begin p) s (boolean v) j k after_value (go after_value _)
placed p s null b j k go = allowed (may_begin p) s null j k after_value (go after_value _)
placed p s bad b j k go = fault s

pub punctuate_closed : (p : Place) (ls : List Lexeme) (s : StackState) → Same s (punctuate p (ls ++ brace)) (punctuate p ls)
unfolding punctuate state_after
punctuate_closed fresh [] s = refl
punctuate_closed after_value [] s = refl
punctuate_closed after_comma [] s = fault s
punctuate_closed after_key [] s = fault s
punctuate_closed p (token t ∷ ls) s =
    ap (λ b. state_after s (place_token p t b (λ n. punctuate n (ls ++ brace)))) (no_colon ls)
    ∙ placed p s t (begins_colon ls) _ (λ n. punctuate n ls) (λ n u. punctuate_closed n ls u)
punctuate_closed fresh (comma ∷ ls) s = fault s
punctuate_closed after_value (comma ∷ ls) s = punctuate_closed after_comma ls s
punctuate_closed after_comma (comma ∷ ls) s = fault s
punctuate_closed after_key (comma ∷ ls) s = fault s
punctuate_closed fresh (colon ∷ ls) s = fault s
punctuate_closed after_value (colon ∷ ls) s = fault s
punctuate_closed after_comma (colon ∷ ls) s = fault s
punctuate_closed after_key (colon ∷ ls) s = punctuate_closed fresh ls s
