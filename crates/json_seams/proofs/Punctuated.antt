-- The tokens of lexemes that stand before and behind a comma.
use Rattle.std.proofs.Common.{◌≡◌, Bool, true, false, List, [], ◌∷◌, ◌++◌, Option, Some, refl, sym, ap, ◌∙◌, fold}
use Rattle.json.specs.Token.{Token, begin_object, end_object, begin_array, end_array, key, string, number, boolean, null, bad}
use Rattle.json.specs.Lex.{Lexeme, token, comma, colon, Place, fresh, after_value, after_comma, after_key, begins_colon, may_begin, may_close, if_allowed, place_token, punctuate}
use Rattle.json_seams.specs.Seams.{behind_comma, from_comma}

-- what a comma meets at that place, where that token is the last
abbrev IsPlaced : Place → Option Token → Type 0
IsPlaced fresh last = (rest : List Token) → from_comma last rest ≡ bad ∷ []
IsPlaced after_value last = (rest : List Token) → from_comma last rest ≡ behind_comma rest
IsPlaced after_comma last = Unit {0}
IsPlaced after_key last = (rest : List Token) → from_comma last rest ≡ bad ∷ []

abbrev last_from : Option Token → List Token → Option Token
last_from last ts = fold (λ _ t. Some t) last ts

-- ---- behind the comma

token_behind : (t : Token) (b : Bool) (k : Place → List Token) → place_token after_comma t b k ≡ behind_comma (place_token fresh t b k)
token_behind begin_object b k = refl
token_behind end_object b k = refl
token_behind begin_array b k = refl
token_behind end_array b k = refl
token_behind (key s) b k = refl
token_behind (string s) true k = refl
token_behind (string s) false k = refl
token_behind (number s) b k = refl
token_behind (boolean v) b k = refl
token_behind null b k = refl
token_behind bad b k = refl

behind : (ls : List Lexeme) → punctuate after_comma ls ≡ behind_comma (punctuate fresh ls)
unfolding punctuate
behind [] = refl
behind (token t ∷ ls) = token_behind t (begins_colon ls) (λ n. punctuate n ls)
behind (comma ∷ ls) = refl
behind (colon ∷ ls) = refl

-- ---- before the comma

module _ (more : List Lexeme) where
  abbrev cut : Option Token → List Token → List Token
  cut last ts = ts ++ from_comma (last_from last ts) (punctuate fresh more)

  no_colon : (ls : List Lexeme) → begins_colon (ls ++ comma ∷ more) ≡ begins_colon ls
  no_colon [] = refl
  no_colon (token t ∷ ls) = refl
  no_colon (comma ∷ ls) = refl
  no_colon (colon ∷ ls) = refl

  allowed : (b : Bool) (t : Token) (last : Option Token) (j k : Place → List Token) (next : Place) → j next ≡ cut (Some t) (k next) → if_allowed b t j next ≡ cut last (if_allowed b t k next)
  allowed true t last j k next e = ap (λ ts. t ∷ ts) e
  allowed false t last j k next e = refl

  placed : (p : Place) (t : Token) (b : Bool) (last : Option Token) (j k : Place → List Token) → ((n : Place) (o : Option Token) → IsPlaced n o → j n ≡ cut o (k n))
      → place_token p t b j ≡ cut last (place_token p t b k)
  placed p begin_object b last j k go = allowed (may_begin p) begin_object last j k fresh (go fresh _ (λ r. refl))
  placed p end_object b last j k go = allowed (may_close p) end_object last j k after_value (go after_value _ (λ r. refl))
  placed p begin_array b last j k go = allowed (may_begin p) begin_array last j k fresh (go fresh _ (λ r. refl))
  placed p end_array b last j k go = allowed (may_close p) end_array last j k after_value (go after_value _ (λ r. refl))
  placed p (key s) b last j k go = refl
  placed p (string s) true last j k go = allowed (may_begin p) (key s) last j k after_key (go after_key _ (λ r. refl))
  placed p (string s) false last j k go = allowed (may_begin p) (string s) last j k after_value (go after_value _ (λ r. refl))
  placed p (number s) b last j k go = allowed (may_begin p) (number s) last j k after_value (go after_value _ (λ r. refl))
  placed p (boolean v) b last j k go = allowed (may_begin p) (boolean v) last j k after_value (go after_value _ (λ r. refl))
  placed p null b last j k go = allowed (may_begin p) null last j k after_value (go after_value _ (λ r. refl))
  placed p bad b last j k go = refl

  pub punctuate_cut : (p : Place) (last : Option Token) (ls : List Lexeme) → IsPlaced p last → punctuate p (ls ++ comma ∷ more) ≡ cut last (punctuate p ls)
  unfolding punctuate
  punctuate_cut fresh last [] h = sym (h _)
  punctuate_cut after_value last [] h = behind more ∙ sym (h _)
  punctuate_cut after_comma last [] h = refl
  punctuate_cut after_key last [] h = refl
  punctuate_cut p last (token t ∷ ls) h =
      ap (λ b. place_token p t b (λ n. punctuate n (ls ++ comma ∷ more))) (no_colon ls)
      ∙ placed p t (begins_colon ls) last _ (λ n. punctuate n ls) (λ n o i. punctuate_cut n o ls i)
  punctuate_cut fresh last (comma ∷ ls) h = refl
  punctuate_cut after_value last (comma ∷ ls) h = punctuate_cut after_comma last ls tt
  punctuate_cut after_comma last (comma ∷ ls) h = refl
  punctuate_cut after_key last (comma ∷ ls) h = refl
  punctuate_cut fresh last (colon ∷ ls) h = refl
  punctuate_cut after_value last (colon ∷ ls) h = refl
  punctuate_cut after_comma last (colon ∷ ls) h = refl
  punctuate_cut after_key last (colon ∷ ls) h = punctuate_cut fresh last ls h
