-- The lexemes of a text in which a bracket, a colon or a comma stands outside strings.
use Rattle.std.proofs.Common.{◌≡◌, ℕ, true, List, [], ◌∷◌, ◌++◌, ap, ap₂}
use Rattle.std.proofs.lemmas.Bool.{false≢true}
use Rattle.json.specs.Token.{bad}
use Rattle.json.specs.Text.{plain}
use Rattle.json.specs.Lex.{Lexeme, token, Mode, between, in_word, in_string, in_escape, Class, quote, backslash, operator, space, other, class, operator_lexeme, string_token, lex_byte, lex}
use Rattle.json.specs.Word.{is_operator}
use Rattle.json_seams.specs.Modes.{next_mode, mode_after, is_outside}
use Rattle.json_seams.proofs.Operators.{class_operator}
use Rattle.json_seams.proofs.Words.{word_same}
use Rattle.json_seams.proofs.Contents.{content_same}

module _ (byte : ℕ) (ends : is_operator byte ≡ true) (rest : List ℕ) where
  abbrev more : List ℕ → List ℕ
  more t = t ++ byte ∷ rest

  abbrev IsOutside : Mode → List ℕ → Type 0
  IsOutside m t = is_outside (mode_after m t) ≡ true

  -- the lexemes before that byte, its own, and those behind it
  abbrev joined : List Lexeme → List Lexeme
  joined ls = ls ++ operator_lexeme byte ∷ lex between rest

  step : (m : Mode) (c : Class) (x : ℕ) (t : List ℕ) → ((n : Mode) → IsOutside n t → lex n (more t) ≡ joined (lex n t)) → IsOutside (next_mode m c) t
      → lex_byte m c x (more t) (λ n. lex n (more t)) ≡ joined (lex_byte m c x t (λ n. lex n t))
  step between quote x t go h = ap₂ (λ o ls. token (string_token o) ∷ ls) (content_same byte ends rest plain t h) (go in_string h)
  step between backslash x t go h = ap (λ ls. token bad ∷ ls) (go in_word h)
  step between operator x t go h = ap (λ ls. operator_lexeme x ∷ ls) (go between h)
  step between space x t go h = go between h
  step between other x t go h = ap₂ (λ w ls. token w ∷ ls) (word_same byte ends rest x t) (go in_word h)
  step in_word quote x t go h = go in_word h
  step in_word backslash x t go h = go in_word h
  step in_word operator x t go h = ap (λ ls. operator_lexeme x ∷ ls) (go between h)
  step in_word space x t go h = go between h
  step in_word other x t go h = go in_word h
  step in_string quote x t go h = go between h
  step in_string backslash x t go h = go in_escape h
  step in_string operator x t go h = go in_string h
  step in_string space x t go h = go in_string h
  step in_string other x t go h = go in_string h
  step in_escape c x t go h = go in_string h

  pub lex_cut : (m : Mode) (t : List ℕ) → IsOutside m t → lex m (more t) ≡ joined (lex m t)
  unfolding lex
  lex_cut between [] h = ap (λ c. lex_byte between c byte rest (λ n. lex n rest)) (class_operator byte ends)
  lex_cut in_word [] h = ap (λ c. lex_byte in_word c byte rest (λ n. lex n rest)) (class_operator byte ends)
  lex_cut in_string [] h = absurd (false≢true h)
  lex_cut in_escape [] h = absurd (false≢true h)
  lex_cut m (x ∷ t) h = step m (class x) x t (λ n. lex_cut n t) h
