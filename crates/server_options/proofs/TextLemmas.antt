-- What stands before or behind what was taken off a text.
use Rattle.std.proofs.Common.{◌≡◌, ◌≢◌, ◌∙◌, ◌++◌, ◌==◌, ℕ, Bool, List, [], ◌∷◌, Bor, ap, arith, codes, false, length, length-append, lit<, sym, take, drop, take-append-drop, true≢false}
use Rattle.std.specs.Str.Pattern.{FindsTextPrefix, FindsTextSuffix, RFindsChar, SplitsAroundMatch, StripsPrefix, StripsSuffix}
use Rattle.std.proofs.lemmas.Str.{encode_ascii}

pub behind : (word text : List ℕ) (rest : Bor (List ℕ)) → StripsPrefix (FindsTextPrefix word) text rest.now → text ≡ word ++ rest.now
behind word text rest cut = cut.1.1 ∙ ap (λ t. word ++ t) (sym cut.2)

pub before : (word text : List ℕ) (rest : Bor (List ℕ)) → StripsSuffix (FindsTextSuffix word) text rest.now → text ≡ rest.now ++ word
before word text rest cut = cut.1.1 ∙ ap (λ t. t ++ word) (sym cut.2)

-- round the last colon
pub around : (text : List ℕ) (front back : Bor (List ℕ)) → SplitsAroundMatch (RFindsChar 58) text front.now back.now → text ≡ front.now ++ (codes ":" ++ back.now)
around text front back cut =
    sym (take-append-drop cut.0 text)
    ∙ ap (λ l. take cut.0 text ++ l) (cut.2.1.split ∙ ap (λ colon. colon ++ drop cut.1 text) (encode_ascii 58 (lit< tt)))
    ∙ (λ k. sym cut.3 k ++ (codes ":" ++ sym cut.4 k))

pub some_byte : (text : List ℕ) (r : Bool) → r ≡ (length text == 0) → r ≡ false → text ≢ []
some_byte text r is false_is = λ none. true≢false (sym (ap (λ t. length t == 0) none) ∙ sym is ∙ false_is)

pub not_empty : (front : List ℕ) (byte : ℕ) (rest : List ℕ) → front ++ byte ∷ rest ≢ []
not_empty front byte rest = λ none. omega (arith, ap length none, length-append front (byte ∷ rest))
