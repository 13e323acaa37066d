-- The white space before the brace that opens an object.
use Rattle.std.proofs.Common.{◌≡◌, ℕ, ◌+◌, ◌==◌, ◌||◌, ◌<◌, ◌≤◌, Bool, true, false, cond, List, [], ◌∷◌, ◌++◌, length, take, drop, get_or, Some, ◌↔◌, IsUtf8, refl, sym, ap, ◌∙◌, subst, arith}
use Rattle.std.proofs.lemmas.Bool.{true≢false, eqb-true}
use Rattle.std.proofs.lemmas.List.{take_more, drop_more, drop_all}
use Rattle.std.proofs.lemmas.Str.{IsUtf8-append, IsUtf8-from_ascii, IsUtf8-nil}
use Rattle.json.specs.Token.{begin_object}
use Rattle.json.specs.Word.{is_space}
use Rattle.json.specs.Lex.{class, space, between, lex, lex_byte, fresh, punctuate, tokens}
use Rattle.json_members.specs.MemberCuts.{first_token, opens_object}
use Rattle.json_spelling.proofs.PiecesTaken.{ascii_byte}
use Rattle.children_reader.specs.Collected.{IsBehindBrace}

-- what is used of objects' first tokens
abbrev pub FirstLaw : Type 0
FirstLaw = (text : List ℕ) → first_token (tokens text) ≡ Some begin_object ↔ opens_object text ≡ true

-- the first bytes are white space, and the lexer passes over them
pub record IsSpaceTo (json : List ℕ) (i : ℕ) : Type 0 where
  pub utf8 : IsUtf8 (take i json)
  pub opens : opens_object json ≡ opens_object (drop i json)
  pub same : tokens json ≡ tokens (drop i json)

pub no_space : (json : List ℕ) → IsSpaceTo json 0
no_space json = record { utf8 = IsUtf8-nil; opens = refl; same = refl }

utf8_more : (json : List ℕ) (i k : ℕ) → k < 128 → i < length json → get_or json i 0 ≡ k → IsUtf8 (take i json) → IsUtf8 (take (i + 1) json)
utf8_more json i k small within is utf8 =
    subst IsUtf8 (sym (take_more json i 0 within ∙ ap (λ x. take i json ++ x ∷ []) is)) (IsUtf8-append (take i json) (k ∷ []) utf8 (IsUtf8-from_ascii (k ∷ []) (ascii_byte k small)))

-- what stands at a place and behind it
rest_at : (json : List ℕ) (i k : ℕ) → i < length json → get_or json i 0 ≡ k → drop i json ≡ k ∷ drop (i + 1) json
rest_at json i k within is = drop_more json i 0 within ∙ ap (λ x. x ∷ drop (i + 1) json) is

-- a byte of white space is passed over
space_passed : (k : ℕ) (xs : List ℕ) → class k ≡ space → tokens (k ∷ xs) ≡ tokens xs
unfolding lex
space_passed k xs is = ap (λ c. punctuate fresh (lex_byte between c k xs (λ n. lex n xs))) is

space_opens : (k : ℕ) (xs : List ℕ) → is_space k ≡ true → opens_object (k ∷ xs) ≡ opens_object xs
unfolding opens_object
space_opens k xs is = ap (λ s. cond s (opens_object xs) (k == 123)) is

spaces : (k : ℕ) → is_space k ≡ true → (k < 128) × (class k ≡ space)
spaces k is = go (k == 32) (k == 9) (k == 10) (k == 13) (this 32 (omega arith) refl) (this 9 (omega arith) refl) (this 10 (omega arith) refl) (this 13 (omega arith) refl) is
  where
    this : (n : ℕ) → n < 128 → class n ≡ space → (k == n) ≡ true → (k < 128) × (class k ≡ space)
    this n small e h = let same = eqb-true k n h in (omega arith, ap class same ∙ e)

    go : {A : Type 0} (a b c d : Bool) → (a ≡ true → A) → (b ≡ true → A) → (c ≡ true → A) → (d ≡ true → A) → (a || b || c || d) ≡ true → A
    go true b c d f g i j h = f refl
    go false true c d f g i j h = g refl
    go false false true d f g i j h = i refl
    go false false false true f g i j h = j refl
    go false false false false f g i j h = absurd (true≢false (sym h))

pub space_more : (json : List ℕ) (i k : ℕ) → i < length json → get_or json i 0 ≡ k → is_space k ≡ true → IsSpaceTo json i → IsSpaceTo json (i + 1)
space_more json i k within is blank before =
    let means = spaces k blank in
    let rest = drop (i + 1) json in
    let here = rest_at json i k within is in
    record {
      utf8 = utf8_more json i k means.0 within is before.utf8;
      opens = before.opens ∙ ap opens_object here ∙ space_opens k rest blank;
      same = before.same ∙ ap tokens here ∙ space_passed k rest means.1;
    }

-- at the brace
pub brace_behind : (json : List ℕ) (i : ℕ) → i < length json → get_or json i 0 ≡ 123 → IsSpaceTo json i → IsBehindBrace json (i + 1)
brace_behind json i within is before = record {
  within = omega arith;
  utf8 = utf8_more json i 123 (omega arith) within is before.utf8;
  same = before.same ∙ ap tokens (rest_at json i 123 within is);
}

-- where it is none
no_object : FirstLaw → (json : List ℕ) (i : ℕ) → opens_object (drop i json) ≡ false → IsSpaceTo json i → first_token (tokens json) ≡ Some begin_object → ⊥
no_object law json i other before first = true≢false (sym ((law json).0 first) ∙ before.opens ∙ other)

other_opens : (k : ℕ) (xs : List ℕ) → is_space k ≡ false → (k == 123) ≡ false → opens_object (k ∷ xs) ≡ false
unfolding opens_object
other_opens k xs other apart = ap (λ s. cond s (opens_object xs) (k == 123)) other ∙ apart

none_opens : opens_object [] ≡ false
unfolding opens_object
none_opens = refl

pub other_first : FirstLaw → (json : List ℕ) (i k : ℕ) → i < length json → get_or json i 0 ≡ k → is_space k ≡ false → (k == 123) ≡ false → IsSpaceTo json i → first_token (tokens json) ≡ Some begin_object → ⊥
other_first law json i k within is other apart before = no_object law json i (ap opens_object (rest_at json i k within is) ∙ other_opens k (drop (i + 1) json) other apart) before

pub only_space : FirstLaw → (json : List ℕ) (i : ℕ) → length json ≤ i → IsSpaceTo json i → first_token (tokens json) ≡ Some begin_object → ⊥
only_space law json i all before = no_object law json i (ap opens_object (drop_all i json all) ∙ none_opens) before
