-- Targets that are cut at the first `?`.
use Rattle.std.proofs.Common.{◌≡◌, ◌≢◌, ℕ, ◌+◌, false, List, [], ◌∷◌, ◌++◌, length, take, drop, refl, sym, ap, ◌∙◌, arith}
use Rattle.std.specs.List.{All, position_or_len}
use Rattle.std.proofs.lemmas.Bool.Decides.{nat_tests}
use Rattle.std.proofs.lemmas.List.Elements.{All-head, All-tail}
use Rattle.std.proofs.Math.Seq.{take-append_seam, drop-append-add, take-length}
use Rattle.std.proofs.Math.ListN.{drop_of_length-le}
use Rattle.octets.specs.Cut.{IsCutAt}
use Rattle.web_request.specs.Targets.{is_question, path_of, query_text}

not_question : (b : ℕ) → b ≢ 63 → is_question b ≡ false
not_question b h = grind (arith, nat_tests)

question_at : (front back : List ℕ) → All (λ b. b ≢ 63) front → position_or_len is_question (front ++ 63 ∷ back) ≡ length front
question_at [] back h = refl
question_at (b ∷ front) back h =
    let other = not_question b (All-head (λ b. b ≢ 63) b front h) in
    let more = question_at front back (All-tail (λ b. b ≢ 63) b front h) in
    rw other (omega (arith, more))

no_question_at : (text : List ℕ) → All (λ b. b ≢ 63) text → position_or_len is_question text ≡ length text
no_question_at [] h = refl
no_question_at (b ∷ text) h =
    let other = not_question b (All-head (λ b. b ≢ 63) b text h) in
    let more = no_question_at text (All-tail (λ b. b ≢ 63) b text h) in
    rw other (omega (arith, more))

-- a path and a query
pub cut_path : (text front back : List ℕ) → IsCutAt 63 text front back → front ≡ path_of text
cut_path text front back c =
    sym (ap path_of c.parts ∙ ap (λ n. take n (front ++ 63 ∷ back)) (question_at front back c.before) ∙ take-append_seam front (63 ∷ back))

pub cut_query : (text front back : List ℕ) → IsCutAt 63 text front back → back ≡ query_text text
cut_query text front back c =
    sym (ap query_text c.parts ∙ ap (λ n. drop (n + 1) (front ++ 63 ∷ back)) (question_at front back c.before) ∙ drop-append-add front (63 ∷ back) 1)

-- a path alone
pub whole_path : (text : List ℕ) → All (λ b. b ≢ 63) text → text ≡ path_of text
whole_path text none = sym (ap (λ n. take n text) (no_question_at text none) ∙ take-length text)

pub no_query : (text : List ℕ) → All (λ b. b ≢ 63) text → query_text text ≡ []
no_query text none = drop_of_length-le text (omega (arith, no_question_at text none))
