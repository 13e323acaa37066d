-- Texts whose front needs no escape.
use Rattle.std.proofs.Common.{◌≡◌, ◌≢◌, ℕ, ◌<◌, List, [], ◌∷◌, ◌++◌, length, true, cond, All, Option, Some, None, refl, sym, ap, ◌∙◌, arith, append_assoc, ne_eqb, length-append}
use Rattle.std.proofs.lemmas.List.{append-nil}
use Rattle.std.proofs.lemmas.List.Elements.{All-head, All-tail}
use Rattle.std.proofs.lemmas.Bool.Decides.{nat_tests}
use Rattle.std.specs.Option.{option_map}
use Rattle.octets.specs.Cut.{IsCutAt}
use Rattle.gate_tasks.specs.Text.{IsCutWhere, followed_by, unescaped, after_backslash, is_printable, escape_of, escaped}

-- ---- a text that is read

mapped_empty : (o : Option (List ℕ)) → o ≡ option_map (λ more. [] ++ more) o
mapped_empty None = refl
mapped_empty (Some more) = refl

mapped_more : (byte : ℕ) (front : List ℕ) (o : Option (List ℕ)) → followed_by byte (option_map (λ more. front ++ more) o) ≡ option_map (λ more. (byte ∷ front) ++ more) o
mapped_more byte front None = refl
mapped_more byte front (Some more) = refl

-- a front without a backslash stands for itself
pub unescaped_run : (front rest : List ℕ) → All (λ b. b ≢ 92) front → unescaped (front ++ rest) ≡ option_map (λ more. front ++ more) (unescaped rest)
unescaped_run [] rest none = mapped_empty (unescaped rest)
unescaped_run (byte ∷ front) rest none =
    ap (λ t. cond t (after_backslash (front ++ rest)) (followed_by byte (unescaped (front ++ rest)))) (ne_eqb byte 92 (All-head (λ b. b ≢ 92) byte front none))
    ∙ ap (followed_by byte) (unescaped_run front rest (All-tail (λ b. b ≢ 92) byte front none))
    ∙ mapped_more byte front (unescaped rest)

-- what is read of a text that is cut at its first backslash
unescaped_cut : (rest plain back : List ℕ) → IsCutAt 92 rest plain back → unescaped rest ≡ option_map (λ more. plain ++ more) (after_backslash back)
unescaped_cut rest plain back cut = ap unescaped cut.parts ∙ unescaped_run plain (92 ∷ back) cut.before

joined_step : (bytes plain : List ℕ) (byte : ℕ) (o : Option (List ℕ))
    → option_map (λ more. ((bytes ++ plain) ++ byte ∷ []) ++ more) o ≡ option_map (λ more. bytes ++ more) (option_map (λ more. plain ++ more) (followed_by byte o))
joined_step bytes plain byte None = refl
joined_step bytes plain byte (Some more) = ap Some (append_assoc (bytes ++ plain) (byte ∷ []) more ∙ append_assoc bytes plain (byte ∷ more))

-- one more escape was read
pub read_step : (bytes rest plain back after : List ℕ) (byte : ℕ) (all : Option (List ℕ)) → IsCutAt 92 rest plain back → after_backslash back ≡ followed_by byte (unescaped after)
    → option_map (λ more. bytes ++ more) (unescaped rest) ≡ all → option_map (λ more. ((bytes ++ plain) ++ byte ∷ []) ++ more) (unescaped after) ≡ all
read_step bytes rest plain back after byte all cut read was =
    joined_step bytes plain byte (unescaped after)
    ∙ ap (λ o. option_map (λ more. bytes ++ more) (option_map (λ more. plain ++ more) o)) (sym read)
    ∙ ap (option_map (λ more. bytes ++ more)) (sym (unescaped_cut rest plain back cut)) ∙ was

-- a backslash began no escape
pub read_bad : (bytes rest plain back : List ℕ) (all : Option (List ℕ)) → IsCutAt 92 rest plain back → after_backslash back ≡ None → option_map (λ more. bytes ++ more) (unescaped rest) ≡ all → None ≡ all
read_bad bytes rest plain back all cut bad was =
    ap (λ o. option_map (λ more. bytes ++ more) (option_map (λ more. plain ++ more) o)) (sym bad)
    ∙ ap (option_map (λ more. bytes ++ more)) (sym (unescaped_cut rest plain back cut)) ∙ was

-- no backslash is left
pub read_end : (bytes rest : List ℕ) (all : Option (List ℕ)) → All (λ b. b ≢ 92) rest → option_map (λ more. bytes ++ more) (unescaped rest) ≡ all → Some (bytes ++ rest) ≡ all
read_end bytes rest all none was =
    let alone : unescaped rest ≡ Some rest = ap unescaped (sym (append-nil rest)) ∙ unescaped_run rest [] none ∙ ap Some (append-nil rest) in
    ap (option_map (λ more. bytes ++ more)) (sym alone) ∙ was

-- what is left gets shorter
pub shorter_cut : (rest plain back after : List ℕ) → IsCutAt 92 rest plain back → length after < length back → length after < length rest
shorter_cut rest plain back after cut less = omega (arith, ap length cut.parts, length-append plain (92 ∷ back))

-- ---- a text that is written

plain_alone : (byte : ℕ) → is_printable byte ≡ true → escape_of byte ≡ byte ∷ []
plain_alone byte plain = grind (arith, nat_tests)

pub escaped_run : (front rest : List ℕ) → All (λ b. is_printable b ≡ true) front → escaped (front ++ rest) ≡ front ++ escaped rest
escaped_run [] rest plain = refl
escaped_run (byte ∷ front) rest plain =
    ap (λ l. l ++ escaped (front ++ rest)) (plain_alone byte (All-head (λ b. is_printable b ≡ true) byte front plain))
    ∙ ap (λ l. byte ∷ l) (escaped_run front rest (All-tail (λ b. is_printable b ≡ true) byte front plain))

-- one more escape was written
pub write_step : (text rest plain back all : List ℕ) (byte : ℕ) → IsCutWhere is_printable rest plain byte back → text ++ escaped rest ≡ all → ((text ++ plain) ++ escape_of byte) ++ escaped back ≡ all
write_step text rest plain back all byte cut was =
    append_assoc (text ++ plain) (escape_of byte) (escaped back) ∙ append_assoc text plain (escape_of byte ++ escaped back)
    ∙ ap (λ l. text ++ l) (sym (ap escaped cut.parts ∙ escaped_run plain (byte ∷ back) cut.before)) ∙ was

-- no escape is left
pub write_end : (text rest all : List ℕ) → All (λ b. is_printable b ≡ true) rest → text ++ escaped rest ≡ all → text ++ rest ≡ all
write_end text rest all plain was =
    ap (λ l. text ++ l) (sym (ap escaped (sym (append-nil rest)) ∙ escaped_run rest [] plain ∙ append-nil rest)) ∙ was

pub shorter_where : (rest plain back : List ℕ) (byte : ℕ) → IsCutWhere is_printable rest plain byte back → length back < length rest
shorter_where rest plain back byte cut = omega (arith, ap length cut.parts, length-append plain (byte ∷ back))
