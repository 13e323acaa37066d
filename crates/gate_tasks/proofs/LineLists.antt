-- Scripts that are cut into lines.
use Rattle.std.proofs.Common.{◌≡◌, ◌≢◌, ℕ, ◌+◌, ◌-◌, ◌<◌, ◌≤◌, List, [], ◌∷◌, ◌++◌, length, Bool, true, false, cond, refl, sym, ap, subst, ◌∙◌, append_assoc, length-append, arith, ne_eqb, eqb-true, get_or}
use Rattle.std.specs.Prelude.{◌==◌}
use Rattle.std.specs.List.{flat_map}
use Rattle.std.specs.Io.{IsEmptyOrEndsWith}
use Rattle.std.proofs.lemmas.Bool.Decides.{nat_tests}
use Rattle.std.proofs.lemmas.List.{append-nil}
use Rattle.std.proofs.lemmas.List.Elements.{All-head, All-tail}
use Rattle.gate_tasks.specs.Lines.{LacksLf, Line, onto_line, lines_of, line_bytes, fits, is_within}
use Rattle.gate_tasks.specs.Reading.{BeginsWithLine}

-- bytes in front of the first line
onto_lines : List ℕ → List Line → List Line
onto_lines [] lines = lines
onto_lines (byte ∷ front) lines = onto_line byte (onto_lines front lines)

onto_first_line : (front : List ℕ) (line : Line) (lines : List Line) → onto_lines front (line ∷ lines) ≡ record { bytes = front ++ line.bytes; ended = line.ended } ∷ lines
unfolding onto_lines
onto_first_line [] line lines = refl
onto_first_line (byte ∷ front) line lines = ap (onto_line byte) (onto_first_line front line lines)

onto_none : (byte : ℕ) (front : List ℕ) → onto_lines (byte ∷ front) [] ≡ record { bytes = byte ∷ front; ended = false } ∷ []
unfolding onto_lines
onto_none byte [] = refl
onto_none byte (next ∷ front) = ap (onto_line byte) (onto_none next front)

-- a front without an LF stands in the first line
lines_front : (front rest : List ℕ) → LacksLf front → lines_of (front ++ rest) ≡ onto_lines front (lines_of rest)
unfolding onto_lines
lines_front [] rest lacks = refl
lines_front (byte ∷ front) rest lacks =
    ap (λ t. cond t (record { bytes = []; ended = true } ∷ lines_of (front ++ rest)) (onto_line byte (lines_of (front ++ rest)))) (ne_eqb byte 10 (All-head (λ b. b ≢ 10) byte front lacks))
    ∙ ap (onto_line byte) (lines_front front rest (All-tail (λ b. b ≢ 10) byte front lacks))

-- the first line, where an LF ends it
pub lines_ended : (line rest : List ℕ) → LacksLf line → lines_of (line_bytes (record { bytes = line; ended = true }) ++ rest) ≡ record { bytes = line; ended = true } ∷ lines_of rest
lines_ended line rest lacks =
    ap lines_of (append_assoc line (10 ∷ []) rest) ∙ lines_front line (10 ∷ rest) lacks ∙ onto_first_line line (record { bytes = []; ended = true }) (lines_of rest)
    ∙ ap (λ l. record { bytes = l; ended = true } ∷ lines_of rest) (append-nil line)

-- the last line, where none does
pub lines_last : (line : List ℕ) → LacksLf line → 0 < length line → lines_of line ≡ record { bytes = line; ended = false } ∷ []
lines_last [] lacks some = absurd (omega arith)
lines_last (byte ∷ line) lacks some = ap lines_of (sym (append-nil (byte ∷ line))) ∙ lines_front (byte ∷ line) [] lacks ∙ onto_none byte line

-- bytes that begin with a line that is over a limit
pub record FirstIsLong (read : ℕ) (bytes : List ℕ) : Type 0 where
  pub line : Line
  pub more : List Line
  pub lines : lines_of bytes ≡ line ∷ more
  pub over : is_within read line ≡ false

longer : (read size more : ℕ) (ended : Bool) → fits read size false ≡ false → fits read (size + more) ended ≡ false
longer read size more true over = grind (arith, nat_tests)
longer read size more false over = grind (arith, nat_tests)

long_with : (read : ℕ) (front rest : List ℕ) (lines : List Line) → read ≤ 268435456 → LacksLf front → lines_of rest ≡ lines → fits read (length front) false ≡ false → FirstIsLong read (front ++ rest)
long_with read [] rest [] within lacks is over = absurd (none within over)
  where
    none : read ≤ 268435456 → fits read 0 false ≡ false → ⊥
    none small long = grind (arith, nat_tests)
long_with read (byte ∷ front) rest [] within lacks is over = record {
  line = record { bytes = byte ∷ front; ended = false };
  more = [];
  lines = lines_front (byte ∷ front) rest lacks ∙ ap (onto_lines (byte ∷ front)) is ∙ onto_none byte front;
  over = over;
}
long_with read front rest (line ∷ lines) within lacks is over = record {
  line = record { bytes = front ++ line.bytes; ended = line.ended };
  more = lines;
  lines = lines_front front rest lacks ∙ ap (onto_lines front) is ∙ onto_first_line front line lines;
  over = ap (λ n. fits read n line.ended) (length-append front line.bytes) ∙ longer read (length front) (length line.bytes) line.ended over;
}

pub long_first : (read : ℕ) (bytes line : List ℕ) (ended : Bool) → read ≤ 268435456 → BeginsWithLine bytes (record { bytes = line; ended = ended }) → fits read (length line) ended ≡ false → FirstIsLong read bytes
long_first read bytes line true within begins over = record {
  line = record { bytes = line; ended = true };
  more = lines_of begins.rest;
  lines = ap lines_of begins.parts ∙ lines_ended line begins.rest begins.before;
  over = over;
}
long_first read bytes line false within begins over =
    subst (FirstIsLong read) (sym (begins.parts ∙ append_assoc line [] begins.rest)) (long_with read line begins.rest (lines_of begins.rest) within begins.before refl over)

-- whole lines
last_of : (xs : List ℕ) (byte : ℕ) → get_or (xs ++ byte ∷ []) (length xs) 0 ≡ byte
last_of [] byte = refl
last_of (x ∷ xs) byte = last_of xs byte

pub ends_whole : (before line : List ℕ) → IsEmptyOrEndsWith (before ++ line_bytes (record { bytes = line; ended = true })) 10
ends_whole before line some =
    let all = before ++ (line ++ 10 ∷ []) in
    let split : all ≡ (before ++ line) ++ 10 ∷ [] = sym (append_assoc before line (10 ∷ [])) in
    let size : length all - 1 ≡ length (before ++ line) = omega (arith, ap length split, length-append (before ++ line) (10 ∷ [])) in
    ap (λ n. get_or all n 0) size ∙ ap (λ l. get_or l (length (before ++ line)) 0) split ∙ last_of (before ++ line) 10

-- the lines joined
onto_joined : (byte : ℕ) (lines : List Line) → flat_map line_bytes (onto_line byte lines) ≡ byte ∷ flat_map line_bytes lines
onto_joined byte [] = refl
onto_joined byte (line ∷ more) = refl

one_more : (t : Bool) (byte : ℕ) (script : List ℕ) → (byte == 10) ≡ t → flat_map line_bytes (lines_of script) ≡ script
    → flat_map line_bytes (cond t (record { bytes = []; ended = true } ∷ lines_of script) (onto_line byte (lines_of script))) ≡ byte ∷ script
one_more true byte script is same = ap (λ b. b ∷ flat_map line_bytes (lines_of script)) (sym (eqb-true byte 10 is)) ∙ ap (λ l. byte ∷ l) same
one_more false byte script is same = onto_joined byte (lines_of script) ∙ ap (λ l. byte ∷ l) same

pub lines_join : (script : List ℕ) → flat_map line_bytes (lines_of script) ≡ script
lines_join [] = refl
lines_join (byte ∷ script) = one_more (byte == 10) byte script refl (lines_join script)
