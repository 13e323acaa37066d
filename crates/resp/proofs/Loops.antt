-- Loops: one thing read after the other, and byte after byte of a line.
use Rattle.std.proofs.Common.{◌≡◌, ◌<◌, ◌≤◌, ◌+◌, ◌-◌, ℕ, suc, List, [], ◌∷◌, ◌++◌, length, get_or, take, drop, Result, Ok, Err, refl, sym, ap, ◌∙◌, append_assoc, arith, add-one, drop-cons}
use Rattle.std.proofs.Math.ListN.{drop_of_length-le}
use Rattle.std.proofs.Math.Seq.{take-length}
use Rattle.std.proofs.lemmas.Bool.{ne_eqb, eq-eqb, lt-ltb, le-ltb}
use Rattle.std.proofs.lemmas.List.{append-nil, length-drop, length-take, take_more}
use Rattle.resp.specs.declared.fault.Wrong.{Wrong}
use Rattle.resp.specs.declared.fault.Wrong.TheVariants.{Malformed, TooLarge}
use Rattle.resp.specs.declared.limits.Limits.{Limits}
use Rattle.resp.specs.declared.fault.ReadStop.{ReadStop}
use Rattle.resp.specs.declared.fault.ReadStop.TheVariants as stops
use Rattle.resp.specs.Reading.{Read, More, At, Stops, ◌>>=◌, byte_at, only, all_at, span, text_step, digit_step, digits_at}
use Rattle.resp.proofs.Spans.{span-ends, span-goes, span-fails, span-nil, with_feed}

-- what was read before, and what is still read
abbrev pub with_front : {A : Type 0} → List A → Read (List A) → Read (List A)
with_front front read = read >>= λ x. Ok (front ++ x.0, x.1)

regroup : {A : Type 0} (front : List A) (a : A) (read : Read (List A)) → with_front front (read >>= λ x. Ok (a ∷ x.0, x.1)) ≡ with_front (front ++ a ∷ []) read
regroup {A} front a (Ok x) = ap (λ (all : List A). Ok (all, x.1)) (simp append_assoc)
regroup front a (Err s) = refl

pub goes_on : {A : Type 0} (read : List ℕ → Read A) (front : List A) (count i : ℕ) (bytes : List ℕ) (a : A) (after : List ℕ) (total : Read (List A)) → i < count → read bytes ≡ Ok (a, after)
    → with_front front (all_at read (count - i) bytes) ≡ total → with_front (front ++ a ∷ []) (all_at read (count - (i + 1)) after) ≡ total
unfolding all_at
goes_on {A} read front count i bytes a after total lt h so_far =
    let k : count - i ≡ suc (count - (i + 1)) = omega arith in
    let one : with_front front (all_at read (count - i) bytes) ≡ with_front (front ++ a ∷ []) (all_at read (count - (i + 1)) after) = rw (k, h) (regroup front a (all_at read (count - (i + 1)) after)) in
    sym one ∙ so_far

pub ends : {A : Type 0} (Came : Type 0) (stop : ReadStop) (read : List ℕ → Read A) (front : List A) (count i : ℕ) (bytes : List ℕ) (total : Read (List A)) → i < count → Stops Came stop (read bytes)
    → with_front front (all_at read (count - i) bytes) ≡ total → Stops (Unit {0}) stop total
unfolding all_at
ends Came stops.NoMemory read front count i bytes total lt h so_far = tt
ends Came (stops.Wrong w left) read front count i bytes total lt h so_far =
    let k : count - i ≡ suc (count - (i + 1)) = omega arith in
    let one : with_front front (all_at read (count - i) bytes) ≡ Err (At w left) = rw (k, h) refl in
    sym so_far ∙ one
ends Came stops.More read front count i bytes total lt h so_far =
    let k : count - i ≡ suc (count - (i + 1)) = omega arith in
    let one : with_front front (all_at read (count - i) bytes) ≡ Err More = rw (k, h) refl in
    sym so_far ∙ one

pub is_done : {A : Type 0} (read : List ℕ → Read A) (front : List A) (count i : ℕ) (bytes : List ℕ) (total : Read (List A)) → count ≤ i → with_front front (all_at read (count - i) bytes) ≡ total → total ≡ Ok (front, bytes)
unfolding all_at
is_done {A} read front count i bytes total le so_far =
    let k : count - i ≡ 0 = omega arith in
    let one : with_front front (all_at read (count - i) bytes) ≡ Ok (front, bytes) = rw k (ap (λ (all : List A). Ok (all, bytes)) (append-nil front)) in
    sym so_far ∙ one

-- ---- byte after byte of a line

at_byte : (bytes : List ℕ) (at : ℕ) → at < length bytes → drop at bytes ≡ get_or bytes at 0 ∷ drop (at + 1) bytes
at_byte bytes at lt = rw (add-one, drop-cons bytes at 0) refl

pub line_goes : {S : Type 0} (step : S → ℕ → Result S Wrong) (s next : S) (bytes : List ℕ) (at : ℕ) (total : Read S) → at < length bytes → (get_or bytes at 0 ≡ 13 → ⊥) → step s (get_or bytes at 0) ≡ Ok next
    → span step s (drop at bytes) ≡ total → span step next (drop (at + 1) bytes) ≡ total
line_goes step s next bytes at total lt no_cr st so_far =
    sym (span-goes step s (get_or bytes at 0) next (drop (at + 1) bytes) (ne_eqb (get_or bytes at 0) 13 no_cr) st) ∙ ap (λ b. span step s b) (sym (at_byte bytes at lt)) ∙ so_far

pub line_fails : {S : Type 0} (step : S → ℕ → Result S Wrong) (s : S) (bytes : List ℕ) (at : ℕ) (w : Wrong) (total : Read S) → at < length bytes → (get_or bytes at 0 ≡ 13 → ⊥) → step s (get_or bytes at 0) ≡ Err w
    → span step s (drop at bytes) ≡ total → total ≡ Err (At w (length bytes - at))
line_fails step s bytes at w total lt no_cr st so_far =
    sym so_far ∙ ap (λ b. span step s b) (at_byte bytes at lt) ∙ span-fails step s (get_or bytes at 0) w (drop (at + 1) bytes) (ne_eqb (get_or bytes at 0) 13 no_cr) st
    ∙ ap (λ n. Err (At w n)) (omega (arith, length-drop (at + 1) bytes))

line_ends : {S : Type 0} (step : S → ℕ → Result S Wrong) (s : S) (bytes : List ℕ) (at : ℕ) (total : Read S) → at < length bytes → get_or bytes at 0 ≡ 13
    → span step s (drop at bytes) ≡ total → total ≡ with_feed s (drop (at + 1) bytes)
line_ends step s bytes at total lt cr so_far =
    sym so_far ∙ ap (λ b. span step s b) (at_byte bytes at lt) ∙ span-ends step s (get_or bytes at 0) (drop (at + 1) bytes) (eq-eqb (get_or bytes at 0) 13 cr)

pub line_breaks_off : {S : Type 0} (step : S → ℕ → Result S Wrong) (s : S) (bytes : List ℕ) (at : ℕ) (total : Read S) → length bytes ≤ at
    → span step s (drop at bytes) ≡ total → total ≡ Err More
line_breaks_off step s bytes at total le so_far =
    sym so_far ∙ ap (λ b. span step s b) (drop_of_length-le bytes le) ∙ span-nil step s

-- the range from a place on
from_there : (bytes : List ℕ) (n : ℕ) → drop n bytes ≡ take (length bytes - n) (drop n bytes)
from_there bytes n = sym (ap (λ k. take k (drop n bytes)) (sym (length-drop n bytes)) ∙ take-length (drop n bytes))

pub line_is_read : {S : Type 0} (step : S → ℕ → Result S Wrong) (s : S) (bytes : List ℕ) (at lf : ℕ) (rest : List ℕ) (total : Read S) → at < length bytes → get_or bytes at 0 ≡ 13
    → byte_at (only 10) (take (length bytes - (at + 1)) (drop (at + 1) bytes)) ≡ Ok (lf, rest) → span step s (drop at bytes) ≡ total → total ≡ Ok (s, rest)
line_is_read step s bytes at lf rest total lt cr feed so_far =
    line_ends step s bytes at total lt cr so_far ∙ ap (λ b. with_feed s b) (from_there bytes (at + 1)) ∙ ap (λ r. r >>= λ x. Ok (s, x.1)) feed

pub line_stops : {S : Type 0} (step : S → ℕ → Result S Wrong) (s : S) (bytes : List ℕ) (at : ℕ) (stop : ReadStop) (total : Read S) → at < length bytes → get_or bytes at 0 ≡ 13
    → Stops ⊥ stop (byte_at (only 10) (take (length bytes - (at + 1)) (drop (at + 1) bytes))) → span step s (drop at bytes) ≡ total → Stops ⊥ stop total
line_stops step s bytes at stops.More total lt cr feed so_far =
    line_ends step s bytes at total lt cr so_far ∙ ap (λ b. with_feed s b) (from_there bytes (at + 1)) ∙ ap (λ r. r >>= λ x. Ok (s, x.1)) feed
line_stops step s bytes at (stops.Wrong w left) total lt cr feed so_far =
    line_ends step s bytes at total lt cr so_far ∙ ap (λ b. with_feed s b) (from_there bytes (at + 1)) ∙ ap (λ r. r >>= λ x. Ok (s, x.1)) feed
line_stops step s bytes at stops.NoMemory total lt cr feed so_far = feed

-- ---- the bytes of a text

long : (bytes : List ℕ) (at : ℕ) → at < length bytes → length (take at bytes) ≡ at
long bytes at lt = omega (arith, length-take at bytes)

pub text_goes : (limits : Limits) (bytes : List ℕ) (at : ℕ) (total : Read (List ℕ)) → at < length bytes → (get_or bytes at 0 ≡ 13 → ⊥) → (get_or bytes at 0 ≡ 10 → ⊥) → at < limits.line
    → span (text_step limits) (take at bytes) (drop at bytes) ≡ total → span (text_step limits) (take (at + 1) bytes) (drop (at + 1) bytes) ≡ total
text_goes limits bytes at total lt no_cr no_lf room so_far =
    let st : text_step limits (take at bytes) (get_or bytes at 0) ≡ Ok (take (at + 1) bytes) =
    rw (ne_eqb (get_or bytes at 0) 10 no_lf, lt-ltb (length (take at bytes)) limits.line (omega (arith, long bytes at lt, room)), take_more bytes at 0 lt) refl in
    line_goes (text_step limits) (take at bytes) (take (at + 1) bytes) bytes at total lt no_cr st so_far

pub text_lf : (limits : Limits) (bytes : List ℕ) (at : ℕ) (total : Read (List ℕ)) → at < length bytes → get_or bytes at 0 ≡ 10
    → span (text_step limits) (take at bytes) (drop at bytes) ≡ total → total ≡ Err (At Malformed (length bytes - at))
text_lf limits bytes at total lt lf so_far =
    let st : text_step limits (take at bytes) (get_or bytes at 0) ≡ Err Malformed = rw (eq-eqb (get_or bytes at 0) 10 lf) refl in
    line_fails (text_step limits) (take at bytes) bytes at Malformed total lt (λ cr. absurd (omega (arith, lf, cr))) st so_far

pub text_long : (limits : Limits) (bytes : List ℕ) (at : ℕ) (total : Read (List ℕ)) → at < length bytes → (get_or bytes at 0 ≡ 13 → ⊥) → (get_or bytes at 0 ≡ 10 → ⊥) → limits.line ≤ at
    → span (text_step limits) (take at bytes) (drop at bytes) ≡ total → total ≡ Err (At TooLarge (length bytes - at))
text_long limits bytes at total lt no_cr no_lf full so_far =
    let st : text_step limits (take at bytes) (get_or bytes at 0) ≡ Err TooLarge =
    rw (ne_eqb (get_or bytes at 0) 10 no_lf, le-ltb (length (take at bytes)) limits.line (omega (arith, long bytes at lt, full))) refl in
    line_fails (text_step limits) (take at bytes) bytes at TooLarge total lt no_cr st so_far

-- ---- the digits of a number

pub number_is : (limits : Limits) (most n count : ℕ) (s : ℕ × ℕ) (bytes rest : List ℕ) → span (digit_step limits most) s bytes ≡ Ok ((n, count), rest) → digits_at limits most s bytes ≡ Ok (n, rest)
unfolding digits_at
number_is limits most n count s bytes rest e = ap (λ r. r >>= λ x. Ok (x.0.0, x.1)) e

pub number_stops : (limits : Limits) (most : ℕ) (s : ℕ × ℕ) (bytes : List ℕ) (stop : ReadStop) → Stops ⊥ stop (span (digit_step limits most) s bytes) → Stops ⊥ stop (digits_at limits most s bytes)
unfolding digits_at
number_stops limits most s bytes stops.More e = ap (λ r. r >>= λ x. Ok (x.0.0, x.1)) e
number_stops limits most s bytes (stops.Wrong w left) e = ap (λ r. r >>= λ x. Ok (x.0.0, x.1)) e
number_stops limits most s bytes stops.NoMemory e = e
