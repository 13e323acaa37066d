-- What a text is read as.
use Rattle.std.proofs.Common.{◌≡◌, ◌≢◌, ◌↔◌, ℕ, zero, suc, ◌+◌, ◌-◌, ◌*◌, ◌/◌, ◌<◌, ◌≤◌, Bool, true, false, not, ◌==◌, cond, List, [], ◌∷◌, ◌++◌, length, drop, get_or, Option, Some, None, Result, Ok, Err, refl, ap, sym, ◌∙◌, subst, arith}
use Rattle.std.specs.List.{AllPass, list_any, position_from}
use Rattle.std.proofs.lemmas.Bool.Decides.{nat_tests}
use Rattle.std.proofs.lemmas.List.{take-append-drop, drop_at, length-drop}
use Rattle.base32_text.specs.Bits.{joined, groups}
use Rattle.base32_text.specs.Alphabet.{is_letter}
use Rattle.base32_text.specs.Base32.{letter_bits, Spells}
use Rattle.base32_text.specs.Refusals.{is_bad_length, loose_bits, is_loose, IsFirstBad, Refuses}
use Rattle.base32_text.specs.Reading.{reading_at, reading}
use Rattle.base32_text.specs.declared.fault.B32Fault.{B32Fault}
use Rattle.base32_text.specs.declared.fault.B32Fault.TheVariants.{BadCharacter, BadLength, LooseBits, NoMemory}
use Rattle.base32_text.proofs.BitLemmas.{AreBits, joined-groups, are_bits-joined, are_bits-drop, length-joined}
use Rattle.base32_text.proofs.AlphabetLemmas.{all_from, AreLetters}
use Rattle.base32_text.proofs.SpellingLemmas.{noughts, length-letter_bits, counts, bytes_count, one_meaning, groups-lt}

-- bits none of which is 1 are zeros, and the other way round
pub any_one-noughts : (n : ℕ) → list_any (λ bit. bit == 1) (noughts n) ≡ false
any_one-noughts zero = refl
any_one-noughts (suc n) = any_one-noughts n

pub noughts_by : (bits : List ℕ) → AreBits bits → list_any (λ bit. bit == 1) bits ≡ false → bits ≡ noughts (length bits)
noughts_by [] p e = refl
noughts_by (zero ∷ bits) p e = ap (λ t. 0 ∷ t) (noughts_by bits p.1 e)
noughts_by (suc zero ∷ bits) p e = cc
noughts_by (suc (suc b) ∷ bits) p e = absurd (let h : suc (suc b) < 2 = p.0 in omega arith)

-- where the first byte stands that is no letter
abbrev FirstBad : List ℕ → Option ℕ → Type 0
FirstBad text None = AreLetters text
FirstBad text (Some place) = IsFirstBad text place

record FoundFrom (text : List ℕ) (from place : ℕ) : Type 0 where
  at : ℕ
  same : place ≡ from + at
  first : IsFirstBad text at

abbrev FirstFrom : List ℕ → ℕ → Option ℕ → Type 0
FirstFrom text from None = AreLetters text
FirstFrom text from (Some place) = FoundFrom text from place

bad_here : (x : ℕ) (xs : List ℕ) (from : ℕ) → is_letter x ≡ false → FoundFrom (x ∷ xs) from from
bad_here x xs from e = record { at = 0; same = omega arith; first = record { within = omega arith; bad = e; before = λ k h. absurd (omega arith) } }

letter_before : (x : ℕ) (xs : List ℕ) (at : ℕ) → is_letter x ≡ true → ((k : ℕ) → k < at → is_letter (get_or xs k 0) ≡ true)
    → (k : ℕ) → k < suc at → is_letter (get_or (x ∷ xs) k 0) ≡ true
letter_before x xs at e h zero l = e
letter_before x xs at e h (suc k) l = h k (omega arith)

first_on : (x : ℕ) (xs : List ℕ) (from : ℕ) → is_letter x ≡ true → (o : Option ℕ) → FirstFrom xs (from + 1) o → FirstFrom (x ∷ xs) from o
first_on x xs from e None f = (e, f)
first_on x xs from e (Some place) f = record {
  at = suc f.at;
  same = (let h : place ≡ from + 1 + f.at = f.same in omega arith);
  first = record {
    within = (let h : f.at < length xs = f.first.within in omega arith);
    bad = f.first.bad;
    before = letter_before x xs f.at e f.first.before;
  };
}

first_by : (x : ℕ) (xs : List ℕ) (from : ℕ) (b : Bool) → is_letter x ≡ b → (o : Option ℕ) → FirstFrom xs (from + 1) o
    → FirstFrom (x ∷ xs) from (cond (not b) (Some from) o)
first_by x xs from true e o f = first_on x xs from e o f
first_by x xs from false e o f = bad_here x xs from e

first_from : (text : List ℕ) (from : ℕ) → FirstFrom text from (position_from (λ byte. not (is_letter byte)) from text)
first_from [] from = tt
first_from (x ∷ xs) from = first_by x xs from (is_letter x) refl _ (first_from xs (from + 1))

from_start : (text : List ℕ) (o : Option ℕ) → FirstFrom text 0 o → FirstBad text o
from_start text None f = f
from_start text (Some place) f = let e : f.at ≡ place = (let h : place ≡ 0 + f.at = f.same in omega arith) in subst (IsFirstBad text) e f.first

-- what the reading says of the text
abbrev pub Reads : List ℕ → Result (List ℕ) B32Fault → Type 0
Reads text (Ok bytes) = Spells text bytes
Reads text (Err fault) = (fault ≢ NoMemory) × Refuses fault text

five_left : (letters : ℕ) → is_bad_length letters ≡ false → 5 * letters - 8 * (5 * letters / 8) < 5
five_left letters e = grind (arith, nat_tests)

whole_octets : (n : ℕ) → 8 * (n / 8) ≤ n
whole_octets n = omega arith

-- good letters, a good length and no loose bits: the octets are spelled
spelled : (text : List ℕ) → AreLetters text → is_bad_length (length text) ≡ false → is_loose text ≡ false
    → Spells text (groups 8 (5 * length text / 8) (letter_bits text))
spelled text letters good tight =
    let count : ℕ = 5 * length text / 8 in
    let bits : List ℕ = letter_bits text in
    let are : AreBits bits = are_bits-joined 5 _ in
    let long : length bits ≡ 5 * length text = length-letter_bits text in
    let left : length (drop (8 * count) bits) ≡ 5 * length text - 8 * count = length-drop (8 * count) bits ∙ ap (λ n. n - 8 * count) long in
    let enough : 8 * count ≤ length bits = (let h : 8 * (5 * length text / 8) ≤ 5 * length text = whole_octets (5 * length text) in omega arith) in
    record {
      letters = all_from (λ byte. is_letter byte ≡ true) text letters;
      octets = all_from (λ byte. byte < 256) (groups 8 count bits) (groups-lt 8 count bits are);
      zeros = 5 * length text - 8 * count;
      fewest = five_left (length text) good;
      bits =
          sym (take-append-drop (8 * count) bits)
          ∙ ap (λ t. t ++ drop (8 * count) bits) (sym (joined-groups 8 count bits are enough))
          ∙ ap (λ t. joined 8 (groups 8 count bits) ++ t)
          (noughts_by (drop (8 * count) bits) (are_bits-drop (8 * count) bits are) tight ∙ ap noughts left);
    }

by_tests : (text : List ℕ) → AreLetters text → (bad loose : Bool) → is_bad_length (length text) ≡ bad → is_loose text ≡ loose
    → Reads text (cond bad (Err BadLength) (cond loose (Err LooseBits) (Ok (groups 8 (5 * length text / 8) (letter_bits text)))))
by_tests text letters true loose b l = ((λ e. cc), (all_from (λ byte. is_letter byte ≡ true) text letters, b))
by_tests text letters false true b l = ((λ e. cc), (all_from (λ byte. is_letter byte ≡ true) text letters, b, l))
by_tests text letters false false b l = spelled text letters b l

at_place : (text : List ℕ) (o : Option ℕ) → FirstBad text o → Reads text (reading_at o text)
at_place text None letters = by_tests text letters (is_bad_length (length text)) (is_loose text) refl refl
at_place text (Some place) first = ((λ e. cc), first)

pub reads : (text : List ℕ) → Reads text (reading text)
unfolding reading
reads text = at_place text _ (from_start text _ (first_from text 0))

-- a text that spells bytes has good letters, a good length and no loose bits
good_length : (letters bytes loose : ℕ) → 5 * letters ≡ 8 * bytes + loose → loose < 5 → is_bad_length letters ≡ false
good_length letters bytes loose e h = grind (arith, nat_tests)

tight_bits : (text bytes : List ℕ) (s : Spells text bytes) → loose_bits text ≡ noughts s.zeros
tight_bits text bytes s =
    rw (bytes_count text bytes s, s.bits)
    (drop_at (joined 8 bytes) (noughts s.zeros) (8 * length bytes) (length-joined 8 bytes))

pub spelled_or_refused : (text bytes : List ℕ) (fault : B32Fault) → fault ≢ NoMemory → Spells text bytes → Refuses fault text → ⊥
spelled_or_refused text bytes (BadCharacter place) some s r =
    let letter : is_letter (get_or text place 0) ≡ true = s.letters place 0 r.within in
    let bad : is_letter (get_or text place 0) ≡ false = r.bad in
    cc
spelled_or_refused text bytes BadLength some s r =
    let good : is_bad_length (length text) ≡ false = good_length (length text) (length bytes) s.zeros (counts text bytes s) s.fewest in
    let bad : is_bad_length (length text) ≡ true = r.1 in
    cc
spelled_or_refused text bytes LooseBits some s r =
    let tight : is_loose text ≡ false = ap (list_any (λ bit. bit == 1)) (tight_bits text bytes s) ∙ any_one-noughts s.zeros in
    let loose : is_loose text ≡ true = r.2 in
    cc
spelled_or_refused text bytes NoMemory some s r = some refl

first_is_one : (text : List ℕ) (p q : ℕ) → IsFirstBad text p → IsFirstBad text q → p < q → ⊥
first_is_one text p q f g l =
    let letter : is_letter (get_or text p 0) ≡ true = g.before p l in
    let bad : is_letter (get_or text p 0) ≡ false = f.bad in
    cc

same_place : (p q : ℕ) → (p < q → ⊥) → (q < p → ⊥) → p ≡ q
same_place p q f g = omega arith

some_bad : (text : List ℕ) (p : ℕ) → IsFirstBad text p → AllPass is_letter text → ⊥
some_bad text p f letters =
    let letter : is_letter (get_or text p 0) ≡ true = letters p 0 f.within in
    let bad : is_letter (get_or text p 0) ≡ false = f.bad in
    cc

-- a text has one refusal
pub one_refusal : (text : List ℕ) (f g : B32Fault) → f ≢ NoMemory → g ≢ NoMemory → Refuses f text → Refuses g text → f ≡ g
one_refusal text (BadCharacter p) (BadCharacter q) m n a b = ap BadCharacter (same_place p q (first_is_one text p q a b) (first_is_one text q p b a))
one_refusal text (BadCharacter p) BadLength m n a b = absurd (some_bad text p a b.0)
one_refusal text (BadCharacter p) LooseBits m n a b = absurd (some_bad text p a b.0)
one_refusal text (BadCharacter p) NoMemory m n a b = absurd (n refl)
one_refusal text BadLength (BadCharacter p) m n a b = absurd (some_bad text p b a.0)
one_refusal text BadLength BadLength m n a b = refl
one_refusal text BadLength LooseBits m n a b = (let h : is_bad_length (length text) ≡ true = a.1 in let k : is_bad_length (length text) ≡ false = b.1 in cc)
one_refusal text BadLength NoMemory m n a b = absurd (n refl)
one_refusal text LooseBits (BadCharacter p) m n a b = absurd (some_bad text p b a.0)
one_refusal text LooseBits BadLength m n a b = (let h : is_bad_length (length text) ≡ true = b.1 in let k : is_bad_length (length text) ≡ false = a.1 in cc)
one_refusal text LooseBits LooseBits m n a b = refl
one_refusal text LooseBits NoMemory m n a b = absurd (n refl)
one_refusal text NoMemory g m n a b = absurd (m refl)

spells_as : (text bytes : List ℕ) (r : Result (List ℕ) B32Fault) → Reads text r → Spells text bytes → r ≡ Ok bytes
spells_as text bytes (Ok other) r s = ap Ok (one_meaning text other bytes r s)
spells_as text bytes (Err fault) r s = absurd (spelled_or_refused text bytes fault r.0 s r.1)

refuses_as : (text : List ℕ) (fault : B32Fault) (r : Result (List ℕ) B32Fault) → Reads text r → fault ≢ NoMemory → Refuses fault text → r ≡ Err fault
refuses_as text fault (Ok bytes) r some f = absurd (spelled_or_refused text bytes fault some r f)
refuses_as text fault (Err other) r some f = ap Err (one_refusal text other fault r.0 some r.1 f)

pub reading_is_spelled : (text bytes : List ℕ) → Spells text bytes ↔ (reading text ≡ Ok bytes)
reading_is_spelled text bytes = (spells_as text bytes (reading text) (reads text), λ e. subst (Reads text) e (reads text))

pub reading_is_refused : (text : List ℕ) (fault : B32Fault) → fault ≢ NoMemory → (Refuses fault text ↔ (reading text ≡ Err fault))
reading_is_refused text fault some =
    (refuses_as text fault (reading text) (reads text) some, λ e. (subst (Reads text) e (reads text)).1)
