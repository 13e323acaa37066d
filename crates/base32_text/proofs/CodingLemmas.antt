-- What stands between a text and bytes while one is made of the other.
use Rattle.std.proofs.Common.{◌≡◌, below_more, Fits, w8, ◌==◌, ℕ, ◌+◌, ◌*◌, ◌/◌, ◌<◌, ◌≤◌, Bool, true, false, List, [], ◌∷◌, ◌++◌, length, take, drop, map, get_or, refl, ap, sym, ◌∙◌, subst, arith, append_assoc, length-append, Result, Ok, Err}
use Rattle.std.specs.Prelude.{OnErr}
use Rattle.std.specs.List.{All, AllByRecursion, AllPass, list_any}
use Rattle.std.proofs.lemmas.Bool.Decides.{nat_tests}
use Rattle.std.proofs.lemmas.List.{append-nil, map-append, take_more, take_all, drop_at, get_or_default}
use Rattle.base32_text.specs.Bits.{bits_of, joined}
use Rattle.base32_text.specs.Alphabet.{is_letter, value_of, letter_of}
use Rattle.base32_text.specs.Base32.{letter_bits, Spells, HasMore, spelling}
use Rattle.base32_text.specs.Refusals.{is_bad_length, loose_bits, is_loose, Refuses}
use Rattle.base32_text.proofs.BitLemmas.{AreBits, length-bits_of, length-joined, joined-push, are_bits-joined, are_bits-drop}
use Rattle.base32_text.proofs.AlphabetLemmas.{all_from, values-letters, are_letters}
use Rattle.base32_text.proofs.SpellingLemmas.{noughts, length-letter_bits, is_spelling}
use Rattle.base32_text.specs.declared.fault.B32Fault.TheVariants.{BadLength, LooseBits}
use Rattle.base32_text.proofs.ReadingLemmas.{noughts_by}

-- behind `before` letters were written; they and the bits that wait are these bits
pub record Written (before now waiting bits : List ℕ) : Type 0 where
  pub values : List ℕ
  pub small : AllByRecursion (λ value. value < 32) values
  pub text : now ≡ before ++ map letter_of values
  pub same : joined 5 values ++ waiting ≡ bits

pub nothing_written : (before : List ℕ) → Written before before [] []
unfolding joined
nothing_written before = record { values = []; small = tt; text = sym (append-nil before); same = refl }

pub bits_put : (before now waiting bits more after : List ℕ) → Written before now waiting bits → after ≡ waiting ++ more
    → Written before now after (bits ++ more)
bits_put before now waiting bits more after w e = record {
  values = w.values;
  small = w.small;
  text = w.text;
  same = ap (λ t. joined 5 w.values ++ t) e ∙ sym (append_assoc (joined 5 w.values) waiting more) ∙ ap (λ t. t ++ more) w.same;
}

small_push : (values : List ℕ) (value : ℕ) → AllByRecursion (λ v. v < 32) values → value < 32 → AllByRecursion (λ v. v < 32) (values ++ value ∷ [])
small_push [] value p q = (q, tt)
small_push (v ∷ values) value p q = (p.0, small_push values value p.1 q)

pub letter_written : (before now then waiting after bits : List ℕ) (value : ℕ) → Written before now waiting bits
    → value < 32 → waiting ≡ bits_of 5 value ++ after → then ≡ now ++ letter_of value ∷ [] → Written before then after bits
letter_written before now then waiting after bits value w fits e f = record {
  values = w.values ++ value ∷ [];
  small = small_push w.values value w.small fits;
  text =
      f ∙ ap (λ t. t ++ letter_of value ∷ []) w.text
      ∙ append_assoc before (map letter_of w.values) (letter_of value ∷ [])
      ∙ ap (λ t. before ++ t) (sym (map-append letter_of w.values (value ∷ [])));
  same =
      ap (λ t. t ++ after) (joined-push 5 w.values value)
      ∙ append_assoc (joined 5 w.values) (bits_of 5 value) after
      ∙ ap (λ t. joined 5 w.values ++ t) (sym e)
      ∙ w.same;
}

nothing_left : (s : List ℕ) → length s ≡ 0 → s ≡ []
nothing_left [] e = refl
nothing_left (x ∷ s) e = absurd (omega arith)

-- all bits are written: the letters are the spelling
pub all_written : (before now waiting bytes : List ℕ) (zeroes : ℕ) → Written before now waiting (joined 8 bytes ++ noughts zeroes)
    → length waiting ≡ 0 → zeroes < 5 → All (λ byte. byte < 256) bytes → now ≡ before ++ spelling bytes
all_written before now waiting bytes zeroes w done few octets =
    let spells : Spells (map letter_of w.values) bytes = record {
      letters = all_from (λ byte. is_letter byte ≡ true) (map letter_of w.values) (are_letters w.values w.small);
      octets = octets;
      zeros = zeroes;
      fewest = few;
      bits =
          ap (joined 5) (values-letters w.values w.small)
          ∙ sym (append-nil (joined 5 w.values))
          ∙ ap (λ t. joined 5 w.values ++ t) (sym (nothing_left waiting done))
          ∙ w.same;
    } in
    w.text ∙ ap (λ t. before ++ t) (is_spelling (map letter_of w.values) bytes spells)

-- the letters before a place are the bytes so far and the bits that wait
pub record Taken (text : List ℕ) (place : ℕ) (bytes waiting : List ℕ) : Type 0 where
  pub letters : (k : ℕ) → k < place → is_letter (get_or text k 0) ≡ true
  pub small : AllByRecursion (λ byte. byte < 256) bytes
  pub same : joined 5 (map value_of (take place text)) ≡ joined 8 bytes ++ waiting

pub nothing_taken : (text : List ℕ) → Taken text 0 [] []
unfolding joined
nothing_taken text = record { letters = λ k h. absurd (omega arith); small = tt; same = refl }

letters_more : (text : List ℕ) (place : ℕ) → ((k : ℕ) → k < place → is_letter (get_or text k 0) ≡ true)
    → is_letter (get_or text place 0) ≡ true → (k : ℕ) → k < place + 1 → is_letter (get_or text k 0) ≡ true
letters_more text place h e = below_more _ _ h e

-- one more byte of a list, as bits
pub joined_more : (width : ℕ) (numbers : List ℕ) (i number : ℕ) → i < length numbers → number ≡ get_or numbers i 0
    → joined width (take i numbers) ++ bits_of width number ≡ joined width (take (i + 1) numbers)
joined_more width numbers i number h e =
    sym (joined-push width (take i numbers) number)
    ∙ ap (λ x. joined width (take i numbers ++ x ∷ [])) e
    ∙ ap (joined width) (sym (take_more numbers i 0 h))

pub letter_taken : (text : List ℕ) (place : ℕ) (bytes waiting after : List ℕ) (value : ℕ) → Taken text place bytes waiting
    → place < length text → is_letter (get_or text place 0) ≡ true → value ≡ value_of (get_or text place 0)
    → after ≡ waiting ++ bits_of 5 value → Taken text (place + 1) bytes after
letter_taken text place bytes waiting after value t within letter same e = record {
  letters = letters_more text place t.letters letter;
  small = t.small;
  same =
      ap (λ s. joined 5 (map value_of s)) (take_more text place 0 within)
      ∙ ap (joined 5) (map-append value_of (take place text) (get_or text place 0 ∷ []))
      ∙ ap (λ x. joined 5 (map value_of (take place text) ++ x ∷ [])) (sym same)
      ∙ joined-push 5 (map value_of (take place text)) value
      ∙ ap (λ s. s ++ bits_of 5 value) t.same
      ∙ append_assoc (joined 8 bytes) waiting (bits_of 5 value)
      ∙ ap (λ s. joined 8 bytes ++ s) (sym e);
}

octets_push : (bytes : List ℕ) (byte : ℕ) → AllByRecursion (λ b. b < 256) bytes → byte < 256 → AllByRecursion (λ b. b < 256) (bytes ++ byte ∷ [])
octets_push [] byte p q = (q, tt)
octets_push (b ∷ bytes) byte p q = (p.0, octets_push bytes byte p.1 q)

pub byte_taken : (text : List ℕ) (place : ℕ) (bytes more waiting after : List ℕ) (byte : ℕ) → Taken text place bytes waiting
    → byte < 256 → waiting ≡ bits_of 8 byte ++ after → more ≡ bytes ++ byte ∷ [] → Taken text place more after
byte_taken text place bytes more waiting after byte t fits e f = record {
  letters = t.letters;
  small = rw f (octets_push bytes byte t.small fits);
  same =
      t.same
      ∙ ap (λ s. joined 8 bytes ++ s) e
      ∙ sym (append_assoc (joined 8 bytes) (bits_of 8 byte) after)
      ∙ ap (λ s. s ++ after) (sym (joined-push 8 bytes byte))
      ∙ ap (λ s. joined 8 s ++ after) (sym f);
}

-- at the end of the text
pub record Ended (text bytes waiting : List ℕ) : Type 0 where
  pub letters : AllPass is_letter text
  pub octets : All (λ byte. byte < 256) bytes
  pub same : letter_bits text ≡ joined 8 bytes ++ waiting
  pub count : 5 * length text ≡ 8 * length bytes + length waiting

every_letter : (text : List ℕ) → ((k : ℕ) → k < length text → is_letter (get_or text k 0) ≡ true) → AllPass is_letter text
every_letter text h k d l = rw (get_or_default text k d 0 l) (h k l)

pub ended : (text : List ℕ) (place : ℕ) (bytes waiting : List ℕ) → Taken text place bytes waiting → place ≡ length text → Ended text bytes waiting
ended text place bytes waiting t end =
    let same : letter_bits text ≡ joined 8 bytes ++ waiting =
    ap (λ s. joined 5 (map value_of s)) (sym (ap (λ n. take n text) end ∙ take_all (length text) text (omega arith))) ∙ t.same in
    record {
      letters = every_letter text (λ k h. t.letters k (omega arith));
      octets = all_from (λ byte. byte < 256) bytes t.small;
      same = same;
      count = sym (length-letter_bits text) ∙ ap length same ∙ length-append (joined 8 bytes) waiting
          ∙ ap (λ n. n + length waiting) (length-joined 8 bytes);
    }

bad_count : (letters bytes waiting : ℕ) → 5 * letters ≡ 8 * bytes + waiting → 5 ≤ waiting → waiting < 8 → is_bad_length letters ≡ true
bad_count letters bytes waiting e h k = grind (arith, nat_tests)

good_count : (letters bytes waiting : ℕ) → 5 * letters ≡ 8 * bytes + waiting → waiting < 5 → is_bad_length letters ≡ false
good_count letters bytes waiting e h = grind (arith, nat_tests)

pub refused_length : (text bytes waiting : List ℕ) → Ended text bytes waiting → 5 ≤ length waiting → length waiting < 8 → Refuses BadLength text
refused_length text bytes waiting e h k = (e.letters, bad_count (length text) (length bytes) (length waiting) e.count h k)

octet_bits : (letters bytes waiting : ℕ) → 5 * letters ≡ 8 * bytes + waiting → waiting < 8 → 8 * (5 * letters / 8) ≡ 8 * bytes
octet_bits letters bytes waiting e h = omega arith

loose_are : (text bytes waiting : List ℕ) → Ended text bytes waiting → length waiting < 5 → loose_bits text ≡ waiting
loose_are text bytes waiting e h =
    ap (λ n. drop n (letter_bits text)) (octet_bits (length text) (length bytes) (length waiting) e.count (omega arith))
    ∙ ap (drop (8 * length bytes)) e.same
    ∙ drop_at (joined 8 bytes) waiting (8 * length bytes) (length-joined 8 bytes)

loose_by : (bits : List ℕ) (b : Bool) → AreBits bits → list_any (λ bit. bit == 1) bits ≡ b → (bits ≡ noughts (length bits) → ⊥) → b ≡ true
loose_by bits true p e h = refl
loose_by bits false p e h = absurd (h (noughts_by bits p e))

pub refused_loose : (text bytes waiting : List ℕ) → Ended text bytes waiting → length waiting < 5
    → (waiting ≡ noughts (length waiting) → ⊥) → Refuses LooseBits text
refused_loose text bytes waiting e few h =
    let loose : loose_bits text ≡ waiting = loose_are text bytes waiting e few in
    let are : AreBits (loose_bits text) = are_bits-drop (8 * (5 * length text / 8)) (letter_bits text) (are_bits-joined 5 (map value_of text)) in (
      e.letters,
      good_count (length text) (length bytes) (length waiting) e.count few,
      loose_by (loose_bits text) (is_loose text) are refl (λ same. h (sym loose ∙ same ∙ ap (λ s. noughts (length s)) loose)),
    )

pub spelled_by : (text bytes waiting : List ℕ) → Ended text bytes waiting → length waiting < 5
    → waiting ≡ noughts (length waiting) → Spells text bytes
spelled_by text bytes waiting e few same = record {
  letters = e.letters;
  octets = e.octets;
  zeros = length waiting;
  fewest = few;
  bits = e.same ∙ ap (λ s. joined 8 bytes ++ s) same;
}

pub rest_length : (width value : ℕ) (waiting after : List ℕ) → waiting ≡ bits_of width value ++ after → length waiting ≡ width + length after
rest_length width value waiting after e =
    ap length e ∙ length-append (bits_of width value) after ∙ ap (λ n. n + length after) (length-bits_of width value)

pub put_length : (width value : ℕ) (waiting after : List ℕ) → after ≡ waiting ++ bits_of width value → length after ≡ length waiting + width
put_length width value waiting after e =
    ap length e ∙ length-append waiting (bits_of width value) ∙ ap (λ n. length waiting + n) (length-bits_of width value)

pub all_are_taken : (bytes : List ℕ) (i : ℕ) → length bytes ≤ i → joined 8 (take i bytes) ≡ joined 8 bytes
all_are_taken bytes i h = ap (joined 8) (take_all i bytes h)

pub nothing_more : (before now waiting bits : List ℕ) → Written before now waiting bits → Written before now waiting (bits ++ noughts 0)
nothing_more before now waiting bits w = subst (Written before now waiting) (sym (append-nil bits)) w

pub all_fit : (bytes : List ℕ) → ((i : ℕ) → Fits w8 (get_or bytes i 0)) → All (λ byte. byte < 256) bytes
all_fit bytes h k d l = let fits : Fits w8 (get_or bytes k 0) = h k in rw (get_or_default bytes k d 0 l) (omega arith)

ascii_letter : (value : ℕ) → value < 32 → letter_of value < 128
ascii_letter value small = grind (arith, nat_tests)

ascii_letters : (values : List ℕ) → AllByRecursion (λ value. value < 32) values → AllByRecursion (λ letter. letter < 128) (map letter_of values)
ascii_letters [] small = tt
ascii_letters (v ∷ values) small = (ascii_letter v small.0, ascii_letters values small.1)

-- what was written so far is letters
pub more_letters : (before now then waiting bits : List ℕ) → Written before now waiting bits → then ≡ now → HasMore before then
more_letters before now then waiting bits w e = record {
  letters = map letter_of w.values;
  follows = e ∙ w.text;
  ascii = all_from (λ letter. letter < 128) (map letter_of w.values) (ascii_letters w.values w.small);
}

pub on_err : {T E : Type 0} (result : Result T E) (P : Type 0) → P → OnErr result P
on_err (Ok x) P p = tt
on_err (Err e) P p = p
