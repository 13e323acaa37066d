-- Bytes have one text, and a text spells one list of bytes.
use Rattle.std.proofs.Common.{◌≡◌, true, ℕ, zero, suc, ◌+◌, ◌-◌, ◌*◌, ◌/◌, ◌^◌, ◌<◌, ◌≤◌, List, ◌∷◌, ◌++◌, length, take, drop, map, replicate, refl, ap, sym, ◌∙◌, arith, append_assoc, length-append}
use Rattle.std.specs.List.{All, AllByRecursion}
use Rattle.std.proofs.Math.Pow.{pow_mono}
use Rattle.std.proofs.Math.Seq.{take-append-add}
use Rattle.std.proofs.lemmas.List.{length-map, length-replicate, replicate-append-replicate, length-take}
use Rattle.base32_text.specs.Bits.{joined, number_of, groups}
use Rattle.base32_text.specs.Alphabet.{is_letter, value_of, letter_of}
use Rattle.base32_text.specs.Base32.{letter_bits, Spells, spelling}
use Rattle.base32_text.proofs.BitLemmas.{AreBits, length-joined, groups-joined, joined-groups, are_bits-joined, are_bits-append, are_bits-zeros, are_bits-take, are_bits-drop, number_of-lt}
use Rattle.base32_text.proofs.AlphabetLemmas.{all_parts, all_from, AreLetters, values_small, letters-values, values-letters, are_letters}

abbrev pub noughts : ℕ → List ℕ
noughts n = replicate n 0

pub length-letter_bits : (text : List ℕ) → length (letter_bits text) ≡ 5 * length text
length-letter_bits text = length-joined 5 (map value_of text) ∙ ap (λ n. 5 * n) (length-map text value_of)

-- how many letters and bytes belong together
pub counts : (text bytes : List ℕ) (s : Spells text bytes) → 5 * length text ≡ 8 * length bytes + s.zeros
counts text bytes s =
    sym (length-letter_bits text)
    ∙ ap length s.bits
    ∙ length-append (joined 8 bytes) (noughts s.zeros)
    ∙ ap (λ n. n + length (noughts s.zeros)) (length-joined 8 bytes)
    ∙ ap (λ n. 8 * length bytes + n) (length-replicate {A = ℕ} s.zeros 0)

whole_bytes : (letters bytes loose : ℕ) → 5 * letters ≡ 8 * bytes + loose → loose < 5 → 5 * letters / 8 ≡ bytes
whole_bytes letters bytes loose e h = omega arith

whole_letters : (letters bytes loose : ℕ) → 5 * letters ≡ 8 * bytes + loose → loose < 5 → (8 * bytes + 4) / 5 ≡ letters
whole_letters letters bytes loose e h = omega arith

pub bytes_count : (text bytes : List ℕ) → Spells text bytes → 5 * length text / 8 ≡ length bytes
bytes_count text bytes s = whole_bytes (length text) (length bytes) s.zeros (counts text bytes s) s.fewest

-- the bytes that a text spells are the octets of its bits
pub octets_of : (text bytes : List ℕ) → Spells text bytes → groups 8 (5 * length text / 8) (letter_bits text) ≡ bytes
octets_of text bytes s =
    rw (bytes_count text bytes s, s.bits)
    (groups-joined 8 bytes (noughts s.zeros) (all_parts (λ byte. byte < 256) bytes s.octets))

pub one_meaning : (text bytes other : List ℕ) → Spells text bytes → Spells text other → bytes ≡ other
one_meaning text bytes other s t = sym (octets_of text bytes s) ∙ octets_of text other t

four : (loose : ℕ) → loose < 5 → loose + (4 - loose) ≡ 4
four loose h = omega arith

padded : (text bytes : List ℕ) (s : Spells text bytes)
    → joined 8 bytes ++ noughts 4 ≡ letter_bits text ++ noughts (4 - s.zeros)
padded text bytes s =
    ap (λ n. joined 8 bytes ++ noughts n) (sym (four s.zeros s.fewest))
    ∙ ap (λ bits. joined 8 bytes ++ bits) (sym (replicate-append-replicate s.zeros (4 - s.zeros) 0))
    ∙ sym (append_assoc (joined 8 bytes) (noughts s.zeros) (noughts (4 - s.zeros)))
    ∙ ap (λ bits. bits ++ noughts (4 - s.zeros)) (sym s.bits)

-- a text that spells bytes is their spelling
pub is_spelling : (text bytes : List ℕ) → Spells text bytes → text ≡ spelling bytes
unfolding spelling
is_spelling text bytes s =
    let letters : AreLetters text = all_parts (λ byte. is_letter byte ≡ true) text s.letters in
    let count : (8 * length bytes + 4) / 5 ≡ length (map value_of text) =
    whole_letters (length text) (length bytes) s.zeros (counts text bytes s) s.fewest ∙ sym (length-map text value_of) in
    let values : groups 5 ((8 * length bytes + 4) / 5) (joined 8 bytes ++ noughts 4) ≡ map value_of text =
    ap (λ n. groups 5 n (joined 8 bytes ++ noughts 4)) count
    ∙ ap (groups 5 (length (map value_of text))) (padded text bytes s)
    ∙ groups-joined 5 (map value_of text) (noughts (4 - s.zeros)) (values_small text letters) in
    sym (ap (map letter_of) values ∙ letters-values text letters)

pub one_text : (bytes text other : List ℕ) → Spells text bytes → Spells other bytes → text ≡ other
one_text bytes text other s t = is_spelling text bytes s ∙ sym (is_spelling other bytes t)

-- groups of bits fit their width
pub groups-lt : (width count : ℕ) (bits : List ℕ) → AreBits bits → AllByRecursion (λ number. number < 2 ^ width) (groups width count bits)
unfolding groups
groups-lt width zero bits p = tt
groups-lt width (suc count) bits p =
    let short : length (take width bits) ≤ width = omega (arith, length-take width bits) in
    let small : number_of (take width bits) < 2 ^ length (take width bits) = number_of-lt (take width bits) (are_bits-take width bits p) in
    let wide : 2 ^ length (take width bits) ≤ 2 ^ width = pow_mono short in
    (omega arith, groups-lt width count (drop width bits) (are_bits-drop width bits p))

take_zeros : (n m : ℕ) → n ≤ m → take n (noughts m) ≡ noughts n
take_zeros zero m h = refl
take_zeros (suc n) zero h = absurd (omega arith)
take_zeros (suc n) (suc m) h = ap (λ t. 0 ∷ t) (take_zeros n m (omega arith))

record Room (bytes : ℕ) : Type 0 where
  zeros : ℕ
  few : zeros < 5
  same : 5 * ((8 * bytes + 4) / 5) ≡ 8 * bytes + zeros

room_of : (bytes : ℕ) → Room bytes
room_of bytes = record { zeros = 5 * ((8 * bytes + 4) / 5) - 8 * bytes; few = omega arith; same = omega arith }

-- the spelling of bytes spells them
pub spells_spelling : (bytes : List ℕ) → All (λ byte. byte < 256) bytes → Spells (spelling bytes) bytes
unfolding spelling
spells_spelling bytes octets =
    let room : Room (length bytes) = room_of (length bytes) in
    let count : ℕ = (8 * length bytes + 4) / 5 in
    let bits : List ℕ = joined 8 bytes ++ noughts 4 in
    let are : AreBits bits = are_bits-append (joined 8 bytes) (noughts 4) (are_bits-joined 8 bytes) (are_bits-zeros 4) in
    let long : length bits ≡ 8 * length bytes + 4 =
    length-append (joined 8 bytes) (noughts 4) ∙ ap (λ n. n + 4) (length-joined 8 bytes) in
    let enough : 5 * count ≤ length bits = omega arith in
    let values : AllByRecursion (λ value. value < 32) (groups 5 count bits) = groups-lt 5 count bits are in
    record {
      letters = all_from (λ byte. is_letter byte ≡ true) (spelling bytes) (are_letters (groups 5 count bits) values);
      octets = octets;
      zeros = room.zeros;
      fewest = room.few;
      bits =
          ap (joined 5) (values-letters (groups 5 count bits) values)
          ∙ joined-groups 5 count bits are enough
          ∙ ap (λ n. take n bits) (room.same ∙ ap (λ n. n + room.zeros) (sym (length-joined 8 bytes)))
          ∙ take-append-add (joined 8 bytes) (noughts 4) room.zeros
          ∙ ap (λ t. joined 8 bytes ++ t) (take_zeros room.zeros 4 (let h : room.zeros < 5 = room.few in omega arith));
    }
