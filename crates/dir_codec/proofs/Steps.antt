-- Reading a directory text entry by entry.
use Rattle.std.proofs.Common.{◌≡◌, ◌==◌, ℕ, zero, suc, ◌+◌, ◌-◌, ◌<◌, ◌≤◌, true, false, List, [], ◌∷◌, ◌++◌, length, drop, Option, Some, None, option_and_then, Result, Ok, Err, IfOk, refl, sym, ap, subst, ◌∙◌, arith, append_assoc, length-drop}
use Rattle.std.proofs.lemmas.Bool.{eqb-true, eqb-false}
use Rattle.tag_hash.specs.Netstring.{netstring}
use Rattle.tag_hash.specs.NetstringAt.{netstring_at, span_bytes}
use Rattle.tag_hash.specs.declared.netstrings.Span.{Span}
use Rattle.tag_hash.specs.declared.netstrings.NetFault.{NetFault}
use Rattle.dir_codec.specs.Parts.{EntryTexts, cut_netstring, first_netstring, four_texts, texts_before, first_entry}
use Rattle.dir_codec.specs.Reading.{entry_reading, before_more, then_more, from_texts, read_most, reading_after}
use Rattle.dir_codec.specs.Sought.{after_those}
use Rattle.dir_codec.specs.declared.entry.Entry.{Entry}
use Rattle.dir_codec.specs.declared.fault.DirFault.{DirFault}
use Rattle.dir_codec.specs.declared.fault.DirFault.TheVariants.{Torn}

-- what is read where a netstring is
abbrev pub NothingElse : Type 0
NothingElse = (bytes : List ℕ) (at : ℕ) → IfOk (netstring_at bytes at) (λ read. (read.0.start + read.0.len + 1 ≡ read.1) × (read.1 ≤ length bytes) × (drop at bytes ≡ netstring (span_bytes read.0 bytes) ++ drop read.1 bytes))

pub after_none : (r : Result (List Entry) DirFault) → r ≡ after_those [] r
after_none (Ok more) = refl
after_none (Err fault) = refl

pub after_one_more : (those : List Entry) (entry : Entry) (r : Result (List Entry) DirFault) → after_those those (before_more entry r) ≡ after_those (those ++ entry ∷ []) r
after_one_more those entry (Ok more) = ap Ok (sym (append_assoc those (entry ∷ []) more))
after_one_more those entry (Err fault) = refl

-- what follows a netstring is shorter
cut_shorter : (bytes : List ℕ) (r : Result (Span × ℕ) NetFault) → IfOk r (λ read. (read.0.start + read.0.len + 1 ≡ read.1) × (read.1 ≤ length bytes) × (bytes ≡ netstring (span_bytes read.0 bytes) ++ drop read.1 bytes))
    → (found : List ℕ × List ℕ) → cut_netstring bytes r ≡ Some found → length found.1 < length bytes
cut_shorter bytes (Ok read) facts found is =
    let same : drop read.1 bytes ≡ found.1 = ap (λ (p : List ℕ × List ℕ). p.1) (let h : (span_bytes read.0 bytes, drop read.1 bytes) ≡ found = cc in h) in
    let long = length-drop read.1 bytes in
    let size = ap length same in
    let first = facts.0 in
    let last = facts.1 in
    omega arith
cut_shorter bytes (Err fault) facts found is = absurd cc

pub netstring_shorter : NothingElse → (bytes : List ℕ) (found : List ℕ × List ℕ) → first_netstring bytes ≡ Some found → length found.1 < length bytes
unfolding first_netstring
netstring_shorter law bytes found is = cut_shorter bytes (netstring_at bytes 0) (law bytes 0) found is

before_shorter : (rest : List ℕ) (o : Option EntryTexts) (found : EntryTexts × List ℕ) → texts_before rest o ≡ Some found → rest ≡ found.1
before_shorter rest (Some texts) found is = ap (λ (p : EntryTexts × List ℕ). p.1) (let h : (texts, rest) ≡ found = cc in h)
before_shorter rest None found is = absurd cc

entry_shorter_at : NothingElse → (bytes : List ℕ) (o : Option (List ℕ × List ℕ)) → first_netstring bytes ≡ o → (found : EntryTexts × List ℕ)
    → option_and_then (λ two. texts_before two.1 (four_texts two.0)) o ≡ Some found → length found.1 < length bytes
entry_shorter_at law bytes (Some two) at found is =
    let same = ap length (before_shorter two.1 (four_texts two.0) found is) in
    let shorter = netstring_shorter law bytes two at in
    omega arith
entry_shorter_at law bytes None at found is = absurd cc

-- what follows an entry is shorter
pub entry_shorter : NothingElse → (bytes : List ℕ) (found : EntryTexts × List ℕ) → first_entry bytes ≡ Some found → length found.1 < length bytes
entry_shorter law bytes found is = entry_shorter_at law bytes (first_netstring bytes) refl found is

cut_rest : (bytes : List ℕ) (r : Result (Span × ℕ) NetFault) → IfOk r (λ read. (read.0.start + read.0.len + 1 ≡ read.1) × (read.1 ≤ length bytes) × (bytes ≡ netstring (span_bytes read.0 bytes) ++ drop read.1 bytes))
    → (found : List ℕ × List ℕ) → cut_netstring bytes r ≡ Some found → found.1 ≡ drop (length bytes - length found.1) bytes
cut_rest bytes (Ok read) facts found is =
    let same : drop read.1 bytes ≡ found.1 = ap (λ (p : List ℕ × List ℕ). p.1) (let h : (span_bytes read.0 bytes, drop read.1 bytes) ≡ found = cc in h) in
    let long = length-drop read.1 bytes in
    let size = ap length same in
    let last = facts.1 in
    sym same ∙ ap (λ n. drop n bytes) (let e : read.1 ≡ length bytes - length found.1 = omega arith in e)
cut_rest bytes (Err fault) facts found is = absurd cc

netstring_rest : NothingElse → (bytes : List ℕ) (found : List ℕ × List ℕ) → first_netstring bytes ≡ Some found → found.1 ≡ drop (length bytes - length found.1) bytes
unfolding first_netstring
netstring_rest law bytes found is = cut_rest bytes (netstring_at bytes 0) (law bytes 0) found is

entry_rest_at : NothingElse → (bytes : List ℕ) (o : Option (List ℕ × List ℕ)) → first_netstring bytes ≡ o → (found : EntryTexts × List ℕ)
    → option_and_then (λ two. texts_before two.1 (four_texts two.0)) o ≡ Some found → found.1 ≡ drop (length bytes - length found.1) bytes
entry_rest_at law bytes (Some two) at found is =
    subst (λ (l : List ℕ). l ≡ drop (length bytes - length l) bytes) (before_shorter two.1 (four_texts two.0) found is) (netstring_rest law bytes two at)
entry_rest_at law bytes None at found is = absurd cc

-- what follows an entry is an end of the bytes
pub entry_rest : NothingElse → (bytes : List ℕ) (found : EntryTexts × List ℕ) → first_entry bytes ≡ Some found → found.1 ≡ drop (length bytes - length found.1) bytes
entry_rest law bytes found is = entry_rest_at law bytes (first_netstring bytes) refl found is

then_same : (f g : List ℕ → List ℕ → Result (List Entry) DirFault) (rest : List ℕ) (r : Result Entry DirFault) → ((last : List ℕ) → f last rest ≡ g last rest) → then_more f rest r ≡ then_more g rest r
then_same f g rest (Ok entry) same = ap (before_more entry) (same entry.name)
then_same f g rest (Err fault) same = refl

from_same : (f g : List ℕ → List ℕ → Result (List Entry) DirFault) (last : List ℕ) (o : Option (EntryTexts × List ℕ)) → ((found : EntryTexts × List ℕ) → o ≡ Some found → (name : List ℕ) → f name found.1 ≡ g name found.1) → from_texts f last o ≡ from_texts g last o
from_same f g last (Some found) same = then_same f g found.1 (entry_reading last found.0) (same found refl)
from_same f g last None same = refl

-- any number of entries is enough that is no less than the bytes
pub enough : NothingElse → (most other : ℕ) (last bytes : List ℕ) → length bytes ≤ most → length bytes ≤ other → read_most most last bytes ≡ read_most other last bytes
enough law zero zero last bytes h g = refl
enough law zero (suc other) last [] h g = refl
enough law zero (suc other) last (b ∷ bs) h g = absurd (omega arith)
enough law (suc most) zero last [] h g = refl
enough law (suc most) zero last (b ∷ bs) h g = absurd (omega arith)
enough law (suc most) (suc other) last [] h g = refl
enough law (suc most) (suc other) last (b ∷ bs) h g =
    from_same (read_most most) (read_most other) last (first_entry (b ∷ bs))
    (λ found is name. let shorter = entry_shorter law (b ∷ bs) found is in enough law most other name found.1 (omega arith) (omega arith))

-- no bytes are left
pub read_all : (last rest : List ℕ) → (length rest == 0) ≡ true → reading_after last rest ≡ Ok []
unfolding reading_after
read_all last [] h = refl
read_all last (b ∷ bs) h = absurd (let none = eqb-true (length (b ∷ bs)) 0 h in omega arith)

-- the first entry, and what follows it
pub read_first : NothingElse → (last rest : List ℕ) → (length rest == 0) ≡ false → reading_after last rest ≡ from_texts reading_after last (first_entry rest)
unfolding reading_after
read_first law last [] h = absurd (eqb-false 0 0 h refl)
read_first law last (b ∷ bs) h =
    from_same (read_most (length bs)) reading_after last (first_entry (b ∷ bs))
    (λ found is name. let shorter = entry_shorter law (b ∷ bs) found is in enough law (length bs) (length found.1) name found.1 (omega arith) (omega arith))

pub read_torn : NothingElse → (last rest : List ℕ) → (length rest == 0) ≡ false → first_entry rest ≡ None → reading_after last rest ≡ Err Torn
read_torn law last rest some none = read_first law last rest some ∙ ap (from_texts reading_after last) none

pub read_fault : NothingElse → (last rest : List ℕ) (texts : EntryTexts) (more : List ℕ) (fault : DirFault) → (length rest == 0) ≡ false → first_entry rest ≡ Some (texts, more) → entry_reading last texts ≡ Err fault → reading_after last rest ≡ Err fault
read_fault law last rest texts more fault some found is = read_first law last rest some ∙ ap (from_texts reading_after last) found ∙ ap (then_more reading_after more) is

pub read_entry : NothingElse → (last rest : List ℕ) (texts : EntryTexts) (more : List ℕ) (entry : Entry) → (length rest == 0) ≡ false → first_entry rest ≡ Some (texts, more) → entry_reading last texts ≡ Ok entry
    → reading_after last rest ≡ before_more entry (reading_after entry.name more)
read_entry law last rest texts more entry some found is = read_first law last rest some ∙ ap (from_texts reading_after last) found ∙ ap (then_more reading_after more) is
