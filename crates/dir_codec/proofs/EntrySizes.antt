-- How long the metadata of an entry are.
use Rattle.std.proofs.Common.{◌≡◌, ◌==◌, ℕ, ◌+◌, ◌<◌, ◌≤◌, Bool, true, false, List, length, drop, cond, Option, Some, None, option_and_then, Result, Ok, Err, IfOk, ◌++◌, refl, ap, arith, length-drop}
use Rattle.std.proofs.lemmas.List.{length-take}
use Rattle.tag_hash.specs.Netstring.{netstring}
use Rattle.tag_hash.specs.NetstringAt.{netstring_at, span_bytes}
use Rattle.tag_hash.specs.declared.netstrings.Span.{Span}
use Rattle.tag_hash.specs.declared.netstrings.NetFault.{NetFault}
use Rattle.dir_codec.specs.Parts.{EntryTexts, cut_netstring, first_netstring, four_texts, texts_before, first_entry}
use Rattle.dir_codec.specs.Sought.{metadata_of_entry}
use Rattle.dir_codec.proofs.Steps.{NothingElse}

-- a netstring and what follows it
cut_sizes : (bytes : List ℕ) (r : Result (Span × ℕ) NetFault) → IfOk r (λ read. (read.0.start + read.0.len + 1 ≡ read.1) × (read.1 ≤ length bytes) × (bytes ≡ netstring (span_bytes read.0 bytes) ++ drop read.1 bytes))
    → (found : List ℕ × List ℕ) → cut_netstring bytes r ≡ Some found → length found.0 + length found.1 < length bytes
cut_sizes bytes (Ok read) facts found is =
    let both : (span_bytes read.0 bytes, drop read.1 bytes) ≡ found = cc in
    let this = ap (λ (p : List ℕ × List ℕ). length p.0) both in
    let rest = ap (λ (p : List ℕ × List ℕ). length p.1) both in
    let few = length-take read.0.len (drop read.0.start bytes) in
    let long = length-drop read.1 bytes in
    let first = facts.0 in
    let last = facts.1 in
    omega arith
cut_sizes bytes (Err fault) facts found is = absurd cc

netstring_sizes : NothingElse → (bytes : List ℕ) (found : List ℕ × List ℕ) → first_netstring bytes ≡ Some found → length found.0 + length found.1 < length bytes
unfolding first_netstring
netstring_sizes law bytes found is = cut_sizes bytes (netstring_at bytes 0) (law bytes 0) found is

abbrev Two : Type 0
Two = List ℕ × List ℕ

-- what is found in a netstring or behind it is shorter than both
found_sizes : {B : Type 0} (n : ℕ) (b : B) → NothingElse → (bytes : List ℕ) (f : Two → Option B) (o : Option Two) → first_netstring bytes ≡ o → option_and_then f o ≡ Some b
    → ((found : Two) → f found ≡ Some b → n ≤ length found.0 + length found.1) → n < length bytes
found_sizes n b law bytes f None is some within = absurd cc
found_sizes n b law bytes f (Some found) is some within =
    let size = netstring_sizes law bytes found is in
    let inside = within found some in
    omega arith

behind : (n first rest : ℕ) → n < rest → n ≤ first + rest
behind n first rest is = omega arith

all_from : (b : Bool) (texts found : EntryTexts) (rest : ℕ) → cond b (Some texts) None ≡ Some found → length found.metadata ≤ length texts.metadata + rest
all_from true texts found rest is = let same = ap (λ (t : EntryTexts). length t.metadata) (let h : texts ≡ found = cc in h) in omega arith
all_from false texts found rest is = absurd cc

texts_sizes : NothingElse → (bytes : List ℕ) (texts : EntryTexts) → four_texts bytes ≡ Some texts → length texts.metadata < length bytes
texts_sizes law bytes texts is =
    let n = length texts.metadata in
    found_sizes n texts law bytes _ _ refl is
    (λ name named. behind n (length name.0) (length name.1) (found_sizes n texts law name.1 _ _ refl named
    (λ cap capped. behind n (length cap.0) (length cap.1) (found_sizes n texts law cap.1 _ _ refl capped
    (λ write written. behind n (length write.0) (length write.1) (found_sizes n texts law write.1 _ _ refl written
    (λ metadata all. all_from (length metadata.1 == 0) _ texts (length metadata.1) all)))))))

before_sizes : NothingElse → (inside rest : List ℕ) (o : Option EntryTexts) (found : EntryTexts × List ℕ) → four_texts inside ≡ o → texts_before rest o ≡ Some found
    → length found.0.metadata + length found.1 ≤ length inside + length rest
before_sizes law inside rest None found is some = absurd cc
before_sizes law inside rest (Some texts) found is some =
    let both : (texts, rest) ≡ found = cc in
    let size = texts_sizes law inside texts is in
    let first = ap (λ (p : EntryTexts × List ℕ). length p.0.metadata) both in
    let second = ap (λ (p : EntryTexts × List ℕ). length p.1) both in
    omega arith

-- metadata and what follows their entry
pub metadata_sizes : NothingElse → (bytes : List ℕ) (found : EntryTexts × List ℕ) → first_entry bytes ≡ Some found → length found.0.metadata + length found.1 < length bytes
metadata_sizes law bytes found is =
    found_sizes (length found.0.metadata + length found.1) found law bytes (λ two. texts_before two.1 (four_texts two.0)) (first_netstring bytes) refl is (λ two some. before_sizes law two.0 two.1 (four_texts two.0) found refl some)

within_at : NothingElse → (bytes : List ℕ) (o : Option (EntryTexts × List ℕ)) → first_entry bytes ≡ o → length (metadata_of_entry o) ≤ length bytes
within_at law bytes None is = omega arith
within_at law bytes (Some found) is = omega (arith, metadata_sizes law bytes found is)

pub metadata_within : NothingElse → (bytes : List ℕ) → length (metadata_of_entry (first_entry bytes)) ≤ length bytes
metadata_within law bytes = within_at law bytes (first_entry bytes) refl
