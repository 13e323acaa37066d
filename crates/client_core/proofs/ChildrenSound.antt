-- The value of the entries is one that its text is read back as.
use Rattle.std.proofs.Common.{◌≡◌, ℕ, ◌≤◌, false, List, [], ◌∷◌, Some, refl, Less, nat_cmp, arith}
use Rattle.std.proofs.lemmas.Cmp.{nat_list_cmp_total}
use Rattle.std.specs.Cmp.Lexicographic.{slice_cmp}
use Rattle.serde_json.specs.Data.{Data, object, depth, members_depth}
use Rattle.serde_json.specs.Read.{read}
use Rattle.serde_json.specs.Written.{has_float, members_have_float, compact_text}
use Rattle.dir_codec.specs.Entries.{AreEntriesAbove, IsDirectory}
use Rattle.json_spelling.specs.Sound.{IsBelowAll, IsSound, MembersAreSound}
use Rattle.dir_codec.specs.declared.entry.Entry.{Entry}
use Rattle.client_core.specs.ChildrenJson.{metadata_data, entry_value, entries_value, children_text}
use Rattle.client_core.proofs.MetadataSpelled.{IsSpelled, spelled}

-- what `dir_codec` says of values
abbrev pub ValuesAreReadBack : Type 0
ValuesAreReadBack = (d : Data) → IsSound d → has_float d ≡ false → depth d ≤ 127 → read (compact_text d) ≡ Some d

entry_sound : (entry : Entry) → IsSpelled (metadata_data entry) entry.metadata → IsSound (entry_value entry)
entry_sound entry metadata = (tt, ((metadata.sound, (refl, tt), (tt, tt, tt)), tt))

entry_whole : (entry : Entry) → IsSpelled (metadata_data entry) entry.metadata → has_float (entry_value entry) ≡ false
entry_whole entry metadata = rw metadata.whole refl

entry_shallow : (entry : Entry) → IsSpelled (metadata_data entry) entry.metadata → depth (entry_value entry) ≤ 102
entry_shallow entry metadata =
    let shallow = metadata.shallow in
    omega (arith, shallow)

above_lower : (lower name : List ℕ) (entries : List Entry) → slice_cmp nat_cmp lower name ≡ Less → AreEntriesAbove name entries → AreEntriesAbove lower entries
above_lower lower name [] below all = tt
above_lower lower name (entry ∷ more) below all = (nat_list_cmp_total.trans lower name entry.name below all.0, all.1, all.2)

below_entries : (name : List ℕ) (entries : List Entry) → AreEntriesAbove name entries → IsBelowAll name (entries_value entries)
below_entries name [] all = tt
below_entries name (entry ∷ more) all = (all.0, below_entries name more (above_lower name entry.name more all.0 all.2))

entries_sound : (name : List ℕ) (entries : List Entry) → AreEntriesAbove name entries → MembersAreSound (entries_value entries)
entries_sound name [] all = tt
entries_sound name (entry ∷ more) all =
    (entry_sound entry (spelled entry.metadata all.1.metadata), below_entries entry.name more all.2, entries_sound entry.name more all.2)

entries_whole : (name : List ℕ) (entries : List Entry) → AreEntriesAbove name entries → members_have_float (entries_value entries) ≡ false
entries_whole name [] all = refl
entries_whole name (entry ∷ more) all =
    rw (entry_whole entry (spelled entry.metadata all.1.metadata), entries_whole entry.name more all.2) refl

entries_shallow : (name : List ℕ) (entries : List Entry) → AreEntriesAbove name entries → members_depth (entries_value entries) ≤ 102
entries_shallow name [] all = omega arith
entries_shallow name (entry ∷ more) all =
    let child = entry_shallow entry (spelled entry.metadata all.1.metadata) in
    let rest = entries_shallow entry.name more all.2 in
    omega (arith, child, rest)

pub text_read : ValuesAreReadBack → (entries : List Entry) → IsDirectory entries → read (children_text entries) ≡ Some (object (entries_value entries))
unfolding children_text
text_read back entries all =
    let shallow = entries_shallow [] entries all in
    back (object (entries_value entries)) (entries_sound [] entries all) (entries_whole [] entries all) (omega (arith, shallow))
