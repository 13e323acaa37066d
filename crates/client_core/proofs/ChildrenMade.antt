-- The members of the value make the entries.
use Rattle.std.proofs.Common.{◌≡◌, ◌≢◌, ℕ, ◌==◌, true, not, ◌&&◌, List, [], ◌∷◌, length, chars, Ok, inl, refl, sym, ap, ◌∙◌}
use Rattle.std.specs.Prelude.{◌↔◌, encode_utf8_all}
use Rattle.std.proofs.lemmas.Bool.{and_parts}
use Rattle.std.proofs.lemmas.Str.{encodes-chars, IsUtf8-from_is_utf8}
use Rattle.std.proofs.lemmas.List.Sorted.{IsPermutation-refl}
use Rattle.std.specs.Str.{is_utf8}
use Rattle.std.specs.List.{AllZip}
use Rattle.unicode_normalization.specs.Forms.{Nfc, nfc}
use Rattle.unicode_normalization.proofs.FormsLemmas.{is_in_form-true}
use Rattle.serde_json.proofs.OnLiterals.{serde_json_on_literals}
use Rattle.caps.specs.CapTexts.{IsCapText, cap_text}
use Rattle.caps.specs.Reading.{cap_reading}
use Rattle.caps.specs.declared.cap.Cap.{Cap}
use Rattle.dir_codec.specs.Names.{is_name, nfc_text}
use Rattle.json_spelling.specs.Metadata.{json_of}
use Rattle.dir_codec.specs.Entries.{IsEntry, AreEntriesAbove, IsDirectory}
use Rattle.children_reader.specs.MadeOf.{members_listed, HasUri, IsEntryOf, RiseAbove, AreMadeOf}
use Rattle.dir_codec.specs.declared.entry.Entry.{Entry}
use Rattle.client_core.specs.ChildrenJson.{kind, fields_value, entry_value, entries_value, children_text}
use Rattle.client_core.proofs.MetadataSpelled.{spelled}
use Rattle.client_core.proofs.ChildrenSound.{ValuesAreReadBack, text_read}

abbrev pub CapsAreRead : Type 0
CapsAreRead = (text : List ℕ) (cap : Cap) → IsCapText cap text ↔ (cap_reading text ≡ Ok cap)

name_same : (name : List ℕ) → is_name name ≡ true → nfc_text name ≡ name
unfolding is_name nfc_text
name_same name is =
    let parts = and_parts (is_utf8 name && not (length name == 0)) _ is in
    let utf8 = (and_parts (is_utf8 name) _ parts.0).0 in
    let same : nfc (chars name) ≡ chars name = is_in_form-true Nfc (chars name) parts.1 in
    ap encode_utf8_all same ∙ encodes-chars name (IsUtf8-from_is_utf8 name utf8)

name_some : (name : List ℕ) → is_name name ≡ true → name ≢ []
unfolding is_name
name_some [] is none =
    let parts = and_parts (is_utf8 [] && not (length {A = ℕ} [] == 0)) _ is in
    let some : not true ≡ true = (and_parts (is_utf8 []) _ parts.0).1 in
    absurd cc
name_some (b ∷ bs) is none = absurd cc

has_uri : (entry : Entry) → HasUri (entry_value entry) (fields_value entry) (cap_text entry.cap)
unfolding serde_json_on_literals
has_uri entry = record { kind = kind entry.cap; node_is = refl; uri_is = refl }

entry_of : CapsAreRead → (entry : Entry) → IsEntry entry → IsEntryOf entry.name (entry_value entry) entry
unfolding serde_json_on_literals
entry_of caps entry is =
    let same = name_same entry.name is.name in
    let metadata = spelled entry.metadata is.metadata in record {
      fields = fields_value entry;
      name = sym same;
      cap = record {
        uri = cap_text entry.cap;
        has = has_uri entry;
        named = λ none. name_some entry.name is.name (sym same ∙ none);
        is = (caps (cap_text entry.cap) entry.cap).1 is.cap;
        child = is.child;
      };
      no_write = inl refl;
      metadata = (metadata.good, metadata.is);
    }

each : CapsAreRead → (name : List ℕ) (entries : List Entry) → AreEntriesAbove name entries → AllZip (λ m entry. IsEntryOf m.0 m.1 entry) (members_listed (entries_value entries)) entries
each caps name [] all = tt
each caps name (entry ∷ more) all = (entry_of caps entry all.1, each caps entry.name more all.2)

rise : (name : List ℕ) (entries : List Entry) → AreEntriesAbove name entries → RiseAbove name entries
rise name [] all = tt
rise name (entry ∷ more) all = (all.0, rise entry.name more all.2)

pub are_made : ValuesAreReadBack → CapsAreRead → (entries : List Entry) → IsDirectory entries → is_utf8 (children_text entries) ≡ true → AreMadeOf entries (children_text entries)
unfolding json_of
are_made back caps entries all utf8 = (
  entries_value entries,
  rw utf8 (text_read back entries all),
  record {
    found = entries;
    each = each caps [] entries all;
    same = IsPermutation-refl entries;
    rise = rise [] entries all;
  },
)
