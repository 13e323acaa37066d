-- JSON that bytes are.
use Rattle.std.proofs.Common.{◌≡◌, codes, ℕ, Bool, true, false, List, IsUtf8, Some, None, option_map, is_some, not, ◌≤◌, refl, sym, ap, arith}
use Rattle.std.proofs.lemmas.Bool.{and_parts, leb-true}
use Rattle.std.proofs.lemmas.Str.{is_utf8-from_IsUtf8, IsUtf8-from_is_utf8}
use Rattle.std.specs.Str.{chars, is_utf8}
use Rattle.serde_json.specs.Data.{Data, depth}
use Rattle.serde_json.specs.Find.{as_object}
use Rattle.serde_json.specs.Read.{read}
use Rattle.serde_json.specs.Written.{has_float, compact_text}
use Rattle.serde_json.proofs.OnLiterals.{serde_json_on_literals}
use Rattle.json_spelling.specs.Metadata.{is_whole, json_of, is_metadata, if_metadata, metadata_of, spelling_of}

pub json_read : (bytes : List ℕ) (d : Data) → IsUtf8 bytes → read bytes ≡ Some d → json_of bytes ≡ Some d
unfolding json_of
json_read bytes d text is = rw (is_utf8-from_IsUtf8 bytes text) is

pub not_true : (b : Bool) → not b ≡ true → b ≡ false
not_true true h = sym h
not_true false h = refl

refused_at : (bytes : List ℕ) (b : Bool) → is_utf8 bytes ≡ b → (IsUtf8 bytes → read bytes ≡ None) → json_of bytes ≡ None
unfolding json_of
refused_at bytes true is none = rw is (none (IsUtf8-from_is_utf8 bytes is))
refused_at bytes false is none = rw is

pub json_refused : (bytes : List ℕ) → (IsUtf8 bytes → read bytes ≡ None) → json_of bytes ≡ None
json_refused bytes none = refused_at bytes (is_utf8 bytes) refl none

-- bytes that are no JSON have no spelling
pub none_spelled : (bytes : List ℕ) → json_of bytes ≡ None → spelling_of bytes ≡ None
unfolding spelling_of metadata_of
none_spelled bytes none = rw none

-- the spelling of bytes is that of the metadata that their JSON is
pub spelling_there : (bytes : List ℕ) (d : Data) → json_of bytes ≡ Some d → spelling_of bytes ≡ option_map compact_text (if_metadata d)
unfolding spelling_of metadata_of
spelling_there bytes d is = rw is refl

-- nor have those of JSON that is no metadata
pub other_spelled : (bytes : List ℕ) (d : Data) → json_of bytes ≡ Some d → is_metadata d ≡ false → spelling_of bytes ≡ None
unfolding spelling_of metadata_of
other_spelled bytes d is other = rw (is, other)

pub spelled : (bytes : List ℕ) (d : Data) → json_of bytes ≡ Some d → is_metadata d ≡ true → spelling_of bytes ≡ Some (compact_text d)
unfolding spelling_of metadata_of
spelled bytes d is good = rw (is, good)

-- the text that is written for metadata is their spelling
written : (d : Data) (text : List ℕ) → is_metadata d ≡ true → (has_float d ≡ false → text ≡ compact_text d) → text ≡ compact_text d
written d text good is =
    let whole = (and_parts (is_some (as_object d)) _ good).1 in
    is (not_true (has_float d) (and_parts (not (has_float d)) _ whole).0)

-- and the spelling of itself
pub spells_itself : (d : Data) (text : List ℕ) → IsUtf8 text → is_metadata d ≡ true → (has_float d ≡ false → text ≡ compact_text d) → (depth d ≤ 127 → read text ≡ Some d) → spelling_of text ≡ Some text
spells_itself d text utf8 good is back =
    let whole = (and_parts (is_some (as_object d)) _ good).1 in
    let shallow = leb-true (depth d) 100 (and_parts (not (has_float d)) _ whole).1 in
    let read_back = json_read text d utf8 (back (omega (arith, shallow))) in
    rw (spelled text d read_back good) (ap Some (sym (written d text good is)))

-- `{}` spells itself
pub empty_spelled : spelling_of (codes "{}") ≡ Some (codes "{}")
unfolding spelling_of metadata_of json_of serde_json_on_literals chars is_utf8
empty_spelled = refl

pub good_metadata : (d : Data) → is_some (as_object d) ≡ true → is_whole d 100 ≡ true → is_metadata d ≡ true
good_metadata d shape whole = rw (shape, whole) refl
