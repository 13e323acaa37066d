-- A spelling stands for the metadata that it is of.
use Rattle.std.proofs.Common.{◌≡◌, ℕ, Bool, true, false, cond, List, Option, Some, None, option_map, option_and_then, is_some, not, refl, sym, ap, ◌∙◌}
use Rattle.std.proofs.lemmas.Bool.{and_parts}
use Rattle.std.specs.Str.{is_utf8}
use Rattle.serde_json.specs.Data.{Data}
use Rattle.serde_json.specs.Find.{as_object}
use Rattle.serde_json.specs.Read.{read}
use Rattle.serde_json.specs.Written.{has_float, compact_text}
use Rattle.serde_json.proofs.Nesting.{depth-read}
use Rattle.json_spelling.specs.Metadata.{is_metadata, if_metadata, json_of, metadata_of, spelling_of}
use Rattle.json_spelling.proofs.Printed.{printed}
use Rattle.json_spelling.proofs.SoundLemmas.{read_sound}

mapped : {A B : Type 0} (f : A → B) (o : Option A) (y : B) → option_map f o ≡ Some y → (x : A) × (o ≡ Some x) × (f x ≡ y)
mapped f (Some x) y is = (x, refl, (let same : f x ≡ y = cc in same))
mapped f None y is = absurd cc

chosen : (b : Bool) (d e : Data) → cond b (Some d) None ≡ Some e → (b ≡ true) × (d ≡ e)
chosen true d e is = (refl, (let same : d ≡ e = cc in same))
chosen false d e is = absurd cc

of_json : (o : Option Data) (d : Data) → option_and_then if_metadata o ≡ Some d → (o ≡ Some d) × (is_metadata d ≡ true)
of_json (Some e) d is = let both = chosen (is_metadata e) e d is in (ap Some both.1, ap is_metadata (sym both.1) ∙ both.0)
of_json None d is = absurd cc

of_text : (bytes : List ℕ) (b : Bool) (d : Data) → is_utf8 bytes ≡ b → cond b (read bytes) None ≡ Some d → read bytes ≡ Some d
of_text bytes true d utf8 is = is
of_text bytes false d utf8 is = absurd cc

-- what is known of metadata that were read
was_read : (bytes : List ℕ) (d : Data) → metadata_of bytes ≡ Some d → (read bytes ≡ Some d) × (is_metadata d ≡ true)
unfolding metadata_of json_of
was_read bytes d is = let both = of_json (json_of bytes) d is in (of_text bytes (is_utf8 bytes) d refl both.0, both.1)

no_float : (b : Bool) → not b ≡ true → b ≡ false
no_float true h = sym h
no_float false h = refl

spelled_as : (bytes kept : List ℕ) → spelling_of bytes ≡ Some kept → (d : Data) × (metadata_of bytes ≡ Some d) × (compact_text d ≡ kept)
unfolding spelling_of
spelled_as bytes kept is = mapped compact_text (metadata_of bytes) kept is

pub same_metadata : (bytes kept : List ℕ) → spelling_of bytes ≡ Some kept → spelling_of kept ≡ Some kept → metadata_of kept ≡ metadata_of bytes
same_metadata bytes kept first again =
    let one = spelled_as bytes kept first in
    let two = spelled_as kept kept again in
    let read_one = was_read bytes one.0 one.1 in
    let read_two = was_read kept two.0 two.1 in
    let whole = (and_parts (is_some (as_object one.0)) _ read_one.1).1 in
    let none = no_float (has_float one.0) (and_parts (not (has_float one.0)) _ whole).0 in
    let back : read kept ≡ Some one.0 = ap read (sym one.2) ∙ printed one.0 (read_sound bytes one.0 read_one.0) none (depth-read bytes one.0 read_one.0) in
    two.1 ∙ sym read_two.0 ∙ back ∙ sym one.1
