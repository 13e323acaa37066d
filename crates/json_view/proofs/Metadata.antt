-- Metadata as the text of a value.
use Rattle.std.proofs.Common.{◌≡◌, ℕ, ◌≤◌, Bool, true, false, cond, not, List, Option, Some, None, option_map, option_and_then, is_some, unwrap_or, refl}
use Rattle.std.proofs.lemmas.Bool.{and_parts, leb-true}
use Rattle.std.specs.Str.{is_utf8}
use Rattle.serde_json.specs.Data.{Data, null, depth}
use Rattle.serde_json.specs.Find.{as_object}
use Rattle.serde_json.specs.Read.{read}
use Rattle.serde_json.specs.Written.{has_float, compact_text}
use Rattle.json_spelling.specs.Metadata.{is_metadata, if_metadata, json_of, metadata_of, spelling_of}
use Rattle.json_spelling.specs.Sound.{IsSound}
use Rattle.json_spelling.proofs.SoundLemmas.{read_sound}
use Rattle.json_view.proofs.Plain.{not_true}

-- the text is that of a value that may stand in a larger one, and is read as that value
pub record IsTextOf (d : Data) (text : List ℕ) : Type 0 where
  pub back : read text ≡ Some d
  pub is : text ≡ compact_text d
  pub sound : IsSound d
  pub whole : has_float d ≡ false
  pub shallow : depth d ≤ 100

of_metadata : (text : List ℕ) (d : Data) (good : Bool) → is_metadata d ≡ good → read text ≡ Some d → option_map compact_text (cond good (Some d) None) ≡ Some text → IsTextOf d text
of_metadata text d true good back is =
    let whole = and_parts (not (has_float d)) _ (and_parts (is_some (as_object d)) _ good).1 in record {
      back = back;
      is = cc;
      sound = read_sound text d back;
      whole = not_true (has_float d) whole.0;
      shallow = leb-true (depth d) 100 whole.1;
    }
of_metadata text d false good back is = absurd cc

of_json : (text : List ℕ) (utf8 : Bool) (found : Option Data) → read text ≡ found → option_map compact_text (option_and_then if_metadata (cond utf8 found None)) ≡ Some text → IsTextOf (unwrap_or found null) text
of_json text true (Some d) back is = of_metadata text d (is_metadata d) refl back is
of_json text true None back is = absurd cc
of_json text false found back is = absurd cc

-- metadata that are their own spelling are read as a value whose text they are
pub spelled_value : (text : List ℕ) → spelling_of text ≡ Some text → IsTextOf (unwrap_or (read text) null) text
unfolding spelling_of metadata_of json_of
spelled_value text is = of_json text (is_utf8 text) (read text) refl is
