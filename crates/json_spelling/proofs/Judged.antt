-- Metadata of which parts were judged.
use Rattle.std.proofs.Common.{◌≡◌, List, ℕ, false, Option, Some, None, option_map, option_and_then, is_some, IsUtf8, refl, sym, ap, ◌∙◌}
use Rattle.serde_json.specs.Data.{Data}
use Rattle.serde_json.specs.Read.{read}
use Rattle.serde_json.specs.Written.{compact_text}
use Rattle.json_spelling.specs.Metadata.{if_metadata, json_of, metadata_of, spelling_of}
use Rattle.json_spelling.proofs.Json.{json_read, json_refused, none_spelled}

is_some_mapped : {A B : Type 0} (f : A → B) (o : Option A) → is_some (option_map f o) ≡ is_some o
is_some_mapped f None = refl
is_some_mapped f (Some a) = refl

json_is : (text : List ℕ) (o : Option Data) → read text ≡ o → IsUtf8 text → json_of text ≡ o
json_is text (Some d) is utf8 = json_read text d utf8 is
json_is text None is utf8 = json_refused text (λ _. is)

-- the spelling of a text
pub spelling_read : (text : List ℕ) → IsUtf8 text → option_map compact_text (option_and_then if_metadata (read text)) ≡ spelling_of text
unfolding spelling_of metadata_of
spelling_read text utf8 = ap (λ o. option_map compact_text (option_and_then if_metadata o)) (sym (json_is text (read text) refl utf8))

-- a text has a spelling where it is read as metadata
pub spelling_there : (text : List ℕ) → IsUtf8 text → is_some (option_and_then if_metadata (read text)) ≡ is_some (spelling_of text)
spelling_there text utf8 = sym (is_some_mapped compact_text (option_and_then if_metadata (read text))) ∙ ap is_some (spelling_read text utf8)

-- what is no JSON has none
pub no_spelling : (text : List ℕ) → json_of text ≡ None → false ≡ is_some (spelling_of text)
no_spelling text none = ap is_some (sym (none_spelled text none))
