-- The JSON of a directory's children, as `POST /uri?t=mkdir-immutable` takes it.
use Rattle.std.specs.Prelude.{ℕ, List, [], ◌∷◌, codes, unwrap_or}
use Rattle.std.specs.List.{concat}
use Rattle.serde_json.specs.Data.{Data, null, string, array, object, item, no_items, Members, no_members, member}
use Rattle.serde_json.specs.Read.{read}
use Rattle.serde_json.specs.Written.{compact_text}
use Rattle.caps.specs.CapTexts.{cap_text}
use Rattle.caps.specs.declared.cap.Cap.{Cap}
use Rattle.caps.specs.declared.cap.Cap.TheVariants.{Chk, Lit, DirChk, DirLit, ChkVerify, DirChkVerify}
use Rattle.dir_codec.specs.declared.entry.Entry.{Entry}

-- a file or a directory
abbrev pub kind : Cap → List ℕ
kind (Chk fields) = codes "filenode"
kind (Lit bytes) = codes "filenode"
kind (DirChk fields) = codes "dirnode"
kind (DirLit bytes) = codes "dirnode"
kind (ChkVerify fields) = codes "filenode"
kind (DirChkVerify fields) = codes "dirnode"

-- the value that an entry's metadata are read as
abbrev pub metadata_data : Entry → Data
metadata_data entry = unwrap_or (read entry.metadata) null

abbrev pub fields_value : Entry → Members
fields_value entry =
    member (codes "metadata") (metadata_data entry) (member (codes "ro_uri") (string (cap_text entry.cap)) no_members)

-- an entry: a kind, its metadata and its cap
abbrev pub entry_value : Entry → Data
entry_value entry = array (item (string (kind entry.cap)) (item (object (fields_value entry)) no_items))

-- the entries under their names
abbrev pub entries_value : List Entry → Members
entries_value [] = no_members
entries_value (entry ∷ more) = member entry.name (entry_value entry) (entries_value more)

-- the text that is sent
unfoldable pub children_text : List Entry → List ℕ
children_text entries = compact_text (object (entries_value entries))

-- an entry as it is written
unfoldable pub entry_member : Entry → List ℕ
entry_member entry =
    concat (compact_text (string entry.name) ∷ codes ":[\"" ∷ kind entry.cap ∷ codes "\",{\"metadata\":" ∷ entry.metadata ∷ codes ",\"ro_uri\":" ∷ compact_text (string (cap_text entry.cap)) ∷ codes "}]" ∷ [])
