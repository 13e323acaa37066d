-- The values that replies are the texts of.
use Rattle.std.specs.Prelude.{ℕ, false, List, [], ◌∷◌, length, codes, Option, Some, None, unwrap_or}
use Rattle.serde_json.specs.Data.{Data, null, boolean, number, unsigned, string, array, object, item, no_items, Members, no_members, member}
use Rattle.serde_json.specs.Read.{read}
use Rattle.caps.specs.CapTexts.{cap_text}
use Rattle.caps.specs.Weakening.{weakened, cap_of}
use Rattle.caps.specs.declared.cap.Cap.{Cap}
use Rattle.caps.specs.declared.cap.Cap.TheVariants.{Chk, Lit, DirChk, DirLit, ChkVerify, DirChkVerify}
use Rattle.caps.specs.declared.cap.VerifyCap.{VerifyCap}
use Rattle.dir_codec.specs.declared.entry.Entry.{Entry}
use Rattle.json_view.specs.Nodes.{node_kind}

-- ---- files

-- the size of a file that a cap reads, in bytes; nothing else has one
abbrev pub file_size : Cap → ℕ
file_size (Chk fields) = fields.size
file_size (Lit bytes) = length bytes
file_size (DirChk fields) = 0
file_size (DirLit bytes) = 0
file_size (ChkVerify fields) = 0
file_size (DirChkVerify fields) = 0

abbrev pub size_value : Cap → Members → Members
size_value (Chk fields) more = member (codes "size") (number (unsigned fields.size)) more
size_value (Lit bytes) more = member (codes "size") (number (unsigned (length bytes))) more
size_value (DirChk fields) more = more
size_value (DirLit bytes) more = more
size_value (ChkVerify fields) more = more
size_value (DirChkVerify fields) more = more

abbrev pub verify_value : Option VerifyCap → Members
verify_value None = no_members
verify_value (Some verify) = member (codes "verify_uri") (string (cap_text (cap_of verify))) no_members

abbrev pub node_value : Cap → Members
node_value cap =
    member (codes "mutable") (boolean false) (member (codes "ro_uri") (string (cap_text cap)) (size_value cap (verify_value (weakened cap))))

-- a file: a kind and an object
abbrev pub file_value : Cap → Data
file_value cap = array (item (string (codes "filenode")) (item (object (node_value cap)) no_items))

-- ---- directories

-- the value that a child's metadata are read as; in a directory each child's are read as one
abbrev pub metadata_value : Entry → Data
metadata_value entry = unwrap_or (read entry.metadata) null

-- a child: a kind and an object
abbrev pub child_value : Entry → Data
child_value entry =
    array (item (string (node_kind entry.cap)) (item (object (member (codes "metadata") (metadata_value entry) (node_value entry.cap))) no_items))

-- the children under their names
abbrev pub children_value : List Entry → Members
children_value [] = no_members
children_value (entry ∷ more) = member entry.name (child_value entry) (children_value more)

-- a directory: a kind and an object
abbrev pub dir_value : Cap → List Entry → Data
dir_value cap entries =
    array (item (string (codes "dirnode")) (item (object (member (codes "children") (object (children_value entries)) (node_value cap))) no_items))
