-- JSON of files and directories (Tahoe-LAFS's webapi document, `t=json`): compact, keys in the order of their bytes.
use Rattle.std.specs.Prelude.{ℕ, List, [], ◌∷◌, ◌++◌, length, map, codes, decimal, Option, Some, None}
use Rattle.std.specs.List.{concat, join_with_byte}
use Rattle.caps.specs.CapTexts.{cap_text}
use Rattle.caps.specs.Weakening.{weakened, cap_of}
use Rattle.caps.specs.declared.cap.Cap.{Cap}
use Rattle.caps.specs.declared.cap.Cap.TheVariants.{Chk, Lit, DirChk, DirLit, ChkVerify, DirChkVerify}
use Rattle.caps.specs.declared.cap.VerifyCap.{VerifyCap}
use Rattle.dir_codec.specs.declared.entry.Entry.{Entry}
use Rattle.json_view.specs.Strings.{quoted}

-- the size of a file that a cap reads, in bytes
abbrev pub size_member : Cap → List ℕ
size_member (Chk fields) = codes ",\"size\":" ++ decimal fields.size
size_member (Lit bytes) = codes ",\"size\":" ++ decimal (length bytes)
size_member (DirChk fields) = []
size_member (DirLit bytes) = []
size_member (ChkVerify fields) = []
size_member (DirChkVerify fields) = []

-- the verify cap, where there is one
abbrev pub verify_member : Option VerifyCap → List ℕ
verify_member None = []
verify_member (Some verify) = codes ",\"verify_uri\":" ++ quoted (cap_text (cap_of verify))

-- what each node has: that it can't change, its cap, the size of a file, and the verify cap
unfoldable pub node_members : Cap → List ℕ
node_members cap =
    concat (codes "\"mutable\":false,\"ro_uri\":" ∷ quoted (cap_text cap) ∷ size_member cap ∷ verify_member (weakened cap) ∷ [])

-- a file or a directory
abbrev pub node_kind : Cap → List ℕ
node_kind (Chk fields) = codes "filenode"
node_kind (Lit bytes) = codes "filenode"
node_kind (DirChk fields) = codes "dirnode"
node_kind (DirLit bytes) = codes "dirnode"
node_kind (ChkVerify fields) = codes "filenode"
node_kind (DirChkVerify fields) = codes "dirnode"

-- a file
unfoldable pub file_text : Cap → List ℕ
file_text cap = concat (codes "[\"filenode\",{" ∷ node_members cap ∷ codes "}]" ∷ [])

-- a child under its name: its metadata, which are kept as `serde_json`'s compact text, and what each node has
unfoldable pub child_text : Entry → List ℕ
child_text entry =
    concat (quoted entry.name ∷ codes ":[\"" ∷ node_kind entry.cap ∷ codes "\",{\"metadata\":" ∷ entry.metadata ∷ codes "," ∷ node_members entry.cap ∷ codes "}]" ∷ [])

-- a directory with its children, parted by commas, in the order of the entries
unfoldable pub dir_text : Cap → List Entry → List ℕ
dir_text cap entries =
    concat (codes "[\"dirnode\",{\"children\":{" ∷ join_with_byte 44 (map child_text entries) ∷ codes "}," ∷ node_members cap ∷ codes "}]" ∷ [])
