-- What requests store.
use Rattle.std.specs.Prelude.{ℕ, List, length, nat_lt, if◌then◌else◌, Option, Some, None}
use Rattle.caps.specs.declared.cap.Cap.{Cap}
use Rattle.caps.specs.declared.cap.Cap.TheVariants.{Chk, Lit, DirChk, DirLit, ChkVerify, DirChkVerify}
use Rattle.dir_codec.specs.declared.entry.Entry.{Entry}
use Rattle.children_reader.specs.Children.{made}
use Rattle.dir_codec.specs.DirectoryText.{directory_text}
use Rattle.chk_file.specs.Upload.{Upload, upload_cap}
use Rattle.chk_file.specs.World.{World, after_upload}
use Rattle.web_request.specs.declared.request.Request.{Request}
use Rattle.web_request.specs.declared.request.Request.TheVariants.{Put, Mkdir, Get, Check}
use Rattle.web_ops.specs.Encoding.{Encoding, upload_of}

-- the upload of a directory's text
abbrev pub directory_upload : Encoding → List Entry → Upload
directory_upload e entries = upload_of e (directory_text entries)

-- the directory's cap in place of its text's
abbrev pub as_directory : Cap → Cap
as_directory (Chk fields) = DirChk fields
as_directory (Lit bytes) = DirLit bytes
as_directory (DirChk fields) = DirChk fields
as_directory (DirLit bytes) = DirLit bytes
as_directory (ChkVerify fields) = ChkVerify fields
as_directory (DirChkVerify fields) = DirChkVerify fields

-- the cap of a directory
abbrev pub directory_cap : Encoding → List Entry → Cap
directory_cap e entries = as_directory (upload_cap (directory_upload e entries))

-- bytes that are too many to stand in a cap
abbrev pub if_long : Upload → Option Upload
if_long u = if nat_lt 55 (length u.bytes) then Some u else None

-- the upload whose shares a directory leaves, where its children are some
abbrev pub made_upload : Encoding → Option (List Entry) → Option Upload
made_upload e None = None
made_upload e (Some entries) = if_long (directory_upload e entries)

-- the upload whose shares a request leaves
abbrev pub upload_in : Encoding → Request → Option Upload
upload_in e (Put bytes) = if_long (upload_of e bytes)
upload_in e (Mkdir json) = made_upload e (made json)
upload_in e (Get cap names json head_only range) = None
upload_in e (Check cap names verify) = None

-- the world after what was stored
abbrev pub after_stored : ℕ → Option Upload → World → World
after_stored servers None w = w
after_stored servers (Some u) w = after_upload servers u w
