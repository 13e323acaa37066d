-- Cap texts (Tahoe-LAFS's uri document, for immutable files and directories).
use Rattle.std.specs.Prelude.{◌≡◌, ℕ, ◌<◌, ◌^◌, List, [], ◌∷◌, ◌++◌, length, codes, decimal, All}
use Rattle.std.specs.List.{join_with_byte}
use Rattle.base32_text.specs.Base32.{Spells, spelling}
use Rattle.octets.specs.Sharing.{IsSharing}
use Rattle.caps.specs.Fields.{ReadValue, VerifyValue}
use Rattle.caps.specs.declared.cap.Cap.{Cap}
use Rattle.caps.specs.declared.cap.Cap.TheVariants.{Chk, Lit, DirChk, DirLit, ChkVerify, DirChkVerify}

-- the text of five fields, parted by `:`: 16 bytes that name the stored bytes and the 32 bytes of the UEB hash in
-- base32, then three numbers in decimal
pub record IsFieldsText (name ueb : List ℕ) (k n size : ℕ) (text : List ℕ) : Type 0 where
  pub name_text : List ℕ
  pub ueb_text : List ℕ
  pub parted : text ≡ join_with_byte 58 (name_text ∷ ueb_text ∷ decimal k ∷ decimal n ∷ decimal size ∷ [])
  pub name_spelled : Spells name_text name
  pub name_long : length name ≡ 16
  pub ueb_spelled : Spells ueb_text ueb
  pub ueb_long : length ueb ≡ 32
  pub sharing : IsSharing k n
  pub size_fits : size < 2 ^ 64

abbrev pub IsReadText : ReadValue → List ℕ → Type 0
IsReadText f text = IsFieldsText f.key f.ueb f.k f.n f.size text

abbrev pub IsVerifyText : VerifyValue → List ℕ → Type 0
IsVerifyText f text = IsFieldsText f.si f.ueb f.k f.n f.size text

-- what a cap's text is, by its six kinds
abbrev pub IsCapText : Cap → List ℕ → Type 0
IsCapText (Chk fields) text = (rest : List ℕ) × (text ≡ codes "URI:CHK:" ++ rest) × IsReadText fields rest
IsCapText (Lit bytes) text = (rest : List ℕ) × (text ≡ codes "URI:LIT:" ++ rest) × Spells rest bytes
IsCapText (DirChk fields) text = (rest : List ℕ) × (text ≡ codes "URI:DIR2-CHK:" ++ rest) × IsReadText fields rest
IsCapText (DirLit bytes) text = (rest : List ℕ) × (text ≡ codes "URI:DIR2-LIT:" ++ rest) × Spells rest bytes
IsCapText (ChkVerify fields) text = (rest : List ℕ) × (text ≡ codes "URI:CHK-Verifier:" ++ rest) × IsVerifyText fields rest
IsCapText (DirChkVerify fields) text =
    (rest : List ℕ) × (text ≡ codes "URI:DIR2-CHK-Verifier:" ++ rest) × IsVerifyText fields rest

-- the fields that a cap of stored bytes can have
pub record IsStoredCap (name ueb : List ℕ) (k n size : ℕ) : Type 0 where
  pub name_bytes : All (λ byte. byte < 256) name
  pub name_long : length name ≡ 16
  pub ueb_bytes : All (λ byte. byte < 256) ueb
  pub ueb_long : length ueb ≡ 32
  pub sharing : IsSharing k n
  pub size_fits : size < 2 ^ 64

-- what a `Cap` can be
abbrev pub IsCap : Cap → Type 0
IsCap (Chk fields) = IsStoredCap fields.key fields.ueb fields.k fields.n fields.size
IsCap (Lit bytes) = All (λ byte. byte < 256) bytes
IsCap (DirChk fields) = IsStoredCap fields.key fields.ueb fields.k fields.n fields.size
IsCap (DirLit bytes) = All (λ byte. byte < 256) bytes
IsCap (ChkVerify fields) = IsStoredCap fields.si fields.ueb fields.k fields.n fields.size
IsCap (DirChkVerify fields) = IsStoredCap fields.si fields.ueb fields.k fields.n fields.size

-- the text of five fields
abbrev pub fields_text : List ℕ → List ℕ → ℕ → ℕ → ℕ → List ℕ
fields_text name ueb k n size = join_with_byte 58 (spelling name ∷ spelling ueb ∷ decimal k ∷ decimal n ∷ decimal size ∷ [])

-- a cap's text
unfoldable pub cap_text : Cap → List ℕ
cap_text (Chk fields) = codes "URI:CHK:" ++ fields_text fields.key fields.ueb fields.k fields.n fields.size
cap_text (Lit bytes) = codes "URI:LIT:" ++ spelling bytes
cap_text (DirChk fields) = codes "URI:DIR2-CHK:" ++ fields_text fields.key fields.ueb fields.k fields.n fields.size
cap_text (DirLit bytes) = codes "URI:DIR2-LIT:" ++ spelling bytes
cap_text (ChkVerify fields) = codes "URI:CHK-Verifier:" ++ fields_text fields.si fields.ueb fields.k fields.n fields.size
cap_text (DirChkVerify fields) = codes "URI:DIR2-CHK-Verifier:" ++ fields_text fields.si fields.ueb fields.k fields.n fields.size
