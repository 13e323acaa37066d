-- Names of a directory's entries (Tahoe-LAFS's dirnodes document; UAX 15 for NFC).
use Rattle.std.specs.Prelude.{◌≡◌, ℕ, Bool, not, ◌&&◌, ◌==◌, List, length, chars, encode_utf8_all}
use Rattle.std.specs.Ordering.{nat_cmp}
use Rattle.std.specs.Cmp.Lexicographic.{slice_cmp}
use Rattle.std.specs.Str.{is_utf8}
use Rattle.std.specs.declared.cmp.Ordering.TheVariants.{Less}
use Rattle.unicode_normalization.specs.Forms.{nfc, is_nfc}

-- a text in UTF-8 that is not empty and in NFC
unfoldable pub is_name : List ℕ → Bool
is_name text = is_utf8 text && not (length text == 0) && is_nfc (chars text)

-- a text in NFC
unfoldable pub nfc_text : List ℕ → List ℕ
nfc_text key = encode_utf8_all (nfc (chars key))

-- above another name, in the order of their bytes
abbrev pub IsAbove : List ℕ → List ℕ → Type 0
IsAbove name other = slice_cmp nat_cmp other name ≡ Less
