-- What a path after `/uri/` names.
use Rattle.std.specs.Prelude.{ℕ, ◌+◌, ◌-◌, ◌&&◌, ◌||◌, ◌==◌, nat_lt, not, Bool, false, List, [], ◌∷◌, length, take, drop, slice_index, map, if◌then◌else◌, Result, Ok, Err}
use Rattle.std.specs.List.{slice_split, list_any, list_all}
use Rattle.std.specs.Char.{is_ascii_hexdigit}
use Rattle.std.specs.Str.{is_utf8}
use Rattle.percent_encoding.specs.Percent.{percent_decode}
use Rattle.dir_codec.specs.Names.{nfc_text}
use Rattle.path_names.specs.declared.fault.PathFault.{PathFault}
use Rattle.path_names.specs.declared.fault.PathFault.TheVariants.{BadEscape, NotUtf8, TooMany, EmptyName}

-- `b'/'`
abbrev pub slash : ℕ
slash = 47

-- `b'%'`
abbrev pub percent_sign : ℕ
percent_sign = 37

-- the text begins with two hexadecimal digits
abbrev pub begins_with_two_digits : List ℕ → Bool
begins_with_two_digits [] = false
begins_with_two_digits (high ∷ []) = false
begins_with_two_digits (high ∷ low ∷ rest) = is_ascii_hexdigit high && is_ascii_hexdigit low

-- some `%` has no two hexadecimal digits behind it
unfoldable pub has_bad_escape : List ℕ → Bool
has_bad_escape [] = false
has_bad_escape (b ∷ rest) = (b == percent_sign && not (begins_with_two_digits rest)) || has_bad_escape rest

-- the path without one slash at its end
abbrev pub without_end_slash : List ℕ → List ℕ
without_end_slash path = if slice_index path (length path - 1) == slash then take (length path - 1) path else path

-- the bytes between the slashes; one empty segment at the end is no segment
abbrev pub path_segments : List ℕ → List (List ℕ)
path_segments path = slice_split (λ b. b == slash) (without_end_slash path)

-- the bytes that the segments stand for
abbrev pub segment_texts : List ℕ → List (List ℕ)
segment_texts path = map percent_decode (path_segments path)

abbrev pub is_empty : List ℕ → Bool
is_empty text = length text == 0

abbrev pub max_names : ℕ
max_names = 64

abbrev pub first_or_empty : List (List ℕ) → List ℕ
first_or_empty [] = []
first_or_empty (text ∷ more) = text

-- what the path names: the cap's text, and the names below it in NFC; else the first fault
abbrev pub names_of : List ℕ → Result (List ℕ × List (List ℕ)) PathFault
names_of path =
    if has_bad_escape path then Err BadEscape
    else (if not (list_all is_utf8 (segment_texts path)) then Err NotUtf8
    else (if nat_lt (1 + max_names) (length (segment_texts path)) then Err TooMany
    else (if list_any is_empty (drop 1 (segment_texts path)) then Err EmptyName
    else Ok (first_or_empty (segment_texts path), map nfc_text (drop 1 (segment_texts path))))))
