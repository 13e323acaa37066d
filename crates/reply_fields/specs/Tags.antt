-- Entity tags of stored files, and the conditions on them that a request has (RFC 9110, sections 8.8.3, 13.1.2, 13.1.5).
use Rattle.std.specs.Prelude.{ℕ, Bool, ◌&&◌, ◌||◌, not, List, [], ◌∷◌, ◌++◌, drop, nat_eq, bytes_eq, codes, if◌then◌else◌, Option, None, option_map}
use Rattle.std.specs.List.{list_any, slice_split, starts_with}
use Rattle.httparse.specs.Grammar.{trim_ows}
use Rattle.octets.specs.Case.{eq_ignore_case}
use Rattle.caps.specs.Fields.{VerifyValue}
use Rattle.caps.specs.CapTexts.{cap_text}
use Rattle.caps.specs.declared.cap.Cap.TheVariants.{ChkVerify}
use Rattle.http_edge.specs.Judge.{is_comma}
use Rattle.web_request.specs.Ranges.{is_if_range, one_range}
use Rattle.web_request.specs.declared.head.Field.{Field}

-- a file's tag, which is a strong one: the text of its verify cap, in quotes
abbrev pub entity_tag : VerifyValue → List ℕ
entity_tag file = 34 ∷ (cap_text (ChkVerify file) ++ 34 ∷ [])

-- this tag, weak or strong
abbrev pub is_weakly : List ℕ → List ℕ → Bool
is_weakly tag piece = bytes_eq piece tag || (starts_with nat_eq piece (codes "W/") && bytes_eq (drop 2 piece) tag)

-- one of the pieces between commas, cut of the spaces and tabs around it, is the tag
unfoldable pub has_tag : List ℕ → List ℕ → Bool
has_tag tag value = list_any (λ piece. is_weakly tag (trim_ows piece)) (slice_split is_comma value)

-- a value that is any tag, or lists this one
unfoldable pub lists_tag : List ℕ → List ℕ → Bool
lists_tag tag value = bytes_eq (trim_ows value) (codes "*") || has_tag tag value

-- an If-None-Match field that lists the tag
unfoldable pub is_none_match : List ℕ → Field → Bool
is_none_match tag field = eq_ignore_case field.name (codes "if-none-match") && lists_tag tag field.value

-- who asks has the file with this tag already
abbrev pub is_had : List ℕ → List Field → Bool
is_had tag fields = list_any (is_none_match tag) fields

-- an If-Range field with another tag
unfoldable pub is_other_range : List ℕ → Field → Bool
is_other_range tag field = is_if_range field && not (bytes_eq field.value tag)

-- If-Range fields stand, and each is this tag
abbrev pub is_if_range_met : List ℕ → List Field → Bool
is_if_range_met tag fields = list_any is_if_range fields && not (list_any (is_other_range tag) fields)

-- the range that is asked for if the file has this tag
abbrev pub range_if : List ℕ → List Field → Option (List ℕ)
range_if tag fields = if is_if_range_met tag fields then option_map (λ (field : Field). field.value) (one_range fields) else None
