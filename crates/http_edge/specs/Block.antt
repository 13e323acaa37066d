-- The request head that a block of bytes is (RFC 9112, sections 2 to 5). The grammar of `httparse` is a relation;
-- here it is a function, and `head_is_of_the_grammar` says that both are the same.
use Rattle.std.specs.Prelude.{ℕ, ◌+◌, ◌-◌, Bool, ◌&&◌, List, [], ◌∷◌, length, drop, slice_index, if◌then◌else◌, ◌==◌, nat_lt, nat_le, Option, Some, None, option_and_then, bytes_eq}
use Rattle.std.specs.List.{list_all, slice_split}
use Rattle.std.specs.Str.{is_utf8}
use Rattle.httparse.specs.Ascii.{line_feed, carriage_return, space, colon, digit_zero}
use Rattle.httparse.specs.Grammar.{LineEnd, crlf, lf, Field, is_token, is_uri_byte, is_value_byte, RequestHead, print_request}

abbrev pub is_line_feed : ℕ → Bool
is_line_feed b = b == line_feed

abbrev pub is_carriage_return : ℕ → Bool
is_carriage_return b = b == carriage_return

abbrev pub is_space : ℕ → Bool
is_space b = b == space

abbrev pub is_colon : ℕ → Bool
is_colon b = b == colon

-- a line's text and its end, from the parts round its CR
abbrev pub text_and_end : List (List ℕ) → List ℕ × LineEnd
text_and_end [] = ([], lf)
text_and_end (text ∷ []) = (text, lf)
text_and_end (text ∷ rest ∷ more) = (text, crlf)

abbrev pub line_of : List ℕ → List ℕ × LineEnd
line_of line = text_and_end (slice_split is_carriage_return line)

-- the first of the parts
abbrev pub first_part : List (List ℕ) → List ℕ
first_part [] = []
first_part (part ∷ parts) = part

-- the name is what stands before the first colon
abbrev pub field_of : List ℕ × LineEnd → Field
field_of l =
    let name = first_part (slice_split is_colon l.0) in
    record { name = name; raw = drop (length name + 1) l.0; end = l.1 }

-- the field lines up to the empty line, and how that ends
abbrev pub section_of : List (List ℕ) → List Field × LineEnd
section_of [] = ([], lf)
section_of (line ∷ lines) =
    if length (line_of line).0 == 0 then ([], (line_of line).1)
    else (field_of (line_of line) ∷ (section_of lines).0, (section_of lines).1)

-- method SP target SP version, from the words of the first line
abbrev pub head_from : List (List ℕ) → LineEnd → List Field × LineEnd → Option RequestHead
head_from [] end section = None
head_from (method ∷ []) end section = None
head_from (method ∷ target ∷ []) end section = None
head_from (method ∷ target ∷ version ∷ more) end section = Some (record {
  blank = [];
  method = method;
  target = target;
  minor = slice_index version 7 - digit_zero;
  line_end = end;
  fields = section.0;
  last = section.1;
})

abbrev pub with_blank : LineEnd → Option RequestHead → Option RequestHead
with_blank end None = None
with_blank end (Some h) = Some (record h { blank = end ∷ h.blank })

-- empty lines, the first line and the section
abbrev pub parts_from : List (List ℕ) → Option RequestHead
parts_from [] = None
parts_from (line ∷ lines) =
    if length (line_of line).0 == 0 then with_blank (line_of line).1 (parts_from lines)
    else head_from (slice_split is_space (line_of line).0) (line_of line).1 (section_of lines)

-- the parts that the block has if it is a head
abbrev pub parts_of : List ℕ → Option RequestHead
parts_of block = parts_from (slice_split is_line_feed block)

-- `IsField` as a test
abbrev pub is_field : Field → Bool
is_field f = is_token f.name && list_all is_value_byte f.raw

-- `IsRequestHead` as a test
unfoldable pub is_request_head : RequestHead → Bool
is_request_head h =
    is_token h.method
    && ((nat_lt 0 (length h.target) && list_all is_uri_byte h.target)
    && (is_utf8 h.target && (nat_le h.minor 1 && list_all is_field h.fields)))

-- the parts, where they are valid and printing them gives the block back
abbrev pub printed_as : List ℕ → RequestHead → Option RequestHead
printed_as block h = if is_request_head h && bytes_eq (print_request h) block then Some h else None

-- the request head that the whole block is, if it is one
unfoldable pub head_of : List ℕ → Option RequestHead
head_of block = option_and_then (printed_as block) (parts_of block)
