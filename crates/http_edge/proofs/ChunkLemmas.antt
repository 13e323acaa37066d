-- A text of the grammar of chunked bodies reads as what it brings.
use Rattle.std.proofs.Common.{◌≡◌, ℕ, ◌+◌, ◌*◌, ◌<◌, ◌≤◌, Bool, true, false, ◌&&◌, List, [], ◌∷◌, ◌++◌, length, min, Option, Some, None, refl, sym, subst, ap, ◌∙◌, arith, append_assoc, append-nil, length-append, lit≤}
use Rattle.std.specs.Prelude.{nat_le, nat_lt, IsTrue}
use Rattle.std.specs.List.{All, flat_map, list_all}
use Rattle.std.specs.Char.{digit_value, is_digit, is_ascii_hexdigit}
use Rattle.std.specs.Str.Parse.{digits_value_after}
use Rattle.std.proofs.Math.Dec.{eqb}
use Rattle.std.proofs.lemmas.Bool.Decides.{nat_tests}
use Rattle.std.proofs.lemmas.List.Elements.{All-head, All-tail}
use Rattle.httparse.specs.Grammar.{ChunkLine, IsChunkLine, IsExtension, print_extension, print_chunk_line, chunk_size, is_ows, is_extension_byte, AllPass}
use Rattle.http_edge.specs.Judge.{most_body_bytes}
use Rattle.http_edge.specs.Plain.{is_line_byte}
use Rattle.http_edge.specs.Chunks.{most_chunk_line_bytes, most_trailer_bytes, Chunk, print_chunk, IsChunk, print_trailer, IsTrailer, ChunkedBody, print_trailers, print_body, IsChunkedBody, content_of, IsBeginning}
use Rattle.http_edge.specs.Places.{size_with_digit, place_within, after_size, in_size, in_extension, sized, in_trailer, after_data, step, with_byte, BodyReading, whole, broken, read, resume, line_start, chunked_of}
use Rattle.http_edge.specs.declared.item.FramingFault.TheVariants.{BadChunk, TooLong}
use Rattle.http_edge.specs.declared.place.Place.{Place}
use Rattle.http_edge.specs.declared.place.Place.TheVariants.{Size, AfterSize, Extension, LineFeed, Data, DataReturn, DataLineFeed, Trailers, Trailer, TrailerLineFeed, LastLineFeed}
use Rattle.http_edge.specs.declared.place.Step.{Step}
use Rattle.http_edge.specs.declared.place.Step.TheVariants.{Next, Broken}
use Rattle.http_edge.proofs.ReadingLemmas.{read_byte, read_data, then_read, read-append}

-- sizes above the limit are all alike
abbrev pub capped : ℕ → ℕ
capped n = min n (most_body_bytes + 1)

capped_digit : (n b : ℕ) → size_with_digit (capped n) b ≡ capped (n * 16 + digit_value b)
capped_digit n b = go n (digit_value b)
  where
    go : (n d : ℕ) → min (min n (most_body_bytes + 1) * 16 + d) (most_body_bytes + 1) ≡ min (n * 16 + d) (most_body_bytes + 1)
    go n d = omega arith

is_true : (b : Bool) → IsTrue b → b ≡ true
is_true b h = h

hex_is_digit : (b : ℕ) → is_ascii_hexdigit b ≡ true → is_digit b 16 ≡ true
hex_is_digit b h = grind (arith, nat_tests)

-- a step that goes on to a place of the same content
goes : (n : ℕ) (content : List ℕ) (place next : Place) (b : ℕ) (bytes : List ℕ) → step (length content) place b ≡ Next next
    → with_byte place content b ≡ content → read n content place (b ∷ bytes) ≡ read (n + 1) content next bytes
goes n content place next b bytes e same =
    read_byte n content place b bytes ∙ ap (λ (x : Step). resume (n + 1) x (with_byte place content b) bytes) e
    ∙ ap (λ (c : List ℕ). read (n + 1) c next bytes) same

yes_lt : (n m : ℕ) → n < m → nat_lt n m ≡ true
yes_lt n m h = grind (arith, nat_tests)

yes_le : (n m : ℕ) → n ≤ m → nat_le n m ≡ true
yes_le n m h = grind (arith, nat_tests)

no_le : (n m : ℕ) → m < n → nat_le n m ≡ false
no_le n m h = grind (arith, nat_tests)

-- ---- a chunk line

step_digit : (count size digits b : ℕ) → is_digit b 16 ≡ true → digits < 16 → step count (Size size digits) b ≡ Next (Size (size_with_digit size b) (digits + 1))
unfolding step in_size
step_digit count size digits b hex few = rw (hex, yes_lt digits 16 few) refl

read_digits : (n : ℕ) (content : List ℕ) (v digits : ℕ) (d rest : List ℕ) → AllPass is_ascii_hexdigit d → digits + length d ≤ 16
    → read n content (Size (capped v) digits) (d ++ rest) ≡ read (n + length d) content (Size (capped (digits_value_after 16 v d)) (digits + length d)) rest
read_digits n content v digits [] rest all few =
    ap (λ (k : ℕ). read k content (Size (capped v) digits) rest) (omega arith) ∙ ap (λ (k : ℕ). read (n + 0) content (Size (capped v) k) rest) (omega arith)
read_digits n content v digits (b ∷ d) rest all few =
    goes n content (Size (capped v) digits) (Size (size_with_digit (capped v) b) (digits + 1)) b (d ++ rest)
    (step_digit (length content) (capped v) digits b (hex_is_digit b (is_true (is_ascii_hexdigit b) (All-head (λ x. IsTrue (is_ascii_hexdigit x)) b d all))) (omega arith)) refl
    ∙ ap (λ (k : ℕ). read (n + 1) content (Size k (digits + 1)) (d ++ rest)) (capped_digit v b)
    ∙ read_digits (n + 1) content (v * 16 + digit_value b) (digits + 1) d rest (All-tail (λ x. IsTrue (is_ascii_hexdigit x)) b d all) (omega arith)
    ∙ ap (λ (k : ℕ). read k content (Size (capped (digits_value_after 16 v (b ∷ d))) (digits + 1 + length d)) rest) (omega arith)
    ∙ ap (λ (k : ℕ). read (n + length (b ∷ d)) content (Size (capped (digits_value_after 16 v (b ∷ d))) k) rest) (omega arith)

-- what stands after the digits: a place that goes on as one after the size does
record IsAfter (place : Place) (size taken : ℕ) : Type 0 where
  same : (count b : ℕ) → is_digit b 16 ≡ false → step count place b ≡ after_size size taken b
  kept : (content : List ℕ) (b : ℕ) → with_byte place content b ≡ content

size_is_after : (size digits : ℕ) → 0 < digits → IsAfter (Size size digits) size digits
unfolding step in_size
size_is_after size digits some = record {
  same = λ count b other. rw (other, none digits some) refl;
  kept = λ content b. refl;
}
  where
    none : (n : ℕ) → 0 < n → eqb n 0 ≡ false
    none n h = grind (arith, nat_tests)

after_is_after : (size taken : ℕ) → IsAfter (AfterSize size taken) size taken
unfolding step
after_is_after size taken = record { same = λ count b other. refl; kept = λ content b. refl }

ows_bytes : (b : ℕ) → is_ows b ≡ true → (is_digit b 16 ≡ false) × (eqb b 13 ≡ false)
ows_bytes b h = (grind (arith, nat_tests), grind (arith, nat_tests))

within_room : (most needed : ℕ) (place : Place) → needed ≤ most → place_within most needed place ≡ Next place
within_room most needed place h = rw (yes_le needed most h) refl

step_blank : (size taken b : ℕ) → is_ows b ≡ true → taken + 3 ≤ most_chunk_line_bytes → after_size size taken b ≡ Next (AfterSize size (taken + 1))
unfolding after_size
step_blank size taken b blank room = rw ((ows_bytes b blank).1, blank) (within_room most_chunk_line_bytes (taken + 3) (AfterSize size (taken + 1)) room)

-- a line's pad, and the place after it
record Padded (n : ℕ) (content : List ℕ) (place : Place) (size taken : ℕ) (pad rest : List ℕ) : Type 0 where
  next : Place
  after : IsAfter next size (taken + length pad)
  reads : read n content place (pad ++ rest) ≡ read (n + length pad) content next rest

read_pad : (n : ℕ) (content : List ℕ) (place : Place) (size taken : ℕ) (pad rest : List ℕ) → IsAfter place size taken → AllPass is_ows pad
    → taken + length pad + 2 ≤ most_chunk_line_bytes → Padded n content place size taken pad rest
read_pad n content place size taken [] rest at all room = record {
  next = place;
  after = subst (λ (k : ℕ). IsAfter place size k) (omega arith) at;
  reads = ap (λ (k : ℕ). read k content place rest) (omega arith);
}
read_pad n content place size taken (b ∷ pad) rest at all room =
    let blank : is_ows b ≡ true = is_true (is_ows b) (All-head (λ x. IsTrue (is_ows x)) b pad all) in
    let more = read_pad (n + 1) content (AfterSize size (taken + 1)) size (taken + 1) pad rest (after_is_after size (taken + 1)) (All-tail (λ x. IsTrue (is_ows x)) b pad all) (omega arith) in
    record {
      next = more.next;
      after = subst (λ (k : ℕ). IsAfter more.next size k) (omega arith) more.after;
      reads = goes n content place (AfterSize size (taken + 1)) b (pad ++ rest)
          (at.same (length content) b (ows_bytes b blank).0 ∙ step_blank size taken b blank (omega arith)) (at.kept content b)
          ∙ more.reads ∙ ap (λ (k : ℕ). read k content more.next rest) (omega arith);
    }

step_return : (size taken : ℕ) → after_size size taken 13 ≡ Next (LineFeed size)
unfolding after_size
step_return size taken = refl

step_semicolon : (size taken : ℕ) → taken + 3 ≤ most_chunk_line_bytes → after_size size taken 59 ≡ Next (Extension size (taken + 1))
unfolding after_size
step_semicolon size taken room = within_room most_chunk_line_bytes (taken + 3) (Extension size (taken + 1)) room

plain_bytes : (b : ℕ) → is_extension_byte b ≡ true → (eqb b 13 ≡ false) × (eqb b 10 ≡ false)
plain_bytes b h = (grind (arith, nat_tests), grind (arith, nat_tests))

step_extension : (count size taken b : ℕ) → is_extension_byte b ≡ true → taken + 3 ≤ most_chunk_line_bytes
    → step count (Extension size taken) b ≡ Next (Extension size (taken + 1))
unfolding step in_extension
step_extension count size taken b plain room =
    rw ((plain_bytes b plain).0, (plain_bytes b plain).1) (within_room most_chunk_line_bytes (taken + 3) (Extension size (taken + 1)) room)

step_extension_return : (count size taken : ℕ) → step count (Extension size taken) 13 ≡ Next (LineFeed size)
unfolding step in_extension
step_extension_return count size taken = refl

read_extension : (n : ℕ) (content : List ℕ) (size taken : ℕ) (text rest : List ℕ) → AllPass is_extension_byte text
    → taken + length text + 2 ≤ most_chunk_line_bytes
    → read n content (Extension size taken) (text ++ 13 ∷ rest) ≡ read (n + length text + 1) content (LineFeed size) rest
read_extension n content size taken [] rest all room =
    goes n content (Extension size taken) (LineFeed size) 13 rest (step_extension_return (length content) size taken) refl
    ∙ ap (λ (k : ℕ). read k content (LineFeed size) rest) (omega arith)
read_extension n content size taken (b ∷ text) rest all room =
    goes n content (Extension size taken) (Extension size (taken + 1)) b (text ++ 13 ∷ rest)
    (step_extension (length content) size taken b (is_true (is_extension_byte b) (All-head (λ x. IsTrue (is_extension_byte x)) b text all)) (omega arith)) refl
    ∙ read_extension (n + 1) content size (taken + 1) text rest (All-tail (λ x. IsTrue (is_extension_byte x)) b text all) (omega arith)
    ∙ ap (λ (k : ℕ). read k content (LineFeed size) rest) (omega arith)

read_option : (n : ℕ) (content : List ℕ) (place : Place) (size taken : ℕ) (extension : Option (List ℕ)) (rest : List ℕ) → IsAfter place size taken
    → IsExtension extension → taken + length (print_extension extension) + 2 ≤ most_chunk_line_bytes
    → read n content place (print_extension extension ++ 13 ∷ rest) ≡ read (n + length (print_extension extension) + 1) content (LineFeed size) rest
read_option n content place size taken None rest at is room =
    goes n content place (LineFeed size) 13 rest (at.same (length content) 13 refl ∙ step_return size taken) (at.kept content 13)
    ∙ ap (λ (k : ℕ). read k content (LineFeed size) rest) (omega arith)
read_option n content place size taken (Some text) rest at is room =
    goes n content place (Extension size (taken + 1)) 59 (text ++ 13 ∷ rest)
    (at.same (length content) 59 refl ∙ step_semicolon size taken (omega arith)) (at.kept content 59)
    ∙ read_extension (n + 1) content size (taken + 1) text rest is (omega arith)
    ∙ ap (λ (k : ℕ). read k content (LineFeed size) rest) (omega arith)

regrouped : (a b c d e : List ℕ) → (a ++ b ++ c ++ d) ++ e ≡ a ++ (b ++ (c ++ (d ++ e)))
regrouped a b c d e = simp append_assoc

line_length : (a b c d : List ℕ) → length (a ++ b ++ c ++ d) ≡ length a + length b + length c + length d
line_length a b c d = omega (arith, length-append (a ++ b ++ c) d, length-append (a ++ b) c, length-append a b)

-- a whole chunk line
pub read_line : (n : ℕ) (content : List ℕ) (line : ChunkLine) (rest : List ℕ) → IsChunkLine line → length (print_chunk_line line) ≤ most_chunk_line_bytes
    → read n content line_start (print_chunk_line line ++ rest)
    ≡ resume (n + length (print_chunk_line line)) (sized (length content) (capped (chunk_size line))) content rest
unfolding print_chunk_line step
read_line n content line rest is short =
    let size : length (line.digits ++ line.pad ++ print_extension line.extension ++ 13 ∷ 10 ∷ []) ≡ length line.digits + length line.pad + length (print_extension line.extension) + 2
    = line_length line.digits line.pad (print_extension line.extension) (13 ∷ 10 ∷ []) in
    let v = capped (chunk_size line) in
    let d : ℕ = length line.digits in
    let p : ℕ = length line.pad in
    let x : ℕ = length (print_extension line.extension) in
    let few : length line.digits ≤ 16 = is.digits.1 in
    let pad = read_pad (n + d) content (Size v d) v d line.pad (print_extension line.extension ++ 13 ∷ 10 ∷ rest)
    (size_is_after v d is.digits.0) is.pad (omega arith) in
    ap (read n content line_start) (regrouped line.digits line.pad (print_extension line.extension) (13 ∷ 10 ∷ []) rest)
    ∙ read_digits n content 0 0 line.digits (line.pad ++ (print_extension line.extension ++ 13 ∷ 10 ∷ rest)) is.digits.2 (omega arith)
    ∙ ap (λ (k : ℕ). read (n + d) content (Size v k) (line.pad ++ (print_extension line.extension ++ 13 ∷ 10 ∷ rest))) (omega arith)
    ∙ pad.reads
    ∙ read_option (n + d + p) content pad.next v (d + p) line.extension (10 ∷ rest) pad.after is.extension (omega arith)
    ∙ read_byte (n + d + p + x + 1) content (LineFeed v) 10 rest
    ∙ ap (λ (k : ℕ). resume k (sized (length content) v) content rest) (omega arith)

-- ---- a chunk

-- a size that fits
sized_data : (count size : ℕ) → 0 < size → count + size ≤ most_body_bytes → sized count (capped size) ≡ Next (Data size)
sized_data count size some fits =
    let same : capped size ≡ size = omega arith in
    let none : eqb size 0 ≡ false = not_zero size some in
    rw (same, none, yes_le (count + size) most_body_bytes fits) refl
  where
    not_zero : (n : ℕ) → 0 < n → eqb n 0 ≡ false
    not_zero n h = grind (arith, nat_tests)

-- one that doesn't
pub sized_long : (count size : ℕ) → 0 < size → most_body_bytes < count + size → sized count (capped size) ≡ Broken TooLong
sized_long count size some long =
    let none : eqb (capped size) 0 ≡ false = not_zero (capped size) (omega arith) in
    let far : nat_le (count + capped size) most_body_bytes ≡ false = no_le (count + capped size) most_body_bytes (omega arith) in
    rw (none, far) refl
  where
    not_zero : (n : ℕ) → 0 < n → eqb n 0 ≡ false
    not_zero n h = grind (arith, nat_tests)

read_crlf : (n : ℕ) (content rest : List ℕ) → read n content DataReturn (13 ∷ 10 ∷ rest) ≡ read (n + 2) content line_start rest
unfolding step
read_crlf n content rest =
    goes n content DataReturn DataLineFeed 13 (10 ∷ rest) refl refl ∙ goes (n + 1) content DataLineFeed line_start 10 rest refl refl
    ∙ ap (λ (k : ℕ). read k content line_start rest) (omega arith)

pub read_chunk : (n : ℕ) (content : List ℕ) (chunk : Chunk) (rest : List ℕ) → IsChunk chunk → length content + length chunk.bytes ≤ most_body_bytes
    → read n content line_start (print_chunk chunk ++ rest) ≡ read (n + length (print_chunk chunk)) (content ++ chunk.bytes) line_start rest
read_chunk n content chunk rest is fits =
    let line = print_chunk_line chunk.line in
    let m : ℕ = length line in
    let size : length (print_chunk chunk) ≡ m + (length chunk.bytes + 2)
    = length-append line (chunk.bytes ++ 13 ∷ 10 ∷ []) ∙ ap (λ (k : ℕ). m + k) (length-append chunk.bytes (13 ∷ 10 ∷ [])) in
    let split : print_chunk chunk ++ rest ≡ line ++ (chunk.bytes ++ (13 ∷ 10 ∷ rest))
    = append_assoc line (chunk.bytes ++ 13 ∷ 10 ∷ []) rest ∙ ap (λ (x : List ℕ). line ++ x) (append_assoc chunk.bytes (13 ∷ 10 ∷ []) rest) in
    let after : after_data (length chunk.bytes) (length chunk.bytes) ≡ DataReturn = (let no : nat_lt (length chunk.bytes) (length chunk.bytes) ≡ false = same (length chunk.bytes) in rw no refl) in
    ap (read n content line_start) split
    ∙ read_line n content chunk.line (chunk.bytes ++ (13 ∷ 10 ∷ rest)) is.line is.short
    ∙ ap (λ (k : ℕ). resume (n + m) (sized (length content) (capped k)) content (chunk.bytes ++ (13 ∷ 10 ∷ rest))) is.size
    ∙ ap (λ (s : Step). resume (n + m) s content (chunk.bytes ++ (13 ∷ 10 ∷ rest))) (sized_data (length content) (length chunk.bytes) is.some fits)
    ∙ read_data (n + m) content (length chunk.bytes) chunk.bytes (13 ∷ 10 ∷ rest) is.some (omega arith)
    ∙ ap (λ (p : Place). read (n + m + length chunk.bytes) (content ++ chunk.bytes) p (13 ∷ 10 ∷ rest)) after
    ∙ read_crlf (n + m + length chunk.bytes) (content ++ chunk.bytes) rest
    ∙ ap (λ (k : ℕ). read k (content ++ chunk.bytes) line_start rest) (omega (arith, size))
  where
    same : (n : ℕ) → nat_lt n n ≡ false
    same n = grind (arith, nat_tests)

long_chunk : (n : ℕ) (content : List ℕ) (chunk : Chunk) (rest : List ℕ) → IsChunk chunk → most_body_bytes < length content + length chunk.bytes
    → read n content line_start (print_chunk chunk ++ rest) ≡ broken TooLong (n + length (print_chunk_line chunk.line))
long_chunk n content chunk rest is long =
    let line = print_chunk_line chunk.line in
    let split : print_chunk chunk ++ rest ≡ line ++ (chunk.bytes ++ (13 ∷ 10 ∷ rest))
    = append_assoc line (chunk.bytes ++ 13 ∷ 10 ∷ []) rest ∙ ap (λ (x : List ℕ). line ++ x) (append_assoc chunk.bytes (13 ∷ 10 ∷ []) rest) in
    ap (read n content line_start) split
    ∙ read_line n content chunk.line (chunk.bytes ++ (13 ∷ 10 ∷ rest)) is.line is.short
    ∙ ap (λ (k : ℕ). resume (n + length line) (sized (length content) (capped k)) content (chunk.bytes ++ (13 ∷ 10 ∷ rest))) is.size
    ∙ ap (λ (s : Step). resume (n + length line) s content (chunk.bytes ++ (13 ∷ 10 ∷ rest))) (sized_long (length content) (length chunk.bytes) is.some long)

-- ---- trailers

line_byte : (b : ℕ) → is_line_byte b ≡ true → (eqb b 13 ≡ false) × (eqb b 10 ≡ false)
line_byte b h = (grind (arith, nat_tests), grind (arith, nat_tests))

and_left : (a b : Bool) → IsTrue (a && b) → IsTrue a
and_left true b h = refl
and_left false b h = h

and_right : (a b : Bool) → IsTrue (a && b) → IsTrue b
and_right true b h = h
and_right false b h = absurd (cc)

step_trailer : (count taken b : ℕ) → is_line_byte b ≡ true → taken + 5 ≤ most_trailer_bytes → step count (Trailer taken) b ≡ Next (Trailer (taken + 1))
unfolding step in_trailer
step_trailer count taken b plain room =
    rw ((line_byte b plain).0, (line_byte b plain).1) (within_room most_trailer_bytes (taken + 5) (Trailer (taken + 1)) room)

step_trailers : (count taken b : ℕ) → is_line_byte b ≡ true → taken + 5 ≤ most_trailer_bytes → step count (Trailers taken) b ≡ Next (Trailer (taken + 1))
unfolding step in_trailer
step_trailers count taken b plain room =
    rw ((line_byte b plain).0, (line_byte b plain).1) (within_room most_trailer_bytes (taken + 5) (Trailer (taken + 1)) room)

step_trailer_return : (count taken : ℕ) → step count (Trailer taken) 13 ≡ Next (TrailerLineFeed (taken + 1))
unfolding step in_trailer
step_trailer_return count taken = refl

step_trailer_end : (count taken : ℕ) → step count (TrailerLineFeed taken) 10 ≡ Next (Trailers (taken + 1))
unfolding step
step_trailer_end count taken = refl

read_in_trailer : (n : ℕ) (content : List ℕ) (taken : ℕ) (line rest : List ℕ) → IsTrue (list_all is_line_byte line) → taken + length line + 4 ≤ most_trailer_bytes
    → read n content (Trailer taken) (line ++ 13 ∷ 10 ∷ rest) ≡ read (n + length line + 2) content (Trailers (taken + length line + 2)) rest
read_in_trailer n content taken [] rest all room =
    goes n content (Trailer taken) (TrailerLineFeed (taken + 1)) 13 (10 ∷ rest) (step_trailer_return (length content) taken) refl
    ∙ goes (n + 1) content (TrailerLineFeed (taken + 1)) (Trailers (taken + 1 + 1)) 10 rest (step_trailer_end (length content) (taken + 1)) refl
    ∙ ap (λ (k : ℕ). read k content (Trailers (taken + 1 + 1)) rest) (omega arith)
    ∙ ap (λ (k : ℕ). read (n + 0 + 2) content (Trailers k) rest) (omega arith)
read_in_trailer n content taken (b ∷ line) rest all room =
    goes n content (Trailer taken) (Trailer (taken + 1)) b (line ++ 13 ∷ 10 ∷ rest)
    (step_trailer (length content) taken b (is_true (is_line_byte b) (and_left (is_line_byte b) (list_all is_line_byte line) all)) (omega arith)) refl
    ∙ read_in_trailer (n + 1) content (taken + 1) line rest (and_right (is_line_byte b) (list_all is_line_byte line) all) (omega arith)
    ∙ ap (λ (k : ℕ). read k content (Trailers (taken + 1 + length line + 2)) rest) (omega arith)
    ∙ ap (λ (k : ℕ). read (n + length (b ∷ line) + 2) content (Trailers k) rest) (omega arith)

read_trailer : (n : ℕ) (content : List ℕ) (taken : ℕ) (line rest : List ℕ) → 0 < length line → IsTrue (list_all is_line_byte line) → taken + length line + 4 ≤ most_trailer_bytes
    → read n content (Trailers taken) (line ++ 13 ∷ 10 ∷ rest) ≡ read (n + length line + 2) content (Trailers (taken + length line + 2)) rest
read_trailer n content taken [] rest some all room = absurd (omega arith)
read_trailer n content taken (b ∷ line) rest some all room =
    goes n content (Trailers taken) (Trailer (taken + 1)) b (line ++ 13 ∷ 10 ∷ rest)
    (step_trailers (length content) taken b (is_true (is_line_byte b) (and_left (is_line_byte b) (list_all is_line_byte line) all)) (omega arith)) refl
    ∙ read_in_trailer (n + 1) content (taken + 1) line rest (and_right (is_line_byte b) (list_all is_line_byte line) all) (omega arith)
    ∙ ap (λ (k : ℕ). read k content (Trailers (taken + 1 + length line + 2)) rest) (omega arith)
    ∙ ap (λ (k : ℕ). read (n + length (b ∷ line) + 2) content (Trailers k) rest) (omega arith)

read_end : (n : ℕ) (content : List ℕ) (taken : ℕ) (rest : List ℕ) → read n content (Trailers taken) (13 ∷ 10 ∷ rest) ≡ whole content (n + 2)
unfolding step in_trailer
read_end n content taken rest =
    goes n content (Trailers taken) LastLineFeed 13 (10 ∷ rest) refl refl ∙ read_byte (n + 1) content LastLineFeed 10 rest
    ∙ ap (λ (k : ℕ). whole content k) (omega arith)

read_trailers : (n : ℕ) (content : List ℕ) (taken : ℕ) (lines : List (List ℕ)) (rest : List ℕ) → All IsTrailer lines
    → taken + length (print_trailers lines) ≤ most_trailer_bytes
    → read n content (Trailers taken) (print_trailers lines ++ rest) ≡ whole content (n + length (print_trailers lines))
read_trailers n content taken [] rest all room = read_end n content taken rest
read_trailers n content taken (line ∷ lines) rest all room =
    let is : IsTrailer line = All-head IsTrailer line lines all in
    let tail = print_trailers lines in
    let split : print_trailers (line ∷ lines) ++ rest ≡ line ++ 13 ∷ 10 ∷ (tail ++ rest)
    = ap (λ (x : List ℕ). x ++ rest) (append_assoc (line ++ 13 ∷ 10 ∷ []) (flat_map print_trailer lines) (13 ∷ 10 ∷ []) ∙ append_assoc line (13 ∷ 10 ∷ []) tail)
    ∙ append_assoc line (13 ∷ 10 ∷ tail) rest in
    let size : length (print_trailers (line ∷ lines)) ≡ length line + (2 + length tail)
    = ap length (append_assoc (line ++ 13 ∷ 10 ∷ []) (flat_map print_trailer lines) (13 ∷ 10 ∷ []) ∙ append_assoc line (13 ∷ 10 ∷ []) tail)
    ∙ length-append line (13 ∷ 10 ∷ tail) ∙ ap (λ (k : ℕ). length line + k) (omega arith) in
    let least : 2 ≤ length tail = (let end = length-append (flat_map print_trailer lines) (13 ∷ 10 ∷ []) in omega arith) in
    ap (read n content (Trailers taken)) split
    ∙ read_trailer n content taken line (tail ++ rest) is.some is.plain (omega arith)
    ∙ read_trailers (n + length line + 2) content (taken + length line + 2) lines rest (All-tail IsTrailer line lines all) (omega arith)
    ∙ ap (λ (k : ℕ). whole content k) (omega arith)

-- ---- a body

-- the last chunk and the trailers
read_last : (n : ℕ) (content : List ℕ) (line : ChunkLine) (lines : List (List ℕ)) (rest : List ℕ) → IsChunkLine line
    → length (print_chunk_line line) ≤ most_chunk_line_bytes → chunk_size line ≡ 0 → All IsTrailer lines → length (print_trailers lines) ≤ most_trailer_bytes
    → read n content line_start ((print_chunk_line line ++ print_trailers lines) ++ rest) ≡ whole content (n + length (print_chunk_line line ++ print_trailers lines))
read_last n content line lines rest is short none all room =
    ap (read n content line_start) (append_assoc (print_chunk_line line) (print_trailers lines) rest)
    ∙ read_line n content line (print_trailers lines ++ rest) is short
    ∙ ap (λ (k : ℕ). resume (n + length (print_chunk_line line)) (sized (length content) (capped k)) content (print_trailers lines ++ rest)) none
    ∙ read_trailers (n + length (print_chunk_line line)) content 0 lines rest all (omega arith)
    ∙ ap (λ (k : ℕ). whole content k) (omega (arith, length-append (print_chunk_line line) (print_trailers lines)))

-- what a body reads as: its content, or too long where that is over the limit
abbrev IsReadAs : ℕ → List ℕ → List ℕ → ℕ → BodyReading → Type 0
IsReadAs n content bytes size r =
    (length content + length bytes ≤ most_body_bytes → r ≡ whole (content ++ bytes) (n + size))
    × (most_body_bytes < length content + length bytes → (k : ℕ) × (r ≡ broken TooLong k))

by_le : (P : Type 0) (n m : ℕ) → (n ≤ m → P) → (m < n → P) → P
by_le P n m below above = elim (nat_le n m) as (λ v. nat_le n m ≡ v → P) [
  | true ↦ λ e. below (grind (arith, nat_tests))
  | false ↦ λ e. above (grind (arith, nat_tests))
] refl

read_chunks_of : (n : ℕ) (content : List ℕ) (chunks : List Chunk) (tail rest : List ℕ) → All IsChunk chunks
    → length content ≤ most_body_bytes
    → ((m : ℕ) (c : List ℕ) → read m c line_start (tail ++ rest) ≡ whole c (m + length tail))
    → IsReadAs n content (content_of chunks) (length (flat_map print_chunk chunks ++ tail)) (read n content line_start ((flat_map print_chunk chunks ++ tail) ++ rest))
read_chunks_of n content [] tail rest all few last =
    (λ fits. last n content ∙ ap (λ (c : List ℕ). whole c (n + length tail)) (sym (append-nil content)), λ long. absurd (omega arith))
read_chunks_of n content (chunk ∷ chunks) tail rest all few last =
    by_le _ (length content + length chunk.bytes) most_body_bytes
    (λ fits.
    let m : ℕ = n + length (print_chunk chunk) in
    let more = read_chunks_of m (content ++ chunk.bytes) chunks tail rest (All-tail IsChunk chunk chunks all) (omega (arith, length-append content chunk.bytes)) last in
    let begins = ap (read n content line_start) split ∙ read_chunk n content chunk behind (All-head IsChunk chunk chunks all) fits in (
      λ all_fit. begins ∙ more.0 (omega (arith, lengths, length-append content chunk.bytes))
          ∙ ap (λ (c : List ℕ). whole c (m + length (flat_map print_chunk chunks ++ tail))) (append_assoc content chunk.bytes (content_of chunks))
          ∙ ap (λ (k : ℕ). whole (content ++ (chunk.bytes ++ content_of chunks)) k) (omega (arith, size)),
      λ long. (let far = more.1 (omega (arith, lengths, length-append content chunk.bytes)) in (far.0, begins ∙ far.1)),
    ))
    (λ long. (
      λ all_fit. absurd (omega (arith, lengths)),
      λ over. (_, ap (read n content line_start) split ∙ long_chunk n content chunk behind (All-head IsChunk chunk chunks all) long),
    ))
  where
    behind : List ℕ
    behind = (flat_map print_chunk chunks ++ tail) ++ rest

    split : (flat_map print_chunk (chunk ∷ chunks) ++ tail) ++ rest ≡ print_chunk chunk ++ ((flat_map print_chunk chunks ++ tail) ++ rest)
    split = ap (λ (x : List ℕ). x ++ rest) (append_assoc (print_chunk chunk) (flat_map print_chunk chunks) tail) ∙ append_assoc (print_chunk chunk) (flat_map print_chunk chunks ++ tail) rest

    size : length (flat_map print_chunk (chunk ∷ chunks) ++ tail) ≡ length (print_chunk chunk) + length (flat_map print_chunk chunks ++ tail)
    size = ap length (append_assoc (print_chunk chunk) (flat_map print_chunk chunks) tail) ∙ length-append (print_chunk chunk) (flat_map print_chunk chunks ++ tail)

    lengths : length (chunk.bytes ++ content_of chunks) ≡ length chunk.bytes + length (content_of chunks)
    lengths = length-append chunk.bytes (content_of chunks)

-- a text of the grammar, whatever follows it
body_reads : (body : ChunkedBody) (rest : List ℕ) → IsChunkedBody body
    → IsReadAs 0 [] (content_of body.chunks) (length (print_body body)) (chunked_of (print_body body ++ rest))
body_reads body rest is = read_chunks_of 0 [] body.chunks (print_chunk_line body.last ++ print_trailers body.trailers) rest is.chunks (lit≤ tt)
    (λ m c. read_last m c body.last body.trailers rest is.last is.last_short is.last_size is.trailers is.trailers_short)

pub body_is_read : (body : ChunkedBody) (rest : List ℕ) → IsChunkedBody body → length (content_of body.chunks) ≤ most_body_bytes
    → chunked_of (print_body body ++ rest) ≡ whole (content_of body.chunks) (length (print_body body))
body_is_read body rest is fits = (body_reads body rest is).0 (omega arith) ∙ ap (λ (k : ℕ). whole (content_of body.chunks) k) (omega arith)

pub long_body_is_read : (body : ChunkedBody) (rest : List ℕ) → IsChunkedBody body → most_body_bytes < length (content_of body.chunks)
    → (k : ℕ) × (chunked_of (print_body body ++ rest) ≡ broken TooLong k)
long_body_is_read body rest is long = (body_reads body rest is).1 (omega arith)

-- bytes that are refused begin no body
pub refused_begins_none : (s : List ℕ) (n : ℕ) → chunked_of s ≡ broken BadChunk n → IsBeginning s → ⊥
refused_begins_none s n e (body, more, is, same) =
    let longer : chunked_of (print_body body ++ []) ≡ broken BadChunk n
    = ap chunked_of (append-nil (print_body body) ∙ same) ∙ read-append 0 [] line_start s more ∙ ap (λ (r : BodyReading). then_read (0 + length s) r more) e in
    by_le ⊥ (length (content_of body.chunks)) most_body_bytes
    (λ fits. let no : whole (content_of body.chunks) (length (print_body body)) ≡ broken BadChunk n = sym (body_is_read body [] is fits) ∙ longer in absurd (cc))
    (λ long. let far = long_body_is_read body [] is long in let no : broken TooLong far.0 ≡ broken BadChunk n = sym far.1 ∙ longer in absurd (cc))
