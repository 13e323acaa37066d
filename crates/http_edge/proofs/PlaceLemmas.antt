-- What is read as a chunked body is one of the grammar.
use Rattle.std.proofs.Common.{◌≡◌, cond, ℕ, zero, suc, ◌+◌, ◌-◌, ◌*◌, ◌<◌, ◌≤◌, Bool, true, false, ◌&&◌, List, [], ◌∷◌, ◌++◌, length, min, Some, None, refl, sym, subst, ap, ◌∙◌, arith, append_assoc, append-nil, length-append, lit<, lit≤}
use Rattle.std.specs.Prelude.{nat_le, nat_lt, IsTrue}
use Rattle.std.specs.List.{All, flat_map}
use Rattle.std.specs.Char.{digit_value, is_digit, is_ascii_hexdigit}
use Rattle.std.specs.Str.Parse.{digits_value}
use Rattle.std.proofs.Math.Dec.{eqb}
use Rattle.std.proofs.lemmas.Bool.Decides.{nat_tests, Decides-eqb}
use Rattle.std.proofs.lemmas.Int.Digits.{digits_value_push}
use Rattle.std.proofs.lemmas.List.Elements.{All-nil, All-cons, All-append}
use Rattle.std.proofs.lemmas.List.Folds.{list_all-append}
use Rattle.httparse.specs.Grammar.{ChunkLine, IsChunkLine, print_chunk_line, chunk_size, is_ows, is_extension_byte, AllPass}
use Rattle.http_edge.specs.Judge.{most_body_bytes}
use Rattle.http_edge.specs.Plain.{is_line_byte}
use Rattle.http_edge.specs.Chunks.{most_chunk_line_bytes, most_trailer_bytes, Chunk, print_chunk, IsChunk, print_trailer, IsTrailer, ChunkedBody, print_trailers, print_body, IsChunkedBody, content_of, IsBeginning, StandsIn}
use Rattle.http_edge.specs.Places.{size_with_digit, place_within, must_be, after_size, in_size, in_extension, sized, in_trailer, after_data, step, with_byte, BodyReading, going, whole, broken, read, resume, line_start, chunked_of}
use Rattle.http_edge.specs.declared.item.FramingFault.TheVariants.{BadChunk}
use Rattle.http_edge.specs.declared.place.Place.{Place}
use Rattle.http_edge.specs.declared.place.Place.TheVariants.{Size, AfterSize, Extension, LineFeed, Data, DataReturn, DataLineFeed, Trailers, Trailer, TrailerLineFeed, LastLineFeed}
use Rattle.http_edge.specs.declared.place.Step.{Step}
use Rattle.http_edge.specs.declared.place.Step.TheVariants.{Next, Ended, Broken}
use Rattle.http_edge.proofs.ReadingLemmas.{read_byte, read_none}
use Rattle.http_edge.proofs.ChunkLemmas.{capped}

-- where a step goes on, and where it ends
abbrev pub OnStep : (Place → Type 0) → Type 0 → Step → Type 0
OnStep P Q (Next place) = P place
OnStep P Q Ended = Q
OnStep P Q (Broken fault) = Unit {0}

on_cond : (P : Place → Type 0) (Q : Type 0) (t : Bool) (x y : Step) → (t ≡ true → OnStep P Q x) → (t ≡ false → OnStep P Q y) → OnStep P Q (cond t x y)
on_cond P Q true x y h k = h refl
on_cond P Q false x y h k = k refl

on_within : (P : Place → Type 0) (Q : Type 0) (most needed : ℕ) (place : Place) → (needed ≤ most → P place) → OnStep P Q (place_within most needed place)
on_within P Q most needed place h = on_cond P Q (nat_le needed most) (Next place) (Broken BadChunk) (λ e. h (grind (arith, nat_tests))) (λ e. tt)

on_must : (P : Place → Type 0) (Q : Type 0) (wanted b : ℕ) (s : Step) → (b ≡ wanted → OnStep P Q s) → OnStep P Q (must_be wanted b s)
on_must P Q wanted b s h = on_cond P Q (eqb b wanted) s (Broken BadChunk) (λ e. h ((Decides-eqb b wanted).0 e)) (λ e. tt)

snoc_all : (p : ℕ → Bool) (s : List ℕ) (b : ℕ) → AllPass p s → IsTrue (p b) → AllPass p (s ++ b ∷ [])
snoc_all p s b all h = All-append (λ x. IsTrue (p x)) s (b ∷ []) all (All-cons (λ x. IsTrue (p x)) b [] h (All-nil (λ x. IsTrue (p x))))

-- ---- what stands of a chunk, of the last one, or of the trailers

-- digits that write a size
pub record Sized (d : List ℕ) (size : ℕ) : Type 0 where
  some : 0 < length d
  few : length d ≤ 16
  digits : AllPass is_ascii_hexdigit d
  size_is : size ≡ capped (digits_value 16 d)

pub record AtSize (done content part : List ℕ) (size digits : ℕ) : Type 0 where
  content_is : content ≡ done
  count : length part ≡ digits
  few : digits ≤ 16
  digits_are : AllPass is_ascii_hexdigit part
  size_is : size ≡ capped (digits_value 16 part)

pub record AtAfter (done content part : List ℕ) (size taken : ℕ) : Type 0 where
  content_is : content ≡ done
  d : List ℕ
  p : List ℕ
  sized_by : Sized d size
  pad : AllPass is_ows p
  part_is : part ≡ d ++ p
  count : length part ≡ taken
  room : taken + 2 ≤ most_chunk_line_bytes

pub record AtExtension (done content part : List ℕ) (size taken : ℕ) : Type 0 where
  content_is : content ≡ done
  d : List ℕ
  p : List ℕ
  x : List ℕ
  sized_by : Sized d size
  pad : AllPass is_ows p
  text : AllPass is_extension_byte x
  part_is : part ≡ (d ++ p) ++ 59 ∷ x
  count : length part ≡ taken
  room : taken + 2 ≤ most_chunk_line_bytes

pub record AtLineFeed (done content part : List ℕ) (size : ℕ) : Type 0 where
  pub content_is : content ≡ done
  pub line : ChunkLine
  pub is : IsChunkLine line
  pub size_is : size ≡ capped (chunk_size line)
  pub part_is : part ++ 10 ∷ [] ≡ print_chunk_line line
  pub room : length (print_chunk_line line) ≤ most_chunk_line_bytes

pub record InChunk (done content part : List ℕ) (missing : ℕ) (behind : List ℕ) : Type 0 where
  line : ChunkLine
  d : List ℕ
  is : IsChunkLine line
  room : length (print_chunk_line line) ≤ most_chunk_line_bytes
  part_is : part ≡ (print_chunk_line line ++ d) ++ behind
  content_is : content ≡ done ++ d
  count : length d + missing ≡ chunk_size line
  some : 0 < chunk_size line

pub record InTrailers (done content part : List ℕ) (lines : List (List ℕ)) (behind : List ℕ) : Type 0 where
  content_is : content ≡ done
  line : ChunkLine
  is : IsChunkLine line
  room : length (print_chunk_line line) ≤ most_chunk_line_bytes
  none : chunk_size line ≡ 0
  all : All IsTrailer lines
  part_is : part ≡ print_chunk_line line ++ (flat_map print_trailer lines ++ behind)

-- what stands after the chunks before
abbrev pub PartAt : List ℕ → List ℕ → List ℕ → Place → Type 0
PartAt done content part (Size size digits) = AtSize done content part size digits
PartAt done content part (AfterSize size taken) = AtAfter done content part size taken
PartAt done content part (Extension size taken) = AtExtension done content part size taken
PartAt done content part (LineFeed size) = AtLineFeed done content part size
PartAt done content part (Data missing) = InChunk done content part missing [] × (0 < missing)
PartAt done content part DataReturn = InChunk done content part 0 []
PartAt done content part DataLineFeed = InChunk done content part 0 (13 ∷ [])
PartAt done content part (Trailers taken) =
    (lines : List (List ℕ)) × InTrailers done content part lines [] × (length (flat_map print_trailer lines) ≡ taken) × (taken + 2 ≤ most_trailer_bytes)
PartAt done content part (Trailer taken) =
    (lines : List (List ℕ)) × (t : List ℕ) × InTrailers done content part lines t × IsTrailer t
    × (length (flat_map print_trailer lines) + length t ≡ taken) × (taken + 4 ≤ most_trailer_bytes)
PartAt done content part (TrailerLineFeed taken) =
    (lines : List (List ℕ)) × (t : List ℕ) × InTrailers done content part lines (t ++ 13 ∷ []) × IsTrailer t
    × (length (flat_map print_trailer lines) + length t + 1 ≡ taken) × (taken + 3 ≤ most_trailer_bytes)
PartAt done content part LastLineFeed =
    (lines : List (List ℕ)) × InTrailers done content part lines (13 ∷ []) × (length (flat_map print_trailer lines) + 2 ≤ most_trailer_bytes)

pub record Begun (text content : List ℕ) (place : Place) : Type 0 where
  pub chunks : List Chunk
  pub all : All IsChunk chunks
  pub part : List ℕ
  pub text_is : text ≡ flat_map print_chunk chunks ++ part
  pub at : PartAt (content_of chunks) content part place

-- a body of the grammar that stands in the text, with this content
pub record Found (text content : List ℕ) : Type 0 where
  body : ChunkedBody
  is : IsChunkedBody body
  text_is : print_body body ≡ text
  content_is : content_of body.chunks ≡ content

-- the same chunks, and a part that is a byte longer
longer : (text content : List ℕ) (place next : Place) (more : List ℕ) (b : ℕ) (h : Begun text content place)
    → PartAt (content_of h.chunks) more (h.part ++ b ∷ []) next → Begun (text ++ b ∷ []) more next
longer text content place next more b h at = record {
  chunks = h.chunks;
  all = h.all;
  part = h.part ++ b ∷ [];
  text_is = ap (λ (x : List ℕ). x ++ b ∷ []) h.text_is ∙ append_assoc (flat_map print_chunk h.chunks) h.part (b ∷ []);
  at = at;
}

-- ---- bytes of a chunk line

hex_of : (b : ℕ) → is_digit b 16 ≡ true → is_ascii_hexdigit b ≡ true
hex_of b h = grind (arith, nat_tests)

capped_push : (v b : ℕ) → size_with_digit (capped v) b ≡ capped (v * 16 + digit_value b)
capped_push v b = go v (digit_value b)
  where
    go : (n d : ℕ) → min (min n (most_body_bytes + 1) * 16 + d) (most_body_bytes + 1) ≡ min (n * 16 + d) (most_body_bytes + 1)
    go n d = omega arith

plain_of : (b : ℕ) → eqb b 13 ≡ false → eqb b 10 ≡ false → is_extension_byte b ≡ true
plain_of b h k = rw (h, k) refl

line_of : (b : ℕ) → eqb b 13 ≡ false → eqb b 10 ≡ false → is_line_byte b ≡ true
line_of b h k = rw (h, k) refl

-- a line without an extension, and one with
no_extension : (done content part : List ℕ) (size taken : ℕ) → AtAfter done content part size taken → AtLineFeed done content (part ++ 13 ∷ []) size
unfolding print_chunk_line
no_extension done content part size taken h = record {
  content_is = h.content_is;
  line = record { digits = h.d; pad = h.p; extension = None };
  is = record { digits = (h.sized_by.some, h.sized_by.few, h.sized_by.digits); pad = h.pad; extension = tt };
  size_is = h.sized_by.size_is;
  part_is = append_assoc part (13 ∷ []) (10 ∷ []) ∙ ap (λ (x : List ℕ). x ++ 13 ∷ 10 ∷ []) (h.part_is ∙ sym (append-nil (h.d ++ h.p)));
  room = (let e = ap length h.part_is in let two = length-append (h.d ++ h.p ++ []) (13 ∷ 10 ∷ []) in let one = length-append (h.d ++ h.p) [] in
      let count = h.count in let fits = h.room in omega arith);
}

with_extension : (done content part : List ℕ) (size taken : ℕ) → AtExtension done content part size taken → AtLineFeed done content (part ++ 13 ∷ []) size
unfolding print_chunk_line
with_extension done content part size taken h = record {
  content_is = h.content_is;
  line = record { digits = h.d; pad = h.p; extension = Some h.x };
  is = record { digits = (h.sized_by.some, h.sized_by.few, h.sized_by.digits); pad = h.pad; extension = h.text };
  size_is = h.sized_by.size_is;
  part_is = append_assoc part (13 ∷ []) (10 ∷ []) ∙ ap (λ (x : List ℕ). x ++ 13 ∷ 10 ∷ []) h.part_is;
  room = (let e = ap length h.part_is in let two = length-append ((h.d ++ h.p) ++ 59 ∷ h.x) (13 ∷ 10 ∷ []) in
      let count = h.count in let fits = h.room in omega arith);
}

after_begun : (text content part : List ℕ) (place : Place) (size taken b : ℕ) (h : Begun text content place)
    → AtAfter (content_of h.chunks) content h.part size taken
    → OnStep (λ next. Begun (text ++ b ∷ []) content next) (Found (text ++ b ∷ []) content) (after_size size taken b)
unfolding after_size
after_begun text content part place size taken b h at =
    let P : Place → Type 0 = λ next. Begun (text ++ b ∷ []) content next in
    let Q : Type 0 = Found (text ++ b ∷ []) content in
    on_cond P Q (eqb b 13) _ _
    (λ e. longer text content place (LineFeed size) content b h
    (subst (λ (x : ℕ). AtLineFeed (content_of h.chunks) content (h.part ++ x ∷ []) size) (sym ((Decides-eqb b 13).0 e)) (no_extension (content_of h.chunks) content h.part size taken at)))
    (λ no_cr. on_cond P Q (is_ows b) _ _
    (λ e. on_within P Q most_chunk_line_bytes (taken + 3) (AfterSize size (taken + 1)) (λ fits. longer text content place (AfterSize size (taken + 1)) content b h (record {
      content_is = at.content_is;
      d = at.d;
      p = at.p ++ b ∷ [];
      sized_by = at.sized_by;
      pad = snoc_all is_ows at.p b at.pad e;
      part_is = ap (λ (x : List ℕ). x ++ b ∷ []) at.part_is ∙ append_assoc at.d at.p (b ∷ []);
      count = length-append h.part (b ∷ []) ∙ ap (λ (n : ℕ). n + 1) at.count;
      room = omega arith;
    })))
    (λ no_ows. on_cond P Q (eqb b 59) _ _
    (λ e. on_within P Q most_chunk_line_bytes (taken + 3) (Extension size (taken + 1)) (λ fits. longer text content place (Extension size (taken + 1)) content b h (record {
      content_is = at.content_is;
      d = at.d;
      p = at.p;
      x = [];
      sized_by = at.sized_by;
      pad = at.pad;
      text = All-nil (λ y. IsTrue (is_extension_byte y));
      part_is = ap (λ (x : List ℕ). x ++ b ∷ []) at.part_is ∙ ap (λ (y : ℕ). (at.d ++ at.p) ++ y ∷ []) ((Decides-eqb b 59).0 e);
      count = length-append h.part (b ∷ []) ∙ ap (λ (n : ℕ). n + 1) at.count;
      room = omega arith;
    })))
    (λ no. tt)))

size_begun : (text content : List ℕ) (size digits b : ℕ) → Begun text content (Size size digits)
    → OnStep (λ next. Begun (text ++ b ∷ []) content next) (Found (text ++ b ∷ []) content) (in_size size digits b)
unfolding in_size
size_begun text content size digits b h =
    let P : Place → Type 0 = λ next. Begun (text ++ b ∷ []) content next in
    let Q : Type 0 = Found (text ++ b ∷ []) content in
    on_cond P Q (is_digit b 16 && nat_lt digits 16) _ _
    (λ e. longer text content (Size size digits) (Size (size_with_digit size b) (digits + 1)) content b h (record {
      content_is = h.at.content_is;
      count = length-append h.part (b ∷ []) ∙ ap (λ (n : ℕ). n + 1) h.at.count;
      few = small digits (and_right (is_digit b 16) (nat_lt digits 16) e);
      digits_are = snoc_all is_ascii_hexdigit h.part b h.at.digits_are (hex_of b (and_left (is_digit b 16) (nat_lt digits 16) e));
      size_is = ap (λ (n : ℕ). size_with_digit n b) h.at.size_is ∙ capped_push (digits_value 16 h.part) b ∙ ap capped (sym (digits_value_push 16 h.part b));
    }))
    (λ e. on_cond P Q (eqb digits 0) _ _ (λ none. tt) (λ some. after_begun text content h.part (Size size digits) size digits b h (record {
      content_is = h.at.content_is;
      d = h.part;
      p = [];
      sized_by = record { some = (let count = h.at.count in let more = positive digits some in omega arith); few = (let count = h.at.count in let few = h.at.few in omega arith); digits = h.at.digits_are; size_is = h.at.size_is };
      pad = All-nil (λ y. IsTrue (is_ows y));
      part_is = sym (append-nil h.part);
      count = h.at.count;
      room = (let few = h.at.few in omega arith);
    })))
  where
    small : (n : ℕ) → nat_lt n 16 ≡ true → n + 1 ≤ 16
    small n e = grind (arith, nat_tests)

    positive : (n : ℕ) → eqb n 0 ≡ false → 0 < n
    positive n e = grind (arith, nat_tests)

    and_left : (x y : Bool) → (x && y) ≡ true → x ≡ true
    and_left true y e = refl
    and_left false y e = e

    and_right : (x y : Bool) → (x && y) ≡ true → y ≡ true
    and_right true y e = e
    and_right false y e = absurd (cc)

extension_begun : (text content : List ℕ) (size taken b : ℕ) → Begun text content (Extension size taken)
    → OnStep (λ next. Begun (text ++ b ∷ []) content next) (Found (text ++ b ∷ []) content) (in_extension size taken b)
unfolding in_extension
extension_begun text content size taken b h =
    let P : Place → Type 0 = λ next. Begun (text ++ b ∷ []) content next in
    let Q : Type 0 = Found (text ++ b ∷ []) content in
    on_cond P Q (eqb b 13) _ _
    (λ e. longer text content (Extension size taken) (LineFeed size) content b h
    (subst (λ (x : ℕ). AtLineFeed (content_of h.chunks) content (h.part ++ x ∷ []) size) (sym ((Decides-eqb b 13).0 e)) (with_extension (content_of h.chunks) content h.part size taken h.at)))
    (λ no_cr. on_cond P Q (eqb b 10) _ _ (λ e. tt)
    (λ no_lf. on_within P Q most_chunk_line_bytes (taken + 3) (Extension size (taken + 1)) (λ fits. longer text content (Extension size taken) (Extension size (taken + 1)) content b h (record {
      content_is = h.at.content_is;
      d = h.at.d;
      p = h.at.p;
      x = h.at.x ++ b ∷ [];
      sized_by = h.at.sized_by;
      pad = h.at.pad;
      text = snoc_all is_extension_byte h.at.x b h.at.text (plain_of b no_cr no_lf);
      part_is = ap (λ (y : List ℕ). y ++ b ∷ []) h.at.part_is ∙ append_assoc (h.at.d ++ h.at.p) (59 ∷ h.at.x) (b ∷ []);
      count = length-append h.part (b ∷ []) ∙ ap (λ (n : ℕ). n + 1) h.at.count;
      room = omega arith;
    }))))

-- a size that is capped is 0 where the size is, and is the size where it isn't too long
capped_zero : (n : ℕ) → capped n ≡ 0 → n ≡ 0
capped_zero n e = omega arith

capped_same : (n : ℕ) → capped n ≤ most_body_bytes → n ≡ capped n
capped_same n e = omega arith

feed_begun : (text content : List ℕ) (count size b : ℕ) → Begun text content (LineFeed size)
    → OnStep (λ next. Begun (text ++ b ∷ []) content next) (Found (text ++ b ∷ []) content) (must_be 10 b (sized count size))
feed_begun text content count size b h =
    let P : Place → Type 0 = λ next. Begun (text ++ b ∷ []) content next in
    let Q : Type 0 = Found (text ++ b ∷ []) content in
    on_must P Q 10 b (sized count size) (λ is. (
    let line_is : h.part ++ b ∷ [] ≡ print_chunk_line h.at.line = ap (λ (x : ℕ). h.part ++ x ∷ []) is ∙ h.at.part_is in
    on_cond P Q (eqb size 0) _ _
    (λ e. longer text content (LineFeed size) (Trailers 0) content b h (
      [],
      record {
        content_is = h.at.content_is;
        line = h.at.line;
        is = h.at.is;
        room = h.at.room;
        none = capped_zero (chunk_size h.at.line) (sym h.at.size_is ∙ (Decides-eqb size 0).0 e);
        all = All-nil IsTrailer;
        part_is = line_is ∙ sym (append-nil (print_chunk_line h.at.line));
      },
      refl,
      lit≤ tt,
    ))
    (λ some. on_cond P Q (nat_le (count + size) most_body_bytes) _ _
    (λ e. (
    let fits = below (count + size) e in
    let same : chunk_size h.at.line ≡ size = (let s = h.at.size_is in capped_same (chunk_size h.at.line) (omega arith) ∙ sym s) in
    longer text content (LineFeed size) (Data size) content b h (
      record {
        line = h.at.line;
        d = [];
        is = h.at.is;
        room = h.at.room;
        part_is = line_is ∙ sym (append-nil (print_chunk_line h.at.line)) ∙ sym (append-nil (print_chunk_line h.at.line ++ []));
        content_is = h.at.content_is ∙ sym (append-nil (content_of h.chunks));
        count = omega arith;
        some = (let more = positive size some in omega arith);
      },
      positive size some,
    )))
    (λ e. tt))))
  where
    positive : (n : ℕ) → eqb n 0 ≡ false → 0 < n
    positive n e = grind (arith, nat_tests)

    below : (n : ℕ) → nat_le n most_body_bytes ≡ true → n ≤ most_body_bytes
    below n e = grind (arith, nat_tests)

-- ---- bytes of a chunk, and what follows them

data_begun : (text content : List ℕ) (missing b : ℕ) → Begun text content (Data missing) → Begun (text ++ b ∷ []) (content ++ b ∷ []) (after_data missing 1)
data_begun text content missing b h = go (nat_lt 1 missing) refl
  where
    line : List ℕ
    line = print_chunk_line h.at.0.line

    next : (m : ℕ) → missing ≡ 1 + m → InChunk (content_of h.chunks) (content ++ b ∷ []) (h.part ++ b ∷ []) m []
    next m is = record {
      line = h.at.0.line;
      d = h.at.0.d ++ b ∷ [];
      is = h.at.0.is;
      room = h.at.0.room;
      part_is = ap (λ (x : List ℕ). x ++ b ∷ []) (h.at.0.part_is ∙ append-nil (line ++ h.at.0.d)) ∙ append_assoc line h.at.0.d (b ∷ []) ∙ sym (append-nil (line ++ (h.at.0.d ++ b ∷ [])));
      content_is = ap (λ (x : List ℕ). x ++ b ∷ []) h.at.0.content_is ∙ append_assoc (content_of h.chunks) h.at.0.d (b ∷ []);
      count = (let n = h.at.0.count in let l = length-append h.at.0.d (b ∷ []) in omega arith);
      some = h.at.0.some;
    }

    go : (t : Bool) → nat_lt 1 missing ≡ t → Begun (text ++ b ∷ []) (content ++ b ∷ []) (cond t (Data (missing - 1)) DataReturn)
    go true e = longer text content (Data missing) (Data (missing - 1)) (content ++ b ∷ []) b h
        (next (missing - 1) (let some = h.at.1 in omega arith), grind (arith, nat_tests))
    go false e = longer text content (Data missing) DataReturn (content ++ b ∷ []) b h
        (next 0 (let some = h.at.1 in grind (arith, nat_tests)))

flat_map_more : {A : Type 0} (f : A → List ℕ) (xs ys : List A) → flat_map f (xs ++ ys) ≡ flat_map f xs ++ flat_map f ys
flat_map_more f [] ys = refl
flat_map_more f (x ∷ xs) ys = ap (λ (l : List ℕ). f x ++ l) (flat_map_more f xs ys) ∙ sym (append_assoc (f x) (flat_map f xs) (flat_map f ys))

-- a whole chunk
chunk_begun : (text content : List ℕ) → Begun text content DataLineFeed → Begun (text ++ 10 ∷ []) content line_start
chunk_begun text content h =
    let chunk : Chunk = record { line = h.at.line; bytes = h.at.d } in
    let line = print_chunk_line h.at.line in
    let printed : h.part ++ 10 ∷ [] ≡ print_chunk chunk
    = ap (λ (x : List ℕ). x ++ 10 ∷ []) (h.at.part_is ∙ append_assoc line h.at.d (13 ∷ [])) ∙ append_assoc line (h.at.d ++ 13 ∷ []) (10 ∷ [])
    ∙ ap (λ (x : List ℕ). line ++ x) (append_assoc h.at.d (13 ∷ []) (10 ∷ [])) in
    let size : chunk_size h.at.line ≡ length h.at.d = (let n = h.at.count in omega arith) in
    record {
      chunks = h.chunks ++ chunk ∷ [];
      all = All-append IsChunk h.chunks (chunk ∷ []) h.all (All-cons IsChunk chunk [] (record { line = h.at.is; short = h.at.room; size = size; some = (let s = h.at.some in omega arith) }) (All-nil IsChunk));
      part = [];
      text_is = ap (λ (x : List ℕ). x ++ 10 ∷ []) h.text_is ∙ append_assoc (flat_map print_chunk h.chunks) h.part (10 ∷ [])
          ∙ ap (λ (x : List ℕ). flat_map print_chunk h.chunks ++ x) (printed ∙ sym (append-nil (print_chunk chunk)))
          ∙ sym (flat_map_more print_chunk h.chunks (chunk ∷ [])) ∙ sym (append-nil (flat_map print_chunk (h.chunks ++ chunk ∷ [])));
      at = record {
        content_is = h.at.content_is ∙ ap (λ (x : List ℕ). content_of h.chunks ++ x) (sym (append-nil h.at.d)) ∙ sym (flat_map_more (λ (c : Chunk). c.bytes) h.chunks (chunk ∷ []));
        count = refl;
        few = lit≤ tt;
        digits_are = All-nil (λ y. IsTrue (is_ascii_hexdigit y));
        size_is = refl;
      };
    }

-- ---- bytes of the trailers

-- more of what stands behind the whole trailer lines
behind_more : (done content part : List ℕ) (lines : List (List ℕ)) (behind more : List ℕ) (b : ℕ) → InTrailers done content part lines behind
    → behind ++ b ∷ [] ≡ more → InTrailers done content (part ++ b ∷ []) lines more
behind_more done content part lines behind more b h is = record {
  content_is = h.content_is;
  line = h.line;
  is = h.is;
  room = h.room;
  none = h.none;
  all = h.all;
  part_is = ap (λ (x : List ℕ). x ++ b ∷ []) h.part_is ∙ append_assoc (print_chunk_line h.line) (flat_map print_trailer lines ++ behind) (b ∷ [])
      ∙ ap (λ (x : List ℕ). print_chunk_line h.line ++ x) (append_assoc (flat_map print_trailer lines) behind (b ∷ []) ∙ ap (λ (x : List ℕ). flat_map print_trailer lines ++ x) is);
}

-- a whole trailer line
trailer_whole : (done content part : List ℕ) (lines : List (List ℕ)) (t : List ℕ) → InTrailers done content part lines ((t ++ 13 ∷ []) ++ 10 ∷ []) → IsTrailer t
    → InTrailers done content part (lines ++ t ∷ []) []
trailer_whole done content part lines t h is = record {
  content_is = h.content_is;
  line = h.line;
  is = h.is;
  room = h.room;
  none = h.none;
  all = All-append IsTrailer lines (t ∷ []) h.all (All-cons IsTrailer t [] is (All-nil IsTrailer));
  part_is = h.part_is ∙ ap (λ (x : List ℕ). print_chunk_line h.line ++ (flat_map print_trailer lines ++ x)) (append_assoc t (13 ∷ []) (10 ∷ []) ∙ sym (append-nil (t ++ 13 ∷ 10 ∷ [])))
      ∙ ap (λ (x : List ℕ). print_chunk_line h.line ++ x) (sym (flat_map_more print_trailer lines (t ∷ [])) ∙ sym (append-nil (flat_map print_trailer (lines ++ t ∷ []))));
}

trailer_length : (lines : List (List ℕ)) (t : List ℕ) → length (flat_map print_trailer (lines ++ t ∷ [])) ≡ length (flat_map print_trailer lines) + (length t + 2)
trailer_length lines t =
    ap length (flat_map_more print_trailer lines (t ∷ []) ∙ ap (λ (x : List ℕ). flat_map print_trailer lines ++ x) (append-nil (t ++ 13 ∷ 10 ∷ [])))
    ∙ length-append (flat_map print_trailer lines) (t ++ 13 ∷ 10 ∷ []) ∙ ap (λ (n : ℕ). length (flat_map print_trailer lines) + n) (length-append t (13 ∷ 10 ∷ []))

more_trailer : (t : List ℕ) (b : ℕ) → IsTrailer t → is_line_byte b ≡ true → IsTrailer (t ++ b ∷ [])
more_trailer t b h plain = record {
  some = omega (arith, length-append t (b ∷ []));
  plain = list_all-append is_line_byte t (b ∷ []) ∙ rw (h.plain, plain) refl;
}

one_trailer : (b : ℕ) → is_line_byte b ≡ true → IsTrailer (b ∷ [])
one_trailer b plain = record { some = omega arith; plain = rw plain refl }

trailers_begun : (text content : List ℕ) (taken b : ℕ) → Begun text content (Trailers taken)
    → OnStep (λ next. Begun (text ++ b ∷ []) content next) (Found (text ++ b ∷ []) content) (in_trailer LastLineFeed taken b)
unfolding in_trailer
trailers_begun text content taken b h =
    let P : Place → Type 0 = λ next. Begun (text ++ b ∷ []) content next in
    let Q : Type 0 = Found (text ++ b ∷ []) content in
    let lines = h.at.0 in
    on_cond P Q (eqb b 13) _ _
    (λ e. longer text content (Trailers taken) LastLineFeed content b h
    (lines, behind_more (content_of h.chunks) content h.part lines [] (13 ∷ []) b h.at.1 (ap (λ (x : ℕ). x ∷ []) ((Decides-eqb b 13).0 e)), (let n = h.at.2 in let m = h.at.3 in omega arith)))
    (λ no_cr. on_cond P Q (eqb b 10) _ _ (λ e. tt)
    (λ no_lf. on_within P Q most_trailer_bytes (taken + 5) (Trailer (taken + 1)) (λ fits. longer text content (Trailers taken) (Trailer (taken + 1)) content b h
    (lines, b ∷ [], behind_more (content_of h.chunks) content h.part lines [] (b ∷ []) b h.at.1 refl, one_trailer b (line_of b no_cr no_lf), ap (λ (n : ℕ). n + 1) h.at.2, omega arith))))

trailer_begun : (text content : List ℕ) (taken b : ℕ) → Begun text content (Trailer taken)
    → OnStep (λ next. Begun (text ++ b ∷ []) content next) (Found (text ++ b ∷ []) content) (in_trailer (TrailerLineFeed (taken + 1)) taken b)
unfolding in_trailer
trailer_begun text content taken b h =
    let P : Place → Type 0 = λ next. Begun (text ++ b ∷ []) content next in
    let Q : Type 0 = Found (text ++ b ∷ []) content in
    let lines = h.at.0 in
    let t = h.at.1 in
    on_cond P Q (eqb b 13) _ _
    (λ e. longer text content (Trailer taken) (TrailerLineFeed (taken + 1)) content b h (
      lines,
      t,
      behind_more (content_of h.chunks) content h.part lines t (t ++ 13 ∷ []) b h.at.2 (ap (λ (x : ℕ). t ++ x ∷ []) ((Decides-eqb b 13).0 e)),
      h.at.3,
      ap (λ (n : ℕ). n + 1) h.at.4,
      (let m = h.at.5 in omega arith),
    ))
    (λ no_cr. on_cond P Q (eqb b 10) _ _ (λ e. tt)
    (λ no_lf. on_within P Q most_trailer_bytes (taken + 5) (Trailer (taken + 1)) (λ fits. longer text content (Trailer taken) (Trailer (taken + 1)) content b h (
      lines,
      t ++ b ∷ [],
      behind_more (content_of h.chunks) content h.part lines t (t ++ b ∷ []) b h.at.2 refl,
      more_trailer t b h.at.3 (line_of b no_cr no_lf),
      (let n = h.at.4 in let l = length-append t (b ∷ []) in omega arith),
      omega arith,
    ))))

trailer_end_begun : (text content : List ℕ) (taken : ℕ) → Begun text content (TrailerLineFeed taken) → Begun (text ++ 10 ∷ []) content (Trailers (taken + 1))
trailer_end_begun text content taken h =
    let lines = h.at.0 in
    let t = h.at.1 in
    longer text content (TrailerLineFeed taken) (Trailers (taken + 1)) content 10 h (
      lines ++ t ∷ [],
      trailer_whole (content_of h.chunks) content (h.part ++ 10 ∷ []) lines t (behind_more (content_of h.chunks) content h.part lines (t ++ 13 ∷ []) ((t ++ 13 ∷ []) ++ 10 ∷ []) 10 h.at.2 refl) h.at.3,
      (let n = h.at.4 in let l = trailer_length lines t in omega arith),
      (let m = h.at.5 in omega arith),
    )

-- the last byte
body_found : (text content : List ℕ) → Begun text content LastLineFeed → Found (text ++ 10 ∷ []) content
body_found text content h =
    let lines = h.at.0 in
    let body : ChunkedBody = record { chunks = h.chunks; last = h.at.1.line; trailers = lines } in
    record {
      body = body;
      is = record {
        chunks = h.all;
        last = h.at.1.is;
        last_short = h.at.1.room;
        last_size = h.at.1.none;
        trailers = h.at.1.all;
        trailers_short = (let n = h.at.2 in let l = length-append (flat_map print_trailer lines) (13 ∷ 10 ∷ []) in omega arith);
      };
      text_is = sym (
          ap (λ (x : List ℕ). x ++ 10 ∷ []) h.text_is ∙ append_assoc (flat_map print_chunk h.chunks) h.part (10 ∷ [])
          ∙ ap (λ (x : List ℕ). flat_map print_chunk h.chunks ++ x)
          (ap (λ (x : List ℕ). x ++ 10 ∷ []) h.at.1.part_is ∙ append_assoc (print_chunk_line h.at.1.line) (flat_map print_trailer lines ++ 13 ∷ []) (10 ∷ [])
          ∙ ap (λ (x : List ℕ). print_chunk_line h.at.1.line ++ x) (append_assoc (flat_map print_trailer lines) (13 ∷ []) (10 ∷ [])))
          );
      content_is = sym h.at.1.content_is;
    }

-- ---- one byte, and all of them

pub step_begun : (text content : List ℕ) (place : Place) (b : ℕ) → Begun text content place
    → OnStep (λ next. Begun (text ++ b ∷ []) (with_byte place content b) next) (Found (text ++ b ∷ []) (with_byte place content b)) (step (length content) place b)
unfolding step
step_begun text content (Size size digits) b h = size_begun text content size digits b h
step_begun text content (AfterSize size taken) b h = after_begun text content h.part (AfterSize size taken) size taken b h h.at
step_begun text content (Extension size taken) b h = extension_begun text content size taken b h
step_begun text content (LineFeed size) b h = feed_begun text content (length content) size b h
step_begun text content (Data missing) b h = data_begun text content missing b h
step_begun text content DataReturn b h =
    on_must _ _ 13 b (Next DataLineFeed) (λ is. longer text content DataReturn DataLineFeed content b h
    (record {
      line = h.at.line;
      d = h.at.d;
      is = h.at.is;
      room = h.at.room;
      part_is = ap (λ (x : List ℕ). x ++ b ∷ []) (h.at.part_is ∙ append-nil (print_chunk_line h.at.line ++ h.at.d)) ∙ ap (λ (x : ℕ). (print_chunk_line h.at.line ++ h.at.d) ++ x ∷ []) is;
      content_is = h.at.content_is;
      count = h.at.count;
      some = h.at.some;
    }))
step_begun text content DataLineFeed b h =
    on_must _ _ 10 b (Next line_start) (λ is. subst (λ (x : ℕ). Begun (text ++ x ∷ []) content line_start) (sym is) (chunk_begun text content h))
step_begun text content (Trailers taken) b h = trailers_begun text content taken b h
step_begun text content (Trailer taken) b h = trailer_begun text content taken b h
step_begun text content (TrailerLineFeed taken) b h =
    on_must _ _ 10 b (Next (Trailers (taken + 1))) (λ is. subst (λ (x : ℕ). Begun (text ++ x ∷ []) content (Trailers (taken + 1))) (sym is) (trailer_end_begun text content taken h))
step_begun text content LastLineFeed b h =
    on_must _ _ 10 b Ended (λ is. subst (λ (x : ℕ). Found (text ++ x ∷ []) content) (sym is) (body_found text content h))

abbrev IsFound : List ℕ → ℕ → BodyReading → Type 0
IsFound text total (going content place) = Begun text content place
IsFound text total (whole content k) = (k ≤ total) × StandsIn text content (total - k)
IsFound text total (broken fault k) = Unit {0}

read_begun : (n : ℕ) (text content : List ℕ) (place : Place) (s : List ℕ) → Begun text content place → IsFound (text ++ s) (n + length s) (read n content place s)
read_begun n text content place [] h = rw (read_none n content place, append-nil text) h
read_begun n text content place (b ∷ s) h =
    rw (read_byte n content place b s)
    (go (step (length content) place b) (step_begun text content place b h) (λ next k. read_begun (n + 1) (text ++ b ∷ []) (with_byte place content b) next s k))
  where
    total : n + 1 + length s ≡ n + length (b ∷ s)
    total = omega arith

    joined : (text ++ b ∷ []) ++ s ≡ text ++ b ∷ s
    joined = append_assoc text (b ∷ []) s

    go : (x : Step) → OnStep (λ next. Begun (text ++ b ∷ []) (with_byte place content b) next) (Found (text ++ b ∷ []) (with_byte place content b)) x
        → ((next : Place) → Begun (text ++ b ∷ []) (with_byte place content b) next
        → IsFound ((text ++ b ∷ []) ++ s) (n + 1 + length s) (read (n + 1) (with_byte place content b) next s))
        → IsFound (text ++ b ∷ s) (n + length (b ∷ s)) (resume (n + 1) x (with_byte place content b) s)
    go (Next next) k later = subst (λ (y : List ℕ). IsFound y (n + length (b ∷ s)) (read (n + 1) (with_byte place content b) next s)) joined
        (subst (λ (m : ℕ). IsFound ((text ++ b ∷ []) ++ s) m (read (n + 1) (with_byte place content b) next s)) total (later next k))
    go Ended k later = (
      omega arith,
      record {
        body = k.body;
        is = k.is;
        rest = s;
        text_is = sym joined ∙ ap (λ (y : List ℕ). y ++ s) (sym k.text_is);
        content_is = k.content_is;
        count = omega arith;
      },
    )
    go (Broken fault) k later = tt

pub start_begun : Begun [] [] line_start
start_begun = record {
  chunks = [];
  all = All-nil IsChunk;
  part = [];
  text_is = refl;
  at = record { content_is = refl; count = refl; few = lit≤ tt; digits_are = All-nil (λ y. IsTrue (is_ascii_hexdigit y)); size_is = refl };
}

-- what is read as a whole body is one of the grammar
pub whole_stands : (s content : List ℕ) (k : ℕ) → chunked_of s ≡ whole content k → StandsIn s content (length s - k)
whole_stands s content k e =
    let h : IsFound s (0 + length s) (whole content k) = subst (IsFound s (0 + length s)) e (read_begun 0 [] [] line_start s start_begun) in
    subst (λ (m : ℕ). StandsIn s content (m - k)) (let none : 0 + length s ≡ length s = omega arith in none) h.1

-- ---- whatever goes on can still become a body

abbrev zeros : ℕ → List ℕ
zeros zero = []
zeros (suc n) = 0 ∷ zeros n

length-zeros : (n : ℕ) → length (zeros n) ≡ n
length-zeros zero = refl
length-zeros (suc n) = ap (λ (k : ℕ). suc k) (length-zeros n)

shorter_begins : (s t : List ℕ) → IsBeginning (s ++ t) → IsBeginning s
shorter_begins s t (body, more, is, same) = (body, t ++ more, is, same ∙ append_assoc s t more)

found_begins : (text content : List ℕ) → Found text content → IsBeginning text
found_begins text content h = (h.body, [], h.is, h.text_is ∙ sym (append-nil text))

abbrev zero_line : ChunkLine
zero_line = record { digits = 48 ∷ []; pad = []; extension = None }

zero_is : IsChunkLine zero_line
zero_is = record {
  digits = (lit< tt, lit≤ tt, All-cons (λ x. IsTrue (is_ascii_hexdigit x)) 48 [] refl (All-nil (λ x. IsTrue (is_ascii_hexdigit x))));
  pad = All-nil (λ x. IsTrue (is_ows x));
  extension = tt;
}

zero_length : length (print_chunk_line zero_line) ≡ 3
unfolding print_chunk_line
zero_length = refl

-- whole chunks
chunks_begin : (chunks : List Chunk) (text : List ℕ) → All IsChunk chunks → text ≡ flat_map print_chunk chunks → IsBeginning text
chunks_begin chunks text all same = (
  record { chunks = chunks; last = zero_line; trailers = [] },
  print_chunk_line zero_line ++ print_trailers [],
  record {
    chunks = all;
    last = zero_is;
    last_short = (let three = zero_length in omega arith);
    last_size = refl;
    trailers = All-nil IsTrailer;
    trailers_short = lit≤ tt;
  },
  ap (λ (x : List ℕ). x ++ (print_chunk_line zero_line ++ print_trailers [])) (sym same),
)

-- a chunk with some of its bytes
data_begins : (text content : List ℕ) (missing : ℕ) (chunks : List Chunk) (part : List ℕ) → All IsChunk chunks → text ≡ flat_map print_chunk chunks ++ part
    → InChunk (content_of chunks) content part missing [] → IsBeginning text
data_begins text content missing chunks part all same h =
    let chunk : Chunk = record { line = h.line; bytes = h.d ++ zeros missing } in
    let line = print_chunk_line h.line in
    let size : chunk_size h.line ≡ length (h.d ++ zeros missing) = (let n = h.count in let l = length-append h.d (zeros missing) in let z = length-zeros missing in omega arith) in
    let begun : part ≡ line ++ h.d = h.part_is ∙ append-nil (line ++ h.d) in
    let printed : text ++ (zeros missing ++ 13 ∷ 10 ∷ []) ≡ flat_map print_chunk (chunks ++ chunk ∷ [])
    = ap (λ (x : List ℕ). x ++ (zeros missing ++ 13 ∷ 10 ∷ [])) (same ∙ ap (λ (x : List ℕ). flat_map print_chunk chunks ++ x) begun)
    ∙ append_assoc (flat_map print_chunk chunks) (line ++ h.d) (zeros missing ++ 13 ∷ 10 ∷ [])
    ∙ ap (λ (x : List ℕ). flat_map print_chunk chunks ++ x)
    (append_assoc line h.d (zeros missing ++ 13 ∷ 10 ∷ []) ∙ ap (λ (x : List ℕ). line ++ x) (sym (append_assoc h.d (zeros missing) (13 ∷ 10 ∷ []))) ∙ sym (append-nil (print_chunk chunk)))
    ∙ sym (flat_map_more print_chunk chunks (chunk ∷ [])) in
    shorter_begins text (zeros missing ++ 13 ∷ 10 ∷ []) (chunks_begin (chunks ++ chunk ∷ []) _
    (All-append IsChunk chunks (chunk ∷ []) all (All-cons IsChunk chunk [] (record { line = h.is; short = h.room; size = size; some = (let s = h.some in omega arith) }) (All-nil IsChunk)))
    printed)

last_begins : (text content : List ℕ) → Begun text content LastLineFeed → IsBeginning text
last_begins text content h = shorter_begins text (10 ∷ []) (found_begins (text ++ 10 ∷ []) content (body_found text content h))

trailers_begin : (text content : List ℕ) (taken : ℕ) → Begun text content (Trailers taken) → IsBeginning text
trailers_begin text content taken h = shorter_begins text (13 ∷ []) (last_begins (text ++ 13 ∷ []) content (longer text content (Trailers taken) LastLineFeed content 13 h
    (h.at.0, behind_more (content_of h.chunks) content h.part h.at.0 [] (13 ∷ []) 13 h.at.1 refl, (let n = h.at.2 in let m = h.at.3 in omega arith))))

trailer_feed_begins : (text content : List ℕ) (taken : ℕ) → Begun text content (TrailerLineFeed taken) → IsBeginning text
trailer_feed_begins text content taken h = shorter_begins text (10 ∷ []) (trailers_begin (text ++ 10 ∷ []) content (taken + 1) (trailer_end_begun text content taken h))

trailer_begins : (text content : List ℕ) (taken : ℕ) → Begun text content (Trailer taken) → IsBeginning text
trailer_begins text content taken h = shorter_begins text (13 ∷ []) (trailer_feed_begins (text ++ 13 ∷ []) content (taken + 1) (longer text content (Trailer taken) (TrailerLineFeed (taken + 1)) content 13 h
    (h.at.0, h.at.1, behind_more (content_of h.chunks) content h.part h.at.0 h.at.1 (h.at.1 ++ 13 ∷ []) 13 h.at.2 refl, h.at.3, ap (λ (n : ℕ). n + 1) h.at.4, (let m = h.at.5 in omega arith))))

-- a chunk line that isn't at its end yet
feed_begins : (text content : List ℕ) (size : ℕ) → Begun text content (LineFeed size) → IsBeginning text
feed_begins text content size h = shorter_begins text (10 ∷ []) (go (eqb (chunk_size h.at.line) 0) refl)
  where
    line : List ℕ
    line = print_chunk_line h.at.line

    longer_text : text ++ 10 ∷ [] ≡ flat_map print_chunk h.chunks ++ line
    longer_text = ap (λ (x : List ℕ). x ++ 10 ∷ []) h.text_is ∙ append_assoc (flat_map print_chunk h.chunks) h.part (10 ∷ [])
        ∙ ap (λ (x : List ℕ). flat_map print_chunk h.chunks ++ x) h.at.part_is

    positive : (n : ℕ) → eqb n 0 ≡ false → 0 < n
    positive n e = grind (arith, nat_tests)

    go : (t : Bool) → eqb (chunk_size h.at.line) 0 ≡ t → IsBeginning (text ++ 10 ∷ [])
    go true e = trailers_begin (text ++ 10 ∷ []) content 0 (record {
      chunks = h.chunks;
      all = h.all;
      part = line;
      text_is = longer_text;
      at = (
        [],
        record {
          content_is = h.at.content_is;
          line = h.at.line;
          is = h.at.is;
          room = h.at.room;
          none = (Decides-eqb (chunk_size h.at.line) 0).0 e;
          all = All-nil IsTrailer;
          part_is = sym (append-nil line);
        },
        refl,
        lit≤ tt,
      );
    })
    go false e = data_begins (text ++ 10 ∷ []) content (chunk_size h.at.line) h.chunks line h.all longer_text (record {
      line = h.at.line;
      d = [];
      is = h.at.is;
      room = h.at.room;
      part_is = sym (append-nil line) ∙ sym (append-nil (line ++ []));
      content_is = h.at.content_is ∙ sym (append-nil (content_of h.chunks));
      count = omega arith;
      some = positive (chunk_size h.at.line) e;
    })

size_begins : (text content : List ℕ) (size digits : ℕ) → Begun text content (Size size digits) → IsBeginning text
size_begins text content size digits h = go h.part refl
  where
    go : (part : List ℕ) → h.part ≡ part → IsBeginning text
    go [] e = chunks_begin h.chunks text h.all (h.text_is ∙ ap (λ (x : List ℕ). flat_map print_chunk h.chunks ++ x) e ∙ append-nil (flat_map print_chunk h.chunks))
    go (b ∷ part) e = shorter_begins text (13 ∷ []) (feed_begins (text ++ 13 ∷ []) content size (longer text content (Size size digits) (LineFeed size) content 13 h
        (no_extension (content_of h.chunks) content h.part size digits (record {
          content_is = h.at.content_is;
          d = h.part;
          p = [];
          sized_by = record { some = (let long = ap length e in omega arith); few = (let count = h.at.count in let few = h.at.few in omega arith); digits = h.at.digits_are; size_is = h.at.size_is };
          pad = All-nil (λ y. IsTrue (is_ows y));
          part_is = sym (append-nil h.part);
          count = h.at.count;
          room = (let few = h.at.few in omega arith);
        }))))

place_begins : (text content : List ℕ) (place : Place) → Begun text content place → IsBeginning text
place_begins text content (Size size digits) h = size_begins text content size digits h
place_begins text content (AfterSize size taken) h = shorter_begins text (13 ∷ []) (feed_begins (text ++ 13 ∷ []) content size
    (longer text content (AfterSize size taken) (LineFeed size) content 13 h (no_extension (content_of h.chunks) content h.part size taken h.at)))
place_begins text content (Extension size taken) h = shorter_begins text (13 ∷ []) (feed_begins (text ++ 13 ∷ []) content size
    (longer text content (Extension size taken) (LineFeed size) content 13 h (with_extension (content_of h.chunks) content h.part size taken h.at)))
place_begins text content (LineFeed size) h = feed_begins text content size h
place_begins text content (Data missing) h = data_begins text content missing h.chunks h.part h.all h.text_is h.at.0
place_begins text content DataReturn h = data_begins text content 0 h.chunks h.part h.all h.text_is h.at
place_begins text content DataLineFeed h = shorter_begins text (10 ∷ []) (size_begins (text ++ 10 ∷ []) content 0 0 (chunk_begun text content h))
place_begins text content (Trailers taken) h = trailers_begin text content taken h
place_begins text content (Trailer taken) h = trailer_begins text content taken h
place_begins text content (TrailerLineFeed taken) h = trailer_feed_begins text content taken h
place_begins text content LastLineFeed h = last_begins text content h

-- what is read as going on is a beginning of a body
pub going_begins : (s content : List ℕ) (place : Place) → chunked_of s ≡ going content place → IsBeginning s
going_begins s content place e =
    place_begins s content place (subst (IsFound s (0 + length s)) e (read_begun 0 [] [] line_start s start_begun))
