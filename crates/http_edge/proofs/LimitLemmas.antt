-- Where a chunked body passes the limit.
use Rattle.std.proofs.Common.{◌≡◌, cond, ℕ, zero, suc, ◌+◌, ◌-◌, ◌<◌, ◌≤◌, Bool, true, false, ◌&&◌, List, [], ◌∷◌, ◌++◌, length, take, refl, sym, subst, ap, ◌∙◌, arith, append_assoc, length-append}
use Rattle.std.specs.Prelude.{nat_le, nat_lt}
use Rattle.std.specs.List.{All, flat_map}
use Rattle.std.specs.Char.{is_digit}
use Rattle.std.proofs.Math.Dec.{eqb}
use Rattle.std.proofs.lemmas.Bool.Decides.{nat_tests, Decides-eqb}
use Rattle.std.proofs.lemmas.List.Elements.{All-head, All-tail}
use Rattle.httparse.specs.Grammar.{ChunkLine, IsChunkLine, print_chunk_line, chunk_size, is_ows}
use Rattle.http_edge.specs.Judge.{most_body_bytes}
use Rattle.http_edge.specs.Chunks.{most_chunk_line_bytes, most_trailer_bytes, Chunk, print_chunk, IsChunk, content_of}
use Rattle.http_edge.specs.Limit.{PassesLimit}
use Rattle.http_edge.specs.Places.{place_within, must_be, after_size, in_size, in_extension, sized, in_trailer, step, with_byte, going, broken, read, resume, line_start, chunked_of, IsFramingPlace, IsFramingStep}
use Rattle.http_edge.specs.declared.item.FramingFault.TheVariants.{BadChunk, TooLong}
use Rattle.http_edge.specs.declared.place.Place.{Place}
use Rattle.http_edge.specs.declared.place.Place.TheVariants.{Size, AfterSize, Extension, LineFeed, Data, DataReturn, DataLineFeed, Trailers, Trailer, TrailerLineFeed, LastLineFeed}
use Rattle.http_edge.specs.declared.place.Step.{Step}
use Rattle.http_edge.specs.declared.place.Step.TheVariants.{Next, Ended, Broken}
use Rattle.http_edge.proofs.ReadingLemmas.{read_byte, read_none, read_within, step_place, start_place, IsWithin}
use Rattle.http_edge.proofs.ChunkLemmas.{read_line, read_chunk, sized_long}
use Rattle.http_edge.proofs.PlaceLemmas.{Begun, Found, OnStep, step_begun, start_begun}

-- ---- chunks within the limit, and a line that passes it

read_limit : (n : ℕ) (content : List ℕ) (chunks : List Chunk) (line : ChunkLine) (more : List ℕ) → All IsChunk chunks → IsChunkLine line
    → length (print_chunk_line line) ≤ most_chunk_line_bytes → length content + length (content_of chunks) ≤ most_body_bytes
    → most_body_bytes < length content + length (content_of chunks) + chunk_size line
    → read n content line_start ((flat_map print_chunk chunks ++ print_chunk_line line) ++ more)
    ≡ broken TooLong (n + length (flat_map print_chunk chunks ++ print_chunk_line line))
read_limit n content [] line more all is short fits over =
    read_line n content line more is short
    ∙ ap (λ (s : Step). resume (n + length (print_chunk_line line)) s content more) (sized_long (length content) (chunk_size line) (omega arith) (omega arith))
read_limit n content (chunk ∷ chunks) line more all is short fits over =
    ap (read n content line_start) split
    ∙ read_chunk n content chunk ((flat_map print_chunk chunks ++ print_chunk_line line) ++ more) (All-head IsChunk chunk chunks all) (omega (arith, lengths))
    ∙ read_limit (n + length (print_chunk chunk)) (content ++ chunk.bytes) chunks line more (All-tail IsChunk chunk chunks all) is short
    (omega (arith, lengths, length-append content chunk.bytes)) (omega (arith, lengths, length-append content chunk.bytes))
    ∙ ap (λ (k : ℕ). broken TooLong k) (omega (arith, size))
  where
    joined : flat_map print_chunk (chunk ∷ chunks) ++ print_chunk_line line ≡ print_chunk chunk ++ (flat_map print_chunk chunks ++ print_chunk_line line)
    joined = append_assoc (print_chunk chunk) (flat_map print_chunk chunks) (print_chunk_line line)

    split : (flat_map print_chunk (chunk ∷ chunks) ++ print_chunk_line line) ++ more ≡ print_chunk chunk ++ ((flat_map print_chunk chunks ++ print_chunk_line line) ++ more)
    split = ap (λ (x : List ℕ). x ++ more) joined ∙ append_assoc (print_chunk chunk) (flat_map print_chunk chunks ++ print_chunk_line line) more

    size : length (flat_map print_chunk (chunk ∷ chunks) ++ print_chunk_line line) ≡ length (print_chunk chunk) + length (flat_map print_chunk chunks ++ print_chunk_line line)
    size = ap length joined ∙ length-append (print_chunk chunk) (flat_map print_chunk chunks ++ print_chunk_line line)

    lengths : length (chunk.bytes ++ content_of chunks) ≡ length chunk.bytes + length (content_of chunks)
    lengths = length-append chunk.bytes (content_of chunks)

pub passing_is_refused : (text more : List ℕ) → PassesLimit text → chunked_of (text ++ more) ≡ broken TooLong (length text)
passing_is_refused text more h =
    ap (λ (x : List ℕ). chunked_of (x ++ more)) h.text_is
    ∙ read_limit 0 [] h.chunks h.line more h.all h.is h.short (let fits = h.within in omega arith) (let over = h.over in omega arith)
    ∙ ap (λ (k : ℕ). broken TooLong k) (let same = ap length h.text_is in omega arith)

-- ---- back: what a step that is too long says

abbrev IfTooLong : Type 0 → Step → Type 0
IfTooLong P (Next place) = Unit {0}
IfTooLong P Ended = Unit {0}
IfTooLong P (Broken fault) = fault ≡ TooLong → P

long_cond : (P : Type 0) (t : Bool) (x y : Step) → (t ≡ true → IfTooLong P x) → (t ≡ false → IfTooLong P y) → IfTooLong P (cond t x y)
long_cond P true x y h k = h refl
long_cond P false x y h k = k refl

long_bad : (P : Type 0) → IfTooLong P (Broken BadChunk)
long_bad P = λ e. absurd (cc)

long_within : (P : Type 0) (most needed : ℕ) (place : Place) → IfTooLong P (place_within most needed place)
long_within P most needed place = long_cond P (nat_le needed most) (Next place) (Broken BadChunk) (λ e. tt) (λ e. long_bad P)

long_must : (P : Type 0) (wanted b : ℕ) (s : Step) → (b ≡ wanted → IfTooLong P s) → IfTooLong P (must_be wanted b s)
long_must P wanted b s h = long_cond P (eqb b wanted) s (Broken BadChunk) (λ e. h ((Decides-eqb b wanted).0 e)) (λ e. long_bad P)

long_after : (P : Type 0) (size taken b : ℕ) → IfTooLong P (after_size size taken b)
unfolding after_size
long_after P size taken b =
    long_cond P (eqb b 13) _ _ (λ e. tt) (λ e. long_cond P (is_ows b) _ _ (λ f. long_within P most_chunk_line_bytes (taken + 3) (AfterSize size (taken + 1)))
    (λ f. long_cond P (eqb b 59) _ _ (λ g. long_within P most_chunk_line_bytes (taken + 3) (Extension size (taken + 1))) (λ g. long_bad P)))

long_size : (P : Type 0) (size digits b : ℕ) → IfTooLong P (in_size size digits b)
unfolding in_size
long_size P size digits b =
    long_cond P (is_digit b 16 && nat_lt digits 16) _ _ (λ e. tt)
    (λ e. long_cond P (eqb digits 0) _ _ (λ f. long_bad P) (λ f. long_after P size digits b))

long_extension : (P : Type 0) (size taken b : ℕ) → IfTooLong P (in_extension size taken b)
unfolding in_extension
long_extension P size taken b =
    long_cond P (eqb b 13) _ _ (λ e. tt) (λ e. long_cond P (eqb b 10) _ _ (λ f. long_bad P)
    (λ f. long_within P most_chunk_line_bytes (taken + 3) (Extension size (taken + 1))))

long_trailer : (P : Type 0) (place : Place) (taken b : ℕ) → IfTooLong P (in_trailer place taken b)
unfolding in_trailer
long_trailer P place taken b =
    long_cond P (eqb b 13) _ _ (λ e. tt) (λ e. long_cond P (eqb b 10) _ _ (λ f. long_bad P)
    (λ f. long_within P most_trailer_bytes (taken + 5) (Trailer (taken + 1))))

-- only the LF of a chunk line comes to it
feed_passes : (text content : List ℕ) (size b : ℕ) → Begun text content (LineFeed size) → length content ≤ most_body_bytes
    → IfTooLong (PassesLimit (text ++ b ∷ [])) (must_be 10 b (sized (length content) size))
feed_passes text content size b h few =
    long_must P 10 b (sized (length content) size) (λ is. long_cond P (eqb size 0) _ _ (λ e. tt)
    (λ some. long_cond P (nat_le (length content + size) most_body_bytes) _ _ (λ e. tt) (λ far. λ same. record {
      chunks = h.chunks;
      all = h.all;
      within = (let n = count in omega arith);
      line = h.at.line;
      is = h.at.is;
      short = h.at.room;
      over = (let n = count in let s = h.at.size_is in let m = above (length content + size) far in omega arith);
      text_is = ap (λ (x : List ℕ). x ++ b ∷ []) h.text_is ∙ append_assoc (flat_map print_chunk h.chunks) h.part (b ∷ [])
          ∙ ap (λ (x : ℕ). flat_map print_chunk h.chunks ++ (h.part ++ x ∷ [])) is
          ∙ ap (λ (x : List ℕ). flat_map print_chunk h.chunks ++ x) h.at.part_is;
    })))
  where
    P : Type 0
    P = PassesLimit (text ++ b ∷ [])

    count : length content ≡ length (content_of h.chunks)
    count = ap length h.at.content_is

    above : (n : ℕ) → nat_le n most_body_bytes ≡ false → most_body_bytes < n
    above n e = grind (arith, nat_tests)

step_passes : (text content : List ℕ) (place : Place) (b : ℕ) → Begun text content place → IsFramingPlace (length content) place
    → IfTooLong (PassesLimit (text ++ b ∷ [])) (step (length content) place b)
unfolding step
step_passes text content (Size size digits) b h at = long_size _ size digits b
step_passes text content (AfterSize size taken) b h at = long_after _ size taken b
step_passes text content (Extension size taken) b h at = long_extension _ size taken b
step_passes text content (LineFeed size) b h at = feed_passes text content size b h at.0
step_passes text content (Data missing) b h at = tt
step_passes text content DataReturn b h at = long_must _ 13 b (Next DataLineFeed) (λ is. tt)
step_passes text content DataLineFeed b h at = long_must _ 10 b (Next line_start) (λ is. tt)
step_passes text content (Trailers taken) b h at = long_trailer _ LastLineFeed taken b
step_passes text content (Trailer taken) b h at = long_trailer _ (TrailerLineFeed (taken + 1)) taken b
step_passes text content (TrailerLineFeed taken) b h at = long_must _ 10 b (Next (Trailers (taken + 1))) (λ is. tt)
step_passes text content LastLineFeed b h at = long_must _ 10 b Ended (λ is. tt)

read_passes : (n : ℕ) (text content : List ℕ) (place : Place) (s : List ℕ) (k : ℕ) → Begun text content place → IsFramingPlace (length content) place
    → read n content place s ≡ broken TooLong k → PassesLimit (text ++ take (k - n) s)
read_passes n text content place [] k h at e = absurd (let no : going content place ≡ broken TooLong k = sym (read_none n content place) ∙ e in cc)
read_passes n text content place (b ∷ s) k h at e =
    go (step (length content) place b) (step_begun text content place b h) (step_place content place b at) (step_passes text content place b h at)
    (sym (read_byte n content place b s) ∙ e)
    (λ next begun here f. read_passes (n + 1) (text ++ b ∷ []) (with_byte place content b) next s k begun here f)
  where
    go : (x : Step) → OnStep (λ next. Begun (text ++ b ∷ []) (with_byte place content b) next) (Found (text ++ b ∷ []) (with_byte place content b)) x
        → IsFramingStep (length (with_byte place content b)) x → IfTooLong (PassesLimit (text ++ b ∷ [])) x
        → resume (n + 1) x (with_byte place content b) s ≡ broken TooLong k
        → ((next : Place) → Begun (text ++ b ∷ []) (with_byte place content b) next → IsFramingPlace (length (with_byte place content b)) next
        → read (n + 1) (with_byte place content b) next s ≡ broken TooLong k → PassesLimit ((text ++ b ∷ []) ++ take (k - (n + 1)) s))
        → PassesLimit (text ++ take (k - n) (b ∷ s))
    go (Next next) begun here long f later =
        let far : (n + 1 < k) × (k ≤ n + 1 + length s) = subst (IsWithin (n + 1) (length s)) f (read_within (n + 1) (with_byte place content b) next s) in
        let one : k - n ≡ suc (k - (n + 1)) = omega (arith, far.0) in
        subst PassesLimit (append_assoc text (b ∷ []) (take (k - (n + 1)) s) ∙ ap (λ (m : ℕ). text ++ take m (b ∷ s)) (sym one)) (later next begun here f)
    go Ended begun here long f later = absurd (cc)
    go (Broken fault) begun here long f later =
        let is : n + 1 ≡ k = cc in
        let one : k - n ≡ suc zero = omega arith in
        subst PassesLimit (ap (λ (m : ℕ). text ++ take m (b ∷ s)) (sym one)) (long (let same : fault ≡ TooLong = cc in same))

pub refused_passes : (s : List ℕ) (n : ℕ) → chunked_of s ≡ broken TooLong n → PassesLimit (take n s)
refused_passes s n e =
    subst (λ (m : ℕ). PassesLimit (take m s)) (let all : n - 0 ≡ n = omega arith in all) (read_passes 0 [] [] line_start s n start_begun start_place e)
