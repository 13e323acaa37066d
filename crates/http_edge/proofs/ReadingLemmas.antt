-- A chunked body read in pieces.
use Rattle.std.proofs.Common.{◌≡◌, cond, ℕ, ◌+◌, ◌-◌, ◌<◌, ◌≤◌, Bool, true, false, ◌&&◌, List, [], ◌∷◌, ◌++◌, length, take, drop, min, refl, sym, ap, ◌∙◌, arith, append_assoc, length-append, lit<, lit≤, ◌*◌, zero, suc, subst, get_or}
use Rattle.std.specs.Prelude.{nat_le, nat_lt}
use Rattle.std.specs.Char.{digit_value, is_digit}
use Rattle.std.proofs.Math.Dec.{eqb}
use Rattle.std.proofs.lemmas.Bool.Decides.{nat_tests}
use Rattle.std.proofs.lemmas.List.{take-append-drop, length-take-le, drop-drop, length-replicate}
use Rattle.std.proofs.Math.ListN.{replicate}
use Rattle.httparse.specs.Grammar.{is_ows}
use Rattle.http_edge.specs.Judge.{most_body_bytes}
use Rattle.http_edge.specs.Chunks.{most_chunk_line_bytes, most_trailer_bytes}
use Rattle.http_edge.specs.Places.{size_with_digit, place_within, must_be, after_size, in_size, in_extension, sized, in_trailer, after_data, step, with_byte, BodyReading, going, whole, broken, read, resume, line_start, chunked_of, IsFramingPlace, IsFramingStep}
use Rattle.http_edge.specs.declared.item.FramingFault.{FramingFault}
use Rattle.http_edge.specs.declared.item.FramingFault.TheVariants.{BadChunk, TooLong}
use Rattle.http_edge.specs.declared.place.Place.{Place}
use Rattle.http_edge.specs.declared.place.Place.TheVariants.{Size, AfterSize, Extension, LineFeed, Data, DataReturn, DataLineFeed, Trailers, Trailer, TrailerLineFeed, LastLineFeed}
use Rattle.http_edge.specs.declared.place.Step.{Step}
use Rattle.http_edge.specs.declared.place.Step.TheVariants.{Next, Ended, Broken}

-- one byte
pub read_byte : (n : ℕ) (content : List ℕ) (place : Place) (b : ℕ) (bytes : List ℕ)
    → read n content place (b ∷ bytes) ≡ resume (n + 1) (step (length content) place b) (with_byte place content b) bytes
unfolding read
read_byte n content place b bytes = go (step (length content) place b)
  where
    go : (s : Step)
        → elim s as (λ _. BodyReading) [
          | Next next ↦ read (n + 1) (with_byte place content b) next bytes
          | Ended ↦ whole (with_byte place content b) (n + 1)
          | Broken fault ↦ broken fault (n + 1)
        ] ≡ resume (n + 1) s (with_byte place content b) bytes
    go (Next next) = refl
    go Ended = refl
    go (Broken fault) = refl

pub read_none : (n : ℕ) (content : List ℕ) (place : Place) → read n content place [] ≡ going content place
unfolding read
read_none n content place = refl

-- what was read, and then the bytes after it
abbrev pub then_read : ℕ → BodyReading → List ℕ → BodyReading
then_read n (going content place) more = read n content place more
then_read n (whole content k) more = whole content k
then_read n (broken fault k) more = broken fault k

pub read-append : (n : ℕ) (content : List ℕ) (place : Place) (s more : List ℕ)
    → read n content place (s ++ more) ≡ then_read (n + length s) (read n content place s) more
read-append n content place [] more =
    let same : n + 0 ≡ n = omega arith in
    rw (read_none n content place, same) refl
read-append n content place (b ∷ s) more =
    read_byte n content place b (s ++ more)
    ∙ go (step (length content) place b) (λ next. read-append (n + 1) (with_byte place content b) next s more)
    ∙ ap (λ (r : BodyReading). then_read (n + length (b ∷ s)) r more) (sym (read_byte n content place b s))
  where
    go : (x : Step)
        → ((next : Place) → read (n + 1) (with_byte place content b) next (s ++ more)
        ≡ then_read (n + 1 + length s) (read (n + 1) (with_byte place content b) next s) more)
        → resume (n + 1) x (with_byte place content b) (s ++ more)
        ≡ then_read (n + length (b ∷ s)) (resume (n + 1) x (with_byte place content b) s) more
    go (Next next) later = later next
        ∙ ap (λ (m : ℕ). then_read m (read (n + 1) (with_byte place content b) next s) more) (omega arith)
    go Ended later = refl
    go (Broken fault) later = refl

-- how many bytes are counted
abbrev pub shifted : ℕ → BodyReading → BodyReading
shifted m (going content place) = going content place
shifted m (whole content k) = whole content (m + k)
shifted m (broken fault k) = broken fault (m + k)

pub read_shifted : (m n : ℕ) (content : List ℕ) (place : Place) (s : List ℕ)
    → read (m + n) content place s ≡ shifted m (read n content place s)
read_shifted m n content place [] = rw (read_none (m + n) content place, read_none n content place) refl
read_shifted m n content place (b ∷ s) =
    read_byte (m + n) content place b s
    ∙ go (step (length content) place b) (λ next. read_shifted m (n + 1) (with_byte place content b) next s) ∙ ap (shifted m) (sym (read_byte n content place b s))
  where
    go : (x : Step)
        → ((next : Place) → read (m + (n + 1)) (with_byte place content b) next s ≡ shifted m (read (n + 1) (with_byte place content b) next s))
        → resume (m + n + 1) x (with_byte place content b) s ≡ shifted m (resume (n + 1) x (with_byte place content b) s)
    go (Next next) later = ap (λ (k : ℕ). read k (with_byte place content b) next s) (omega arith) ∙ later next
    go Ended later = ap (λ (k : ℕ). whole (with_byte place content b) k) (omega arith)
    go (Broken fault) later = ap (λ (k : ℕ). broken fault k) (omega arith)

-- of how many bytes an end can be
abbrev pub IsWithin : ℕ → ℕ → BodyReading → Type 0
IsWithin n most (going content place) = Unit {0}
IsWithin n most (whole content k) = (n < k) × (k ≤ n + most)
IsWithin n most (broken fault k) = (n < k) × (k ≤ n + most)

wider : (n most : ℕ) (r : BodyReading) → IsWithin (n + 1) most r → IsWithin n (1 + most) r
wider n most (going content place) h = tt
wider n most (whole content k) h = (omega (arith, h.0), omega (arith, h.1))
wider n most (broken fault k) h = (omega (arith, h.0), omega (arith, h.1))

pub read_within : (n : ℕ) (content : List ℕ) (place : Place) (s : List ℕ) → IsWithin n (length s) (read n content place s)
read_within n content place [] = rw (read_none n content place) tt
read_within n content place (b ∷ s) =
    rw (read_byte n content place b s) (go (step (length content) place b) (λ next. read_within (n + 1) (with_byte place content b) next s))
  where
    one_more : 1 + length s ≡ length (b ∷ s)
    one_more = omega arith

    go : (x : Step) → ((next : Place) → IsWithin (n + 1) (length s) (read (n + 1) (with_byte place content b) next s))
        → IsWithin n (length (b ∷ s)) (resume (n + 1) x (with_byte place content b) s)
    go (Next next) later = subst (λ (k : ℕ). IsWithin n k (read (n + 1) (with_byte place content b) next s)) one_more
        (wider n (length s) (read (n + 1) (with_byte place content b) next s) (later next))
    go Ended later = (omega arith, omega arith)
    go (Broken fault) later = (omega arith, omega arith)

-- ---- places

within_place : (count most needed : ℕ) (place : Place) → (needed ≤ most → IsFramingPlace count place) → IsFramingStep count (place_within most needed place)
within_place count most needed place h = elim (nat_le needed most) as (λ v. nat_le needed most ≡ v → IsFramingStep count (cond v (Next place) (Broken BadChunk))) [
  | true ↦ λ e. h (grind (arith, nat_tests))
  | false ↦ λ e. tt
] refl

must_place : (count wanted b : ℕ) (next : Step) → IsFramingStep count next → IsFramingStep count (must_be wanted b next)
must_place count wanted b next h = elim (eqb b wanted) as (λ v. IsFramingStep count (cond v next (Broken BadChunk))) [ true ↦ h | false ↦ tt ]

cond_place : (count : ℕ) (t : Bool) (x y : Step) → IsFramingStep count x → IsFramingStep count y → IsFramingStep count (cond t x y)
cond_place count true x y h k = h
cond_place count false x y h k = k

after_place : (count size taken b : ℕ) → count ≤ most_body_bytes → size ≤ most_body_bytes + 1 → IsFramingStep count (after_size size taken b)
unfolding after_size
after_place count size taken b few small =
    cond_place count (eqb b 13) _ _ (few, small)
    (cond_place count (is_ows b) _ _ (within_place count most_chunk_line_bytes (taken + 3) (AfterSize size (taken + 1)) (λ h. (few, small, omega arith)))
    (cond_place count (eqb b 59) _ _ (within_place count most_chunk_line_bytes (taken + 3) (Extension size (taken + 1)) (λ h. (few, small, omega arith)))
    tt))

size_place : (count size digits b : ℕ) → count ≤ most_body_bytes → size ≤ most_body_bytes + 1 → IsFramingStep count (in_size size digits b)
unfolding in_size
size_place count size digits b few small =
    go (is_digit b 16) (nat_lt digits 16) refl
  where
    capped : (n : ℕ) → min n (most_body_bytes + 1) ≤ most_body_bytes + 1
    capped n = omega arith

    rest : IsFramingStep count (cond (eqb digits 0) (Broken BadChunk) (after_size size digits b))
    rest = cond_place count (eqb digits 0) _ _ tt (after_place count size digits b few small)

    go : (d v : Bool) → nat_lt digits 16 ≡ v
        → IsFramingStep count (cond (d && v) (Next (Size (size_with_digit size b) (digits + 1))) (cond (eqb digits 0) (Broken BadChunk) (after_size size digits b)))
    go true true e = (few, capped (size * 16 + digit_value b), grind (arith, nat_tests))
    go true false e = rest
    go false v e = rest

extension_place : (count size taken b : ℕ) → count ≤ most_body_bytes → size ≤ most_body_bytes + 1 → IsFramingStep count (in_extension size taken b)
unfolding in_extension
extension_place count size taken b few small =
    cond_place count (eqb b 13) _ _ (few, small) (cond_place count (eqb b 10) _ _ tt
    (within_place count most_chunk_line_bytes (taken + 3) (Extension size (taken + 1)) (λ h. (few, small, omega arith))))

trailer_place : (count taken b : ℕ) (place : Place) → count ≤ most_body_bytes → IsFramingPlace count place → IsFramingStep count (in_trailer place taken b)
unfolding in_trailer
trailer_place count taken b place few h =
    cond_place count (eqb b 13) _ _ h (cond_place count (eqb b 10) _ _ tt
    (within_place count most_trailer_bytes (taken + 5) (Trailer (taken + 1)) (λ k. (few, omega arith))))

sized_place : (count size : ℕ) → count ≤ most_body_bytes → IsFramingStep count (sized count size)
sized_place count size few = elim (eqb size 0) as (λ v. eqb size 0 ≡ v → IsFramingStep count (cond v (Next (Trailers 0)) (cond (nat_le (count + size) most_body_bytes) (Next (Data size)) (Broken TooLong)))) [
  | true ↦ λ e. (few, lit≤ tt)
  | false ↦ λ e. elim (nat_le (count + size) most_body_bytes) as (λ v. nat_le (count + size) most_body_bytes ≡ v → IsFramingStep count (cond v (Next (Data size)) (Broken TooLong))) [
    | true ↦ λ f. (grind (arith, nat_tests), grind (arith, nat_tests))
    | false ↦ λ f. tt
  ] refl
] refl

-- the place after some of a chunk's bytes
pub data_place : (count missing taken : ℕ) → count + missing ≤ most_body_bytes → 0 < taken → taken ≤ missing → IsFramingPlace (count + taken) (after_data missing taken)
data_place count missing taken fits some below = elim (nat_lt taken missing) as (λ v. nat_lt taken missing ≡ v → IsFramingPlace (count + taken) (cond v (Data (missing - taken)) DataReturn)) [
  | true ↦ λ e. (grind (arith, nat_tests), omega arith)
  | false ↦ λ e. omega arith
] refl

pub step_place : (content : List ℕ) (place : Place) (b : ℕ) → IsFramingPlace (length content) place → IsFramingStep (length (with_byte place content b)) (step (length content) place b)
unfolding step
step_place content (Size size digits) b h = size_place (length content) size digits b h.0 h.1
step_place content (AfterSize size taken) b h = after_place (length content) size taken b h.0 h.1
step_place content (Extension size taken) b h = extension_place (length content) size taken b h.0 h.1
step_place content (LineFeed size) b h = must_place (length content) 10 b (sized (length content) size) (sized_place (length content) size h.0)
step_place content (Data missing) b h =
    let grown : length (content ++ b ∷ []) ≡ length content + 1 = length-append content (b ∷ []) in
    rw grown (data_place (length content) missing 1 h.1 (lit< tt) h.0)
step_place content DataReturn b h = must_place (length content) 13 b (Next DataLineFeed) h
step_place content DataLineFeed b h = must_place (length content) 10 b (Next line_start) (h, omega arith, omega arith)
step_place content (Trailers taken) b h = trailer_place (length content) taken b LastLineFeed h.0 h.0
step_place content (Trailer taken) b h = trailer_place (length content) taken b (TrailerLineFeed (taken + 1)) h.0 (h.0, omega (arith, h.1))
step_place content (TrailerLineFeed taken) b h = must_place (length content) 10 b (Next (Trailers (taken + 1))) (h.0, omega (arith, h.1))
step_place content LastLineFeed b h = must_place (length content) 10 b Ended h

-- what is read is at a place, or isn't too long
abbrev pub IsSmall : BodyReading → Type 0
IsSmall (going content place) = IsFramingPlace (length content) place
IsSmall (whole content k) = length content ≤ most_body_bytes
IsSmall (broken fault k) = Unit {0}

pub read_small : (n : ℕ) (content : List ℕ) (place : Place) (s : List ℕ) → IsFramingPlace (length content) place → IsSmall (read n content place s)
read_small n content place [] h = rw (read_none n content place) h
read_small n content place (b ∷ s) h =
    rw (read_byte n content place b s)
    (go (step (length content) place b) (step_place content place b h) (λ next k. read_small (n + 1) (with_byte place content b) next s k))
  where
    go : (x : Step) → IsFramingStep (length (with_byte place content b)) x
        → ((next : Place) → IsFramingPlace (length (with_byte place content b)) next → IsSmall (read (n + 1) (with_byte place content b) next s))
        → IsSmall (resume (n + 1) x (with_byte place content b) s)
    go (Next next) k later = later next k
    go Ended k later = k
    go (Broken fault) k later = tt

pub start_place : IsFramingPlace 0 line_start
start_place = (omega arith, omega arith, omega arith)

-- ---- the bytes of a chunk at once

pub read_data : (n : ℕ) (content : List ℕ) (missing : ℕ) (d more : List ℕ) → 0 < length d → length d ≤ missing
    → read n content (Data missing) (d ++ more) ≡ read (n + length d) (content ++ d) (after_data missing (length d)) more
unfolding step
read_data n content missing [] more some below = absurd (omega arith)
read_data n content missing (b ∷ []) more some below = read_byte n content (Data missing) b more
read_data n content missing (b ∷ c ∷ d) more some below =
    let one : after_data missing 1 ≡ Data (missing - 1) = (let yes : nat_lt 1 missing ≡ true = grind (arith, nat_tests) in rw yes refl) in
    let last : after_data (missing - 1) (length (c ∷ d)) ≡ after_data missing (length (b ∷ c ∷ d))
    = (let same : nat_lt (length (c ∷ d)) (missing - 1) ≡ nat_lt (length (b ∷ c ∷ d)) missing = less (length (c ∷ d)) missing in
    let rest : missing - 1 - length (c ∷ d) ≡ missing - length (b ∷ c ∷ d) = omega arith in rw (same, rest) refl) in
    read_byte n content (Data missing) b (c ∷ d ++ more)
    ∙ ap (λ (p : Place). read (n + 1) (content ++ b ∷ []) p (c ∷ d ++ more)) one
    ∙ read_data (n + 1) (content ++ b ∷ []) (missing - 1) (c ∷ d) more (omega arith) (omega arith)
    ∙ ap (λ (k : ℕ). read k ((content ++ b ∷ []) ++ c ∷ d) (after_data (missing - 1) (length (c ∷ d))) more) (omega arith)
    ∙ ap (λ (x : List ℕ). read (n + length (b ∷ c ∷ d)) x (after_data (missing - 1) (length (c ∷ d))) more) (append_assoc content (b ∷ []) (c ∷ d))
    ∙ ap (λ (p : Place). read (n + length (b ∷ c ∷ d)) (content ++ b ∷ c ∷ d) p more) last
  where
    less : (k m : ℕ) → nat_lt k (m - 1) ≡ nat_lt (suc k) m
    less k m = grind (arith, nat_tests)

-- ---- in the words of the reader

-- the bytes of a chunk that stand
pub some_data : (n : ℕ) (content new : List ℕ) (place next : Place) (missing taken : ℕ) (bytes : List ℕ) → place ≡ Data missing
    → 0 < taken → taken ≤ missing → taken ≤ length bytes → new ≡ content ++ take taken bytes → next ≡ after_data missing taken
    → read n content place bytes ≡ read (n + taken) new next (drop taken bytes)
some_data n content new place next missing taken bytes at some below place_within pushed then =
    let long : length (take taken bytes) ≡ taken = length-take-le taken bytes place_within in
    ap (λ (p : Place). read n content p bytes) at
    ∙ ap (read n content (Data missing)) (sym (take-append-drop taken bytes))
    ∙ read_data n content missing (take taken bytes) (drop taken bytes) (omega arith) (omega arith)
    ∙ ap (λ (k : ℕ). read (n + k) (content ++ take taken bytes) (after_data missing k) (drop taken bytes)) long
    ∙ ap (λ (c : List ℕ). read (n + taken) c (after_data missing taken) (drop taken bytes)) (sym pushed)
    ∙ ap (λ (p : Place). read (n + taken) new p (drop taken bytes)) (sym then)

kept_byte : (place : Place) (content : List ℕ) (b : ℕ) → ((m : ℕ) → place ≡ Data m → ⊥) → with_byte place content b ≡ content
kept_byte (Size size digits) content b other = refl
kept_byte (AfterSize size taken) content b other = refl
kept_byte (Extension size taken) content b other = refl
kept_byte (LineFeed size) content b other = refl
kept_byte (Data missing) content b other = absurd (other missing refl)
kept_byte DataReturn content b other = refl
kept_byte DataLineFeed content b other = refl
kept_byte (Trailers taken) content b other = refl
kept_byte (Trailer taken) content b other = refl
kept_byte (TrailerLineFeed taken) content b other = refl
kept_byte LastLineFeed content b other = refl

-- one byte of what is round the chunks
pub some_byte : (n : ℕ) (content : List ℕ) (place : Place) (bytes : List ℕ) (s : Step) → ((m : ℕ) → place ≡ Data m → ⊥) → 0 < length bytes
    → s ≡ step (length content) place (get_or bytes 0 0) → read n content place bytes ≡ resume (n + 1) s content (drop 1 bytes)
some_byte n content place [] s other some is = absurd (omega arith)
some_byte n content place (b ∷ bytes) s other some is =
    read_byte n content place b bytes ∙ ap (λ (x : Step). resume (n + 1) x (with_byte place content b) bytes) (sym is)
    ∙ ap (λ (c : List ℕ). resume (n + 1) s c bytes) (kept_byte place content b other)

pub byte_place : (count : ℕ) (place : Place) (b : ℕ) (s : Step) → ((m : ℕ) → place ≡ Data m → ⊥) → IsFramingPlace count place
    → s ≡ step count place b → IsFramingStep count s
byte_place count place b s other at is =
    let content : List ℕ = replicate count 0 in
    let long : length content ≡ count = length-replicate count 0 in
    subst (IsFramingStep count) (sym is)
    (subst (λ (m : ℕ). IsFramingStep m (step m place b)) long
    (subst (λ (c : List ℕ). IsFramingStep (length c) (step (length content) place b)) (kept_byte place content b other)
    (step_place content place b (subst (λ (m : ℕ). IsFramingPlace m place) (sym long) at))))

-- the same with content that stands before

pub some_data_after : (front content new : List ℕ) (n : ℕ) (place next : Place) (missing taken : ℕ) (bytes : List ℕ) → place ≡ Data missing
    → 0 < taken → taken ≤ missing → taken ≤ length bytes → new ≡ content ++ take taken bytes → next ≡ after_data missing taken
    → read n (front ++ content) place bytes ≡ read (n + taken) (front ++ new) next (drop taken bytes)
some_data_after front content new n place next missing taken bytes at some below place_within pushed then =
    some_data n (front ++ content) (front ++ new) place next missing taken bytes at some below place_within
    (ap (λ (c : List ℕ). front ++ c) pushed ∙ sym (append_assoc front content (take taken bytes))) then

pub some_byte_after : (front content : List ℕ) (before n : ℕ) (place : Place) (bytes : List ℕ) (s : Step) → length front ≡ before
    → ((m : ℕ) → place ≡ Data m → ⊥) → 0 < length bytes → s ≡ step (before + length content) place (get_or bytes 0 0)
    → read n (front ++ content) place bytes ≡ resume (n + 1) s (front ++ content) (drop 1 bytes)
some_byte_after front content before n place bytes s long other some is =
    some_byte n (front ++ content) place bytes s other some
    (is ∙ ap (λ (m : ℕ). step m place (get_or bytes 0 0)) (sym (length-append front content ∙ ap (λ (m : ℕ). m + length content) long)))

-- what was read before, and what was then
pub read_more : (front was content new : List ℕ) (start place : Place) (bytes rest : List ℕ) (at taken : ℕ) (s : Step)
    → read 0 (front ++ was) start bytes ≡ read at (front ++ content) place (drop at bytes) → rest ≡ drop at bytes
    → read at (front ++ content) place rest ≡ resume (at + taken) s (front ++ new) (drop taken rest)
    → read 0 (front ++ was) start bytes ≡ resume (at + taken) s (front ++ new) (drop (at + taken) bytes)
read_more front was content new start place bytes rest at taken s before cut this =
    before ∙ ap (read at (front ++ content) place) (sym cut) ∙ this
    ∙ ap (λ (x : List ℕ). resume (at + taken) s (front ++ new) x) (ap (drop taken) cut ∙ drop-drop taken at bytes)

-- ---- where a fault stands

-- the bytes up to the fault are refused, and those before the last of them go on
record IsFirst (n : ℕ) (content : List ℕ) (place : Place) (s : List ℕ) (fault : FramingFault) (k : ℕ) : Type 0 where
  upto : read n content place (take (k - n) s) ≡ broken fault k
  then_content : List ℕ
  then_place : Place
  before : read n content place (take (k - n - 1) s) ≡ going then_content then_place

fault_first : (n : ℕ) (content : List ℕ) (place : Place) (s : List ℕ) (fault : FramingFault) (k : ℕ) → read n content place s ≡ broken fault k
    → IsFirst n content place s fault k
fault_first n content place [] fault k e = absurd (let no : going content place ≡ broken fault k = sym (read_none n content place) ∙ e in cc)
fault_first n content place (b ∷ s) fault k e =
    go (step (length content) place b) refl (sym (read_byte n content place b s) ∙ e)
    (λ next f. fault_first (n + 1) (with_byte place content b) next s fault k f)
  where
    stepped : (x : Step) → step (length content) place b ≡ x → (t : List ℕ) → read n content place (b ∷ t) ≡ resume (n + 1) x (with_byte place content b) t
    stepped x at t = read_byte n content place b t ∙ ap (λ (y : Step). resume (n + 1) y (with_byte place content b) t) at

    go : (x : Step) → step (length content) place b ≡ x → resume (n + 1) x (with_byte place content b) s ≡ broken fault k
        → ((next : Place) → read (n + 1) (with_byte place content b) next s ≡ broken fault k → IsFirst (n + 1) (with_byte place content b) next s fault k)
        → IsFirst n content place (b ∷ s) fault k
    go (Next next) at f later =
        let h = later next f in
        let far : (n + 1 < k) × (k ≤ n + 1 + length s) = subst (IsWithin (n + 1) (length s)) f (read_within (n + 1) (with_byte place content b) next s) in
        let one : k - n ≡ suc (k - (n + 1)) = omega (arith, far.0) in
        let two : k - n - 1 ≡ suc (k - (n + 1) - 1) = omega (arith, far.0) in
        record {
          upto = ap (λ (m : ℕ). read n content place (take m (b ∷ s))) one ∙ stepped (Next next) at (take (k - (n + 1)) s) ∙ h.upto;
          then_content = h.then_content;
          then_place = h.then_place;
          before = ap (λ (m : ℕ). read n content place (take m (b ∷ s))) two ∙ stepped (Next next) at (take (k - (n + 1) - 1) s) ∙ h.before;
        }
    go Ended at f later = absurd (cc)
    go (Broken x) at f later =
        let is : n + 1 ≡ k = cc in
        let one : k - n ≡ suc zero = omega arith in
        let none : k - n - 1 ≡ zero = omega arith in
        record {
          upto = ap (λ (m : ℕ). read n content place (take m (b ∷ s))) one ∙ stepped (Broken x) at [] ∙ f;
          then_content = content;
          then_place = place;
          before = ap (λ (m : ℕ). read n content place (take m (b ∷ s))) none ∙ read_none n content place;
        }

pub fault_is_first : (s : List ℕ) (fault : FramingFault) (n : ℕ) → chunked_of s ≡ broken fault n
    → (chunked_of (take n s) ≡ broken fault n) × ((content : List ℕ) × (place : Place) × (chunked_of (take (n - 1) s) ≡ going content place))
fault_is_first s fault n e =
    let h = fault_first 0 [] line_start s fault n e in
    let all : n - 0 ≡ n = omega arith in
    let but : n - 0 - 1 ≡ n - 1 = omega arith in (
      ap (λ (m : ℕ). chunked_of (take m s)) (sym all) ∙ h.upto,
      (h.then_content, h.then_place, ap (λ (m : ℕ). chunked_of (take m s)) (sym but) ∙ h.before),
    )
