-- What a head block is that comes to a request.
use Rattle.std.proofs.Common.{◌≡◌, cond, ℕ, ◌<◌, ◌≤◌, Bool, true, false, ◌&&◌, List, [], ◌∷◌, length, Option, Some, None, Result, Ok, Err, refl, sym, ap, ◌∙◌, arith}
use Rattle.std.specs.Prelude.{nat_le, nat_lt, not, codes, ◌||◌}
use Rattle.std.proofs.Math.Dec.{eqb}
use Rattle.std.proofs.Common.{inl, inr}
use Rattle.std.specs.List.{list_all, list_any, filter, find, count_by}
use Rattle.std.specs.Char.{is_ascii_digit}
use Rattle.std.specs.Str.Parse.{digits_value}
use Rattle.std.proofs.lemmas.List.{length-map}
use Rattle.std.proofs.lemmas.List.Sums.{length-filter}
use Rattle.std.proofs.lemmas.Bool.Decides.{nat_tests}
use Rattle.httparse.specs.Grammar.{RequestHead, ReadsRequest}
use Rattle.http_edge.specs.declared.field.Field.{Field}
use Rattle.http_edge.specs.declared.item.Head.{Head}
use Rattle.http_edge.specs.declared.item.FramingFault.{FramingFault}
use Rattle.http_edge.specs.declared.item.FramingFault.TheVariants.{BadHead, BadHost, TransferCoding, BadLength, TooLong}
use Rattle.http_edge.specs.declared.verdict.Awaited.{Awaited}
use Rattle.http_edge.specs.declared.verdict.Verdict.{Verdict}
use Rattle.http_edge.specs.declared.verdict.Verdict.TheVariants.{Taken, InChunks, Refused}
use Rattle.http_edge.specs.declared.verdict.Chunked.{Chunked}
use Rattle.http_edge.specs.Block.{head_of}
use Rattle.octets.specs.Case.{eq_ignore_case}
use Rattle.http_edge.specs.Judge.{field_of, head_parts, has_good_hosts, count_named, is_head_request, is_length, is_coding, most_body_bytes, length_of, length_by, body_length, Framing, counted, chunked, framing_by_length, framing_by_coding, framing_by, body_framing, with_framing, head_verdict, verdict_of, within_limit, block_verdict, request, request_of}
use Rattle.http_edge.specs.Read.{IsItemRead}
use Rattle.http_edge.proofs.BlockLemmas.{head_of_reads}

length_short : (value : List ℕ) (n : ℕ) → length_of value ≡ Ok n → n ≤ most_body_bytes
unfolding length_of
length_short value n e = go (not (nat_lt 0 (length value) && list_all is_ascii_digit value)) (nat_le (digits_value 10 value) most_body_bytes) refl e
  where
    go : (t u : Bool) → nat_le (digits_value 10 value) most_body_bytes ≡ u
        → ◌≡◌ {A = Result ℕ FramingFault} (cond t (Err BadLength) (cond u (Ok (digits_value 10 value)) (Err TooLong))) (Ok n) → n ≤ most_body_bytes
    go true u f e = absurd (cc)
    go false true f e = let is : digits_value 10 value ≡ n = cc in grind (arith, nat_tests)
    go false false f e = absurd (cc)

by_short : (fields : List Field) (n : ℕ) → length_by fields ≡ Ok n → n ≤ most_body_bytes
by_short [] n e = let is : 0 ≡ n = cc in omega arith
by_short (f ∷ []) n e = length_short f.value n e
by_short (f ∷ g ∷ fields) n e = absurd (cc)

-- the first element, if there is one
abbrev first_of : {A : Type 0} → List A → Option A
first_of [] = None
first_of (x ∷ xs) = Some x

find_first : {A : Type 0} (p : A → Bool) (xs : List A) → find p xs ≡ first_of (filter p xs)
find_first p [] = refl
find_first p (x ∷ xs) = elim (p x) as (λ v. cond v (Some x) (find p xs) ≡ first_of (cond v (x ∷ filter p xs) (filter p xs))) [
  | true ↦ refl
  | false ↦ find_first p xs
]

-- several Content-Length fields, none, and one
pub several_lengths : (fields : List Field) → 1 < count_by is_length fields → body_length fields ≡ Err BadLength
unfolding body_length
several_lengths fields many = go (filter is_length fields) (let size = length-filter is_length fields in omega arith)
  where
    go : (l : List Field) → 1 < length l → length_by l ≡ Err BadLength
    go [] long = absurd (omega arith)
    go (f ∷ []) long = absurd (omega arith)
    go (f ∷ g ∷ l) long = refl

pub no_length : (fields : List Field) → find is_length fields ≡ None → body_length fields ≡ Ok 0
unfolding body_length
no_length fields none = go (filter is_length fields) (sym (find_first is_length fields) ∙ none)
  where
    go : (l : List Field) → first_of l ≡ None → length_by l ≡ Ok 0
    go [] e = refl
    go (f ∷ l) e = absurd (cc)

pub one_length : (fields : List Field) (f : Field) → count_by is_length fields ≤ 1 → find is_length fields ≡ Some f
    → body_length fields ≡ length_of f.value
unfolding body_length
one_length fields f few some = go (filter is_length fields) (let size = length-filter is_length fields in omega arith) (sym (find_first is_length fields) ∙ some)
  where
    go : (l : List Field) → length l ≤ 1 → first_of l ≡ Some f → length_by l ≡ length_of f.value
    go [] short e = absurd (cc)
    go (g ∷ []) short e = let same : g ≡ f = cc in ap (λ (x : Field). length_of x.value) same
    go (g ∷ h ∷ l) short e = absurd (omega arith)

body_short : (fields : List Field) (n : ℕ) → body_length fields ≡ Ok n → n ≤ most_body_bytes
unfolding body_length
body_short fields n e = by_short _ n e

-- several codings, none, and one
pub several_codings : (minor : ℕ) (fields : List Field) → 1 < count_by is_coding fields → body_framing minor fields ≡ Err TransferCoding
unfolding body_framing
several_codings minor fields many = go (filter is_coding fields) (let size = length-filter is_coding fields in omega arith)
  where
    go : (l : List Field) → 1 < length l → framing_by l minor fields ≡ Err TransferCoding
    go [] long = absurd (omega arith)
    go (f ∷ []) long = absurd (omega arith)
    go (f ∷ g ∷ l) long = refl

pub no_coding : (minor : ℕ) (fields : List Field) → find is_coding fields ≡ None → body_framing minor fields ≡ framing_by_length (body_length fields)
unfolding body_framing
no_coding minor fields none = go (filter is_coding fields) (sym (find_first is_coding fields) ∙ none)
  where
    go : (l : List Field) → first_of l ≡ None → framing_by l minor fields ≡ framing_by_length (body_length fields)
    go [] e = refl
    go (f ∷ l) e = absurd (cc)

pub one_coding : (minor : ℕ) (fields : List Field) (f : Field) → count_by is_coding fields ≤ 1 → find is_coding fields ≡ Some f
    → body_framing minor fields ≡ framing_by_coding (eq_ignore_case f.value (codes "chunked")) (eqb minor 0 || list_any is_length fields)
unfolding body_framing
one_coding minor fields f few some = go (filter is_coding fields) (let size = length-filter is_coding fields in omega arith) (sym (find_first is_coding fields) ∙ some)
  where
    go : (l : List Field) → length l ≤ 1 → first_of l ≡ Some f
        → framing_by l minor fields ≡ framing_by_coding (eq_ignore_case f.value (codes "chunked")) (eqb minor 0 || list_any is_length fields)
    go [] short e = absurd (cc)
    go (g ∷ []) short e = let same : g ≡ f = cc in
        ap (λ (x : Field). framing_by_coding (eq_ignore_case x.value (codes "chunked")) (eqb minor 0 || list_any is_length fields)) same
    go (g ∷ h ∷ l) short e = absurd (omega arith)

framing_counted : (minor : ℕ) (fields : List Field) (n : ℕ) → body_framing minor fields ≡ Ok (counted n) → n ≤ most_body_bytes
unfolding body_framing
framing_counted minor fields n e = go (filter is_coding fields) e
  where
    by : (o : Result ℕ FramingFault) → body_length fields ≡ o → framing_by_length o ≡ Ok (counted n) → n ≤ most_body_bytes
    by (Err x) f e = absurd (cc)
    by (Ok m) f e = let same : m ≡ n = cc in body_short fields n (f ∙ ap Ok same)

    one : (t u : Bool) → cond (not t) (Err TransferCoding) (cond u (Err BadLength) (Ok chunked)) ≡ Ok (counted n) → n ≤ most_body_bytes
    one true true e = absurd (cc)
    one true false e = absurd (cc)
    one false u e = absurd (cc)

    go : (l : List Field) → framing_by l minor fields ≡ Ok (counted n) → n ≤ most_body_bytes
    go [] e = by (body_length fields) refl e
    go (f ∷ []) e = one (eq_ignore_case f.value (codes "chunked")) (eqb minor 0 || list_any is_length fields) e
    go (f ∷ g ∷ l) e = absurd (cc)

head_is_taken : (h : Head) (minor : ℕ) (a : Awaited) → head_verdict h minor ≡ Taken a → (h ≡ a.head) × (body_framing minor h.fields ≡ Ok (counted a.length))
unfolding head_verdict
head_is_taken h minor a e = go (not (has_good_hosts minor (count_named (codes "host") h.fields))) (body_framing minor h.fields) refl e
  where
    go : (t : Bool) (o : Result Framing FramingFault) → body_framing minor h.fields ≡ o
        → cond t (Refused BadHost (is_head_request h)) (with_framing h minor o) ≡ Taken a
        → (h ≡ a.head) × (body_framing minor h.fields ≡ Ok (counted a.length))
    go true o f e = absurd (cc)
    go false (Err x) f e = absurd (cc)
    go false (Ok chunked) f e = absurd (cc)
    go false (Ok (counted n)) f e = ((let head : h ≡ a.head = cc in head), f ∙ (let size : n ≡ a.length = cc in ap (λ (m : ℕ). Ok (counted m)) size))

head_is_in_chunks : (h : Head) (minor : ℕ) (a : Chunked) → head_verdict h minor ≡ InChunks a → (h ≡ a.head) × (body_framing minor h.fields ≡ Ok chunked)
unfolding head_verdict
head_is_in_chunks h minor a e = go (not (has_good_hosts minor (count_named (codes "host") h.fields))) (body_framing minor h.fields) refl e
  where
    go : (t : Bool) (o : Result Framing FramingFault) → body_framing minor h.fields ≡ o
        → cond t (Refused BadHost (is_head_request h)) (with_framing h minor o) ≡ InChunks a
        → (h ≡ a.head) × (body_framing minor h.fields ≡ Ok chunked)
    go true o f e = absurd (cc)
    go false (Err x) f e = absurd (cc)
    go false (Ok (counted n)) f e = absurd (cc)
    go false (Ok chunked) f e = ((let head : h ≡ a.head = cc in head), f)

-- a head that was read from a block, with this framing
pub record IsHeadOf (given : Head) (framing : Framing) : Type 0 where
  pub block : List ℕ
  pub head : RequestHead
  pub reads : ReadsRequest block head []
  pub parts : given ≡ head_parts head
  pub few : length given.fields ≤ 64
  pub says : body_framing head.minor given.fields ≡ Ok framing

head_is : (block : List ℕ) (h : RequestHead) (given : Head) (framing : Framing) → head_of block ≡ Some h → length h.fields ≤ 64
    → (head_parts h ≡ given) × (body_framing h.minor (head_parts h).fields ≡ Ok framing) → IsHeadOf given framing
head_is block h given framing f few is =
    let size : length (head_parts h).fields ≡ length h.fields = length-map h.fields field_of in
    let same : length (head_parts h).fields ≡ length given.fields = ap (λ (x : Head). length x.fields) is.0 in
    record {
      block = block;
      head = h;
      reads = head_of_reads block h f;
      parts = sym is.0;
      few = omega arith;
      says = ap (λ (x : Head). body_framing h.minor x.fields) (sym is.0) ∙ is.1;
    }

pub block_is_head : (block : List ℕ) (v : Verdict) (given : Head) (framing : Framing) → block_verdict block ≡ v
    → ((h : Head) (minor : ℕ) → head_verdict h minor ≡ v → (h ≡ given) × (body_framing minor h.fields ≡ Ok framing))
    → (Refused BadHead false ≡ v → ⊥) → IsHeadOf given framing
unfolding block_verdict
block_is_head block v given framing e by other = go (head_of block) refl e
  where
    fit : (h : RequestHead) (b : Bool) → nat_le (length h.fields) 64 ≡ b → head_of block ≡ Some h
        → verdict_of (cond b (Some (head_parts h, h.minor)) None) ≡ v → IsHeadOf given framing
    fit h true test f e = head_is block h given framing f (grind (arith, nat_tests)) (by (head_parts h) h.minor e)
    fit h false test f e = absurd (other e)

    go : (o : Option RequestHead) → head_of block ≡ o → verdict_of (within_limit o) ≡ v → IsHeadOf given framing
    go None f e = absurd (other e)
    go (Some h) f e = fit h (nat_le (length h.fields) 64) refl f e

-- a request whose head was read from a block
pub record IsTaken (a : Awaited) : Type 0 where
  pub of : IsHeadOf a.head (counted a.length)
  pub short : a.length ≤ most_body_bytes

pub block_is_taken : (block : List ℕ) (a : Awaited) → block_verdict block ≡ Taken a → IsTaken a
block_is_taken block a e =
    let of : IsHeadOf a.head (counted a.length) = block_is_head block (Taken a) a.head (counted a.length) e (λ h minor k. head_is_taken h minor a k) (λ k. cc) in
    record { of = of; short = framing_counted of.head.minor a.head.fields a.length of.says }

pub block_is_in_chunks : (block : List ℕ) (a : Chunked) → block_verdict block ≡ InChunks a → IsHeadOf a.head chunked
block_is_in_chunks block a e = block_is_head block (InChunks a) a.head chunked e (λ h minor k. head_is_in_chunks h minor a k) (λ k. cc)

-- with a body as long as it says
pub taken_read : (a : Awaited) (body : List ℕ) → IsTaken a → length body ≡ a.length → IsItemRead (request a body)
taken_read a body t e = (
  t.of.block,
  t.of.head,
  t.of.reads,
  t.of.parts,
  t.of.few,
  (let short = t.short in omega arith),
  inl (t.of.says ∙ ap (λ (n : ℕ). Ok (counted n)) (sym e)),
)

-- with a body of chunks
pub chunks_read : (a : Chunked) (body : List ℕ) → IsHeadOf a.head chunked → length body ≤ most_body_bytes → IsItemRead (request_of a body)
chunks_read a body t short = (t.block, t.head, t.reads, t.parts, t.few, short, inr t.says)
