-- A request head of the grammar, at the front of a connection's bytes, is one head block of them.
use Rattle.std.proofs.Common.{◌≡◌, ℕ, ◌+◌, ◌<◌, ◌≤◌, ◌&&◌, true, false, cond, List, [], ◌∷◌, ◌++◌, length, Some, refl, sym, ap, ◌∙◌, arith, append_assoc, append-nil, length-append}
use Rattle.std.proofs.Math.Seq.{drop-length, take-length, drop-append_seam}
use Rattle.std.specs.Prelude.{nat_lt}
use Rattle.std.specs.List.{All, flat_map}
use Rattle.std.specs.Option.{option_map}
use Rattle.std.proofs.Math.Dec.{eqb}
use Rattle.std.proofs.lemmas.Bool.Decides.{nat_tests}
use Rattle.std.proofs.lemmas.List.Elements.{All-head, All-tail}
use Rattle.httparse.specs.Grammar.{LineEnd, crlf, lf, print_end, Field, print_field, IsField, print_section, RequestHead, IsRequestHead, print_request}
use Rattle.http_edge.specs.Judge.{within_limit, verdict_of, block_verdict, request, request_of, is_head_request, most_body_bytes}
use Rattle.http_edge.specs.Frame.{empty_line_length, head_length, most_head_bytes, frame}
use Rattle.http_edge.specs.Chunks.{ChunkedBody, print_body, IsChunkedBody, content_of}
use Rattle.http_edge.specs.Limit.{PassesLimit}
use Rattle.http_edge.specs.Places.{whole, line_start}
use Rattle.http_edge.specs.FramingState.{body_of, chunks_of, frame_from, frame_read, frame_after}
use Rattle.http_edge.specs.declared.item.FramingFault.TheVariants.{TooLong}
use Rattle.http_edge.specs.declared.item.Item.TheVariants.{Fault}
use Rattle.http_edge.specs.declared.verdict.Awaited.{Awaited}
use Rattle.http_edge.specs.declared.verdict.Chunked.{Chunked}
use Rattle.http_edge.proofs.BlockLemmas.{IsNot, field_text, field_line, text_no, start_text, start_no, regrouped, lf_no_token, cr_no_token, head_of_finds}
use Rattle.http_edge.proofs.ChunkLemmas.{body_is_read}
use Rattle.http_edge.proofs.LimitLemmas.{passing_is_refused}
use Rattle.http_edge.proofs.FrameLemmas.{line_begins, ends_block, not_ends, skip_lf, skip_crlf, frame_skips, whole_items}
use Rattle.http_edge.proofs.LineLemmas.{IsBlock, whole_block}

-- a byte that is neither LF nor CR begins no empty line
begins_none : (b : ℕ) (s : List ℕ) → eqb b 10 ≡ false → eqb b 13 ≡ false → empty_line_length (b ∷ s) ≡ 0
begins_none b [] no_lf no_cr = rw no_lf refl
begins_none b (c ∷ s) no_lf no_cr = rw (no_lf, no_cr) refl

text_begins : (text s : List ℕ) → 0 < length text → All (IsNot 10) text → All (IsNot 13) text → empty_line_length (text ++ s) ≡ 0
text_begins [] s some no_lf no_cr = absurd (omega arith)
text_begins (b ∷ text) s some no_lf no_cr = begins_none b (text ++ s) (All-head (IsNot 10) b text no_lf) (All-head (IsNot 13) b text no_cr)

-- bytes without an LF go before a block
text_before : (text s : List ℕ) (n : ℕ) → All (IsNot 10) text → head_length s ≡ Some n → head_length (text ++ s) ≡ Some (length text + n)
text_before [] s n no_lf e = e ∙ ap Some (omega arith)
text_before (b ∷ text) s n no_lf e =
    let head : eqb b 10 ≡ false = All-head (IsNot 10) b text no_lf in
    let more = text_before text s n (All-tail (IsNot 10) b text no_lf) e in
    rw (head, more) (ap Some (omega arith))

-- and so does the end of a line
end_before : (end : LineEnd) (s : List ℕ) (n : ℕ) → head_length (10 ∷ s) ≡ Some (1 + n) → head_length (print_end end ++ s) ≡ Some (length (print_end end) + n)
end_before lf s n e = e
end_before crlf s n e = ap (option_map (λ (k : ℕ). 1 + k)) e ∙ ap Some (omega arith)

last_line : (last : LineEnd) (more : List ℕ) → empty_line_length (print_end last ++ more) ≡ length (print_end last)
last_line lf more = line_begins more
last_line crlf more = refl

some_end : (last : LineEnd) → 0 < length (print_end last)
some_end lf = omega arith
some_end crlf = omega arith

some_text : (f : Field) → IsField f → 0 < length (field_text f)
unfolding field_text
some_text f h = let some : 0 < length f.name = h.name.0 in omega (arith, length-append f.name (58 ∷ f.raw))

print_length : (f : Field) → length (print_field f) ≡ length (field_text f) + length (print_end f.end)
unfolding field_text
print_length f = length-append (f.name ++ 58 ∷ f.raw) (print_end f.end)

-- a line's LF, the field lines and the empty line
section_block : (fields : List Field) (last : LineEnd) (more : List ℕ) → All IsField fields
    → head_length (10 ∷ (print_section fields last ++ more)) ≡ Some (1 + length (print_section fields last))
section_block [] last more all =
    let here = last_line last more in
    let test : ends_block 10 (print_end last ++ more) ≡ true = positive (empty_line_length (print_end last ++ more)) (let some = some_end last in omega arith) in
    rw test (ap (λ (n : ℕ). Some (1 + n)) here)
  where
    positive : (n : ℕ) → 0 < n → (true && nat_lt 0 n) ≡ true
    positive n h = grind (arith, nat_tests)
section_block (f ∷ fields) last more all =
    let valid : IsField f = All-head IsField f fields all in
    let no_lf = text_no 10 lf_no_token refl refl f valid in
    let no_cr = text_no 13 cr_no_token refl refl f valid in
    let behind = print_section fields last ++ more in
    let next : head_length (10 ∷ behind) ≡ Some (1 + length (print_section fields last)) = section_block fields last more (All-tail IsField f fields all) in
    let line : head_length (field_text f ++ (print_end f.end ++ behind)) ≡ Some (length (field_text f) + (length (print_end f.end) + length (print_section fields last)))
    = text_before (field_text f) (print_end f.end ++ behind) _ no_lf (end_before f.end behind _ next) in
    let text : print_section (f ∷ fields) last ++ more ≡ field_text f ++ (print_end f.end ++ behind)
    = append_assoc (print_field f ++ flat_map print_field fields) (print_end last) more
    ∙ append_assoc (print_field f) (flat_map print_field fields) (print_end last ++ more)
    ∙ ap (λ (x : List ℕ). print_field f ++ x) (sym (append_assoc (flat_map print_field fields) (print_end last) more))
    ∙ field_line f behind in
    let test : ends_block 10 (field_text f ++ (print_end f.end ++ behind)) ≡ false
    = not_ends 10 (field_text f ++ (print_end f.end ++ behind)) (λ _. text_begins (field_text f) (print_end f.end ++ behind) (some_text f valid) no_lf no_cr) in
    let size : length (print_section (f ∷ fields) last) ≡ length (print_field f) + length (print_section fields last)
    = ap length (append_assoc (print_field f) (flat_map print_field fields) (print_end last)) ∙ length-append (print_field f) (print_section fields last) in
    let printed = print_length f in
    ap (λ (x : List ℕ). head_length (10 ∷ x)) text ∙ rw (test, line) (ap Some (omega arith))

some_start : (h : RequestHead) → IsRequestHead h → 0 < length (start_text h)
unfolding start_text
some_start h v = let some : 0 < length h.method = v.method.0 in omega (arith, length-append {A = ℕ} h.method)

head_block : (h : RequestHead) → IsRequestHead h → h.blank ≡ [] → IsBlock (print_request h)
head_block h v blank =
    let bound : h.minor ≤ 1 = v.minor in
    let digit10 : eqb (48 + h.minor) 10 ≡ false = grind (arith, nat_tests) in
    let digit13 : eqb (48 + h.minor) 13 ≡ false = grind (arith, nat_tests) in
    let no_lf = start_no 10 lf_no_token refl refl refl h v digit10 in
    let no_cr = start_no 13 cr_no_token refl refl refl h v digit13 in
    let section = print_section h.fields h.last in
    let text : print_request h ≡ start_text h ++ (print_end h.line_end ++ section) = regrouped h ∙ rw blank refl in
    let split : (more : List ℕ) → print_request h ++ more ≡ start_text h ++ (print_end h.line_end ++ (section ++ more))
    = λ more. ap (λ (x : List ℕ). x ++ more) text ∙ append_assoc (start_text h) (print_end h.line_end ++ section) more
    ∙ ap (λ (x : List ℕ). start_text h ++ x) (append_assoc (print_end h.line_end) section more) in
    let size : length (print_request h) ≡ length (start_text h) + (length (print_end h.line_end) + length section)
    = ap length text ∙ length-append (start_text h) (print_end h.line_end ++ section)
    ∙ ap (λ (n : ℕ). length (start_text h) + n) (length-append (print_end h.line_end) section) in
    record {
      no_blank = λ more. ap empty_line_length (split more)
          ∙ text_begins (start_text h) (print_end h.line_end ++ (section ++ more)) (some_start h v) no_lf no_cr;
      block = λ more. ap head_length (split more)
          ∙ text_before (start_text h) (print_end h.line_end ++ (section ++ more)) _ no_lf
          (end_before h.line_end (section ++ more) _ (section_block h.fields h.last more v.fields))
          ∙ ap Some (sym size);
    }

-- a string that begins with a request head is framed by what that head comes to, and then by what follows it
pub head_first : (h : RequestHead) (more : List ℕ) → IsRequestHead h → h.blank ≡ [] → length (print_request h) ≤ most_head_bytes
    → frame (print_request h ++ more) ≡ frame_after (block_verdict (print_request h)) more
head_first h more v blank fits = (whole_block (print_request h) (head_block h v blank) fits).items more

-- a head block is judged as the head that it is
pub head_block_verdict : (h : RequestHead) → IsRequestHead h → block_verdict (print_request h) ≡ verdict_of (within_limit (Some h))
unfolding block_verdict
head_block_verdict h v = ap (λ x. verdict_of (within_limit x)) (head_of_finds (print_request h) h (v, sym (append-nil (print_request h))))

-- an empty line at the front is dropped
pub blank_first : (end : LineEnd) (more : List ℕ) → frame (print_end end ++ more) ≡ frame more
blank_first lf more = frame_skips (10 ∷ more) more (skip_lf more)
blank_first crlf more = frame_skips (13 ∷ 10 ∷ more) more (skip_crlf more)

-- a request's body is the next bytes
pub body_first : (a : Awaited) (body more : List ℕ) → length body ≡ a.length
    → frame_from (body_of a []) (body ++ more) ≡ request a body ∷ cond a.close [] (frame more)
body_first a body more size = whole_items a body more (omega arith) ∙ rw (sym size, take-length body, drop-length body) refl

-- a chunked body of the grammar
after_whole : (a : Chunked) (t content more : List ℕ)
    → frame_read a (t ++ more) (whole content (length t)) ≡ request_of a content ∷ cond a.close [] (frame more)
after_whole a t content more = rw (drop-append_seam t more) refl

pub chunks_first : (a : Chunked) (body : ChunkedBody) (more : List ℕ) → IsChunkedBody body → length (content_of body.chunks) ≤ most_body_bytes
    → frame_from (chunks_of a [] line_start) (print_body body ++ more) ≡ request_of a (content_of body.chunks) ∷ cond a.close [] (frame more)
chunks_first a body more is fits =
    ap (frame_read a (print_body body ++ more)) (body_is_read body more is fits) ∙ after_whole a (print_body body) (content_of body.chunks) more

-- one that passes the limit
pub limit_first : (a : Chunked) (text more : List ℕ) → PassesLimit text
    → frame_from (chunks_of a [] line_start) (text ++ more) ≡ Fault TooLong (is_head_request a.head) ∷ []
limit_first a text more h = ap (frame_read a (text ++ more)) (passing_is_refused text more h)
