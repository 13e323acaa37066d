-- What httparse's answers say of a whole block.
use Rattle.std.proofs.Common.{◌≡◌, ℕ, ◌-◌, ◌≤◌, true, false, List, [], ◌∷◌, ◌++◌, length, take, drop, map, Option, Some, None, refl, sym, ap, ◌∙◌, arith, length-drop, length-take-le}
use Rattle.std.proofs.lemmas.List.{drop_all, length-map}
use Rattle.std.specs.Prelude.{nat_le}
use Rattle.std.proofs.lemmas.Bool.Decides.{nat_tests}
use Rattle.httparse.specs.declared.spans.HeaderSpan.{HeaderSpan}
use Rattle.httparse.specs.declared.spans.RequestSpans.{RequestSpans}
use Rattle.http_edge.specs.declared.field.Field as declared
use Rattle.httparse.specs.Grammar.{Field, RequestHead, print_request, ReadsRequest}
use Rattle.httparse.specs.Spans.{span_bytes, header_bytes, name_and_value, IsRequestWithin, IsRequestOf}
use Rattle.httparse.proofs.GrammarLemmas.{request_unique}
use Rattle.http_edge.specs.Block.{head_of}
use Rattle.http_edge.specs.Judge.{field_from, field_of, within_limit}
use Rattle.http_edge.proofs.BlockLemmas.{head_of_reads, head_of_finds}

none_from : {A : Type 0} (o : Option A) → ((x : A) → o ≡ Some x → ⊥) → o ≡ None
none_from None none = refl
none_from (Some x) none = absurd (none x refl)

-- no head that fits the room
pub refused_is : (block : List ℕ)
    → ((h : RequestHead) (rest : List ℕ) → ReadsRequest block h rest → length h.fields ≤ 64 → ⊥)
    → within_limit (head_of block) ≡ None
refused_is block none = go (head_of block) refl
  where
    go : (o : Option RequestHead) → head_of block ≡ o → within_limit o ≡ None
    go None e = refl
    go (Some h) e =
        let long : nat_le (length h.fields) 64 ≡ false = small (length h.fields) (none h [] (head_of_reads block h e)) in
        rw long refl
      where
        small : (n : ℕ) → (n ≤ 64 → ⊥) → nat_le n 64 ≡ false
        small n h = grind (arith, nat_tests)

-- a head that ends before the block does
pub shorter_is : (block : List ℕ) (headers : List HeaderSpan) (r : RequestSpans) → r.len ≤ length block
    → (r.len ≡ length block → ⊥) → IsRequestOf block headers r → within_limit (head_of block) ≡ None
shorter_is block headers r short other found = ap within_limit (none_from (head_of block) (λ h e.
    let same = request_unique block found.0 h (drop r.len block) [] found.1.reads (head_of_reads block h e) in
    let empty : length (drop r.len block) ≡ 0 = ap length same.1 in
    let size : length (drop r.len block) ≡ length block - r.len = length-drop r.len block in
    let all : r.len ≡ length block = omega arith in
    other all))

fields_again : (fields : List Field) → map field_from (map name_and_value fields) ≡ map field_of fields
fields_again [] = refl
fields_again (f ∷ fields) = ap (λ (x : List declared.Field). field_of f ∷ x) (fields_again fields)

-- a head that is the whole block
pub whole_is : (block : List ℕ) (headers : List HeaderSpan) (r : RequestSpans) → IsRequestWithin block headers r
    → length headers ≤ 64 → r.len ≡ length block → IsRequestOf block headers r
    → within_limit (head_of block) ≡ Some (
      record {
        method = span_bytes block r.method;
        target = span_bytes block r.path;
        fields = map field_from (map (header_bytes block) (take r.headers headers));
      },
      r.version,
    )
whole_is block headers r within room whole found =
    let h = found.0 in
    let a = found.1 in
    let none_left : drop r.len block ≡ [] = drop_all r.len block (omega arith) in
    let reads : ReadsRequest block h [] = (a.reads.0, a.reads.1 ∙ ap (λ (t : List ℕ). print_request h ++ t) none_left) in
    let known : head_of block ≡ Some h = head_of_finds block h reads in
    let names : length (take r.headers headers) ≡ length h.fields
    = sym (length-map (take r.headers headers) (header_bytes block)) ∙ ap length a.fields ∙ length-map h.fields name_and_value in
    let taken : length (take r.headers headers) ≡ r.headers = length-take-le r.headers headers within.section.count_fits in
    let count : r.headers ≤ length headers = within.section.count_fits in
    let fits : length h.fields ≤ 64 = omega arith in
    let test : nat_le (length h.fields) 64 ≡ true = small (length h.fields) fits in
    rw (known, test, a.method, a.path, a.version, a.fields, fields_again h.fields) refl
  where
    small : (n : ℕ) → n ≤ 64 → nat_le n 64 ≡ true
    small n h = grind (arith, nat_tests)
