-- Texts, and ends of lines.
use Rattle.std.proofs.Common.{◌≡◌, ◌≢◌, ◌<◌, ◌≤◌, ◌+◌, ℕ, Bool, true, false, cond, eqb, ltb, List, [], ◌∷◌, ◌++◌, length, Result, Ok, Err, refl, sym, ap, subst, ◌∙◌, append_assoc, arith}
use Rattle.std.specs.List.{AllByRecursion}
use Rattle.std.proofs.lemmas.Bool.{eqb-false, ne_eqb, ltb-true, lt-ltb}
use Rattle.std.proofs.lemmas.List.{append-nil, length-append}
use Rattle.resp.specs.declared.fault.Wrong.{Wrong}
use Rattle.resp.specs.declared.fault.Wrong.TheVariants.{Malformed, TooLarge}
use Rattle.resp.specs.declared.limits.Limits.{Limits}
use Rattle.resp.specs.Command.{line_end}
use Rattle.resp.specs.Spelled.{IsText}
use Rattle.resp.specs.Reading.{byte_at, only, text_step, text_at, line_end_at}
use Rattle.resp.proofs.Readers.{Reads, reads-same, IsByte, reads-byte, Then, reads-then}
use Rattle.resp.proofs.Spans.{Runs, IsSpan, reads-span, only_is}

-- the end of a line
abbrev pub IsEnd : ℕ → List ℕ → Type 0
IsEnd n bytes = (n ≡ 10) × (bytes ≡ line_end)

end-to : (n : ℕ) (bytes : List ℕ) → Then (IsByte (only 13)) (λ _. IsByte (only 10)) n bytes → IsEnd n bytes
end-to n bytes s =
    let cr : s.first.0 ≡ 13 = only_is 13 s.first.0 s.value s.first.1 in
    let lf : s.second.0 ≡ 10 = only_is 10 s.second.0 n s.second.1 in
    let n-is : n ≡ s.second.0 = got_is 10 s.second.0 n s.second.1 in
    (n-is ∙ lf, s.parts ∙ ap (λ (t : List ℕ). t ++ s.back) (s.first.2 ∙ ap (λ (c : ℕ). c ∷ []) cr) ∙ ap (λ (t : List ℕ). 13 ∷ t) (s.second.2 ∙ ap (λ (c : ℕ). c ∷ []) lf))
  where
    passed : (b : Bool) (c got : ℕ) → ◌≡◌ {A = Result ℕ Wrong} (cond b (Ok c) (Err Malformed)) (Ok got) → got ≡ c
    passed true c got h = cc
    passed false c got h = absurd cc

    got_is : (wanted c got : ℕ) → only wanted c ≡ Ok got → got ≡ c
    got_is wanted c got e = passed (eqb c wanted) c got e

end-from : (n : ℕ) (bytes : List ℕ) → IsEnd n bytes → Then (IsByte (only 13)) (λ _. IsByte (only 10)) n bytes
end-from n bytes s = record {
  value = 13;
  front = 13 ∷ [];
  back = 10 ∷ [];
  first = (13, refl, refl);
  second = (10, ap ok (sym s.0), refl);
  parts = s.1;
}
  where
    ok : ℕ → Result ℕ Wrong
    ok n = Ok n

pub reads-end : Reads IsEnd line_end_at
unfolding line_end_at
reads-end = reads-same (Then (IsByte (only 13)) (λ _. IsByte (only 10))) IsEnd line_end_at end-to end-from
    (reads-then (IsByte (only 13)) (λ _. IsByte (only 10)) (byte_at (only 13)) (λ _. byte_at (only 10))
    (reads-byte (only 13) 13 13 refl) (λ _. reads-byte (only 10) 10 10 refl))

-- a text, and the end of its line
abbrev pub IsLineText : Limits → List ℕ → List ℕ → Type 0
IsLineText limits text bytes = IsText limits text × (bytes ≡ text ++ line_end)

record Stepped (limits : Limits) (text : List ℕ) (c : ℕ) (next : List ℕ) : Type 0 where
  no_lf : c ≢ 10
  room : length text < limits.line
  next-is : next ≡ text ++ c ∷ []

text_stepped : (limits : Limits) (text : List ℕ) (c : ℕ) (next : List ℕ) → text_step limits text c ≡ Ok next → Stepped limits text c next
text_stepped limits text c next e = go (eqb c 10) (ltb (length text) limits.line) refl refl e
  where
    go : (a b : Bool) → eqb c 10 ≡ a → ltb (length text) limits.line ≡ b → ◌≡◌ {A = Result (List ℕ) Wrong} (cond a (Err Malformed) (cond b (Ok (text ++ c ∷ [])) (Err TooLarge))) (Ok next) → Stepped limits text c next
    go true b p q h = absurd cc
    go false true p q h = record { no_lf = eqb-false c 10 p; room = ltb-true _ _ q; next-is = cc }
    go false false p q h = absurd cc

text_steps : (limits : Limits) (text : List ℕ) (c : ℕ) → c ≢ 10 → length text < limits.line → text_step limits text c ≡ Ok (text ++ c ∷ [])
text_steps limits text c no_lf room = rw (ne_eqb c 10 no_lf, lt-ltb (length text) limits.line room) refl

text-runs : (limits : Limits) (before text after : List ℕ) → length before ≤ limits.line → Runs (text_step limits) before text after → AllByRecursion (λ c. (c ≢ 13) × (c ≢ 10)) text × (length before + length text ≤ limits.line) × (after ≡ before ++ text)
text-runs limits before [] after short r = (tt, omega arith, sym r ∙ sym (append-nil before))
text-runs limits before (c ∷ cs) after short r =
    let s = text_stepped limits before c r.1 r.2 in
    let length-is : length r.1 ≡ length before + 1 = ap length s.next-is ∙ length-append before (c ∷ []) in
    let ih = text-runs limits r.1 cs after (omega (arith, length-is, s.room)) r.3 in
    (((eqb-false c 13 r.0, s.no_lf), ih.0), omega (arith, length-is, ih.1), ih.2 ∙ ap (λ (t : List ℕ). t ++ cs) s.next-is ∙ append_assoc before (c ∷ []) cs)

runs-text : (limits : Limits) (before text : List ℕ) → AllByRecursion (λ c. (c ≢ 13) × (c ≢ 10)) text → length before + length text ≤ limits.line → Runs (text_step limits) before text (before ++ text)
runs-text limits before [] all short = sym (append-nil before)
runs-text limits before (c ∷ cs) all short =
    let next = before ++ c ∷ [] in
    let length-is : length next ≡ length before + 1 = length-append before (c ∷ []) in (
      ne_eqb c 13 all.0.0,
      next,
      text_steps limits before c all.0.1 (omega (arith, short)),
      subst (λ t. Runs (text_step limits) next cs t) (append_assoc before (c ∷ []) cs) (runs-text limits next cs all.1 (omega (arith, length-is, short))),
    )

text-to : (limits : Limits) (text bytes : List ℕ) → IsSpan (text_step limits) [] text bytes → IsLineText limits text bytes
text-to limits text bytes s =
    let r = text-runs limits [] s.0 text (omega arith) s.1 in
    subst (λ t. IsLineText limits t bytes) (sym r.2) ((r.0, omega (arith, r.1)), s.2)

text-from : (limits : Limits) (text bytes : List ℕ) → IsLineText limits text bytes → IsSpan (text_step limits) [] text bytes
text-from limits text bytes s = (text, runs-text limits [] text s.0.0 (omega (arith, s.0.1)), s.1)

pub reads-text : (limits : Limits) → Reads (IsLineText limits) (text_at limits)
unfolding text_at
reads-text limits = reads-same (IsSpan (text_step limits) []) (IsLineText limits) (text_at limits) (text-to limits) (text-from limits) (reads-span (text_step limits) [])
