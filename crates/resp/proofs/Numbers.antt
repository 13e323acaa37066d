-- Numbers.
use Rattle.std.proofs.Common.{◌≡◌, ◌<◌, ◌≤◌, ◌+◌, ◌*◌, ℕ, Bool, true, false, cond, eqb, ltb, leb, ◌&&◌, List, [], ◌∷◌, ◌++◌, length, Result, Ok, Err, refl, sym, ap, subst, ◌∙◌, arith}
use Rattle.std.specs.Char.{digit_value}
use Rattle.std.specs.Str.Parse.{AllDigits, digits_value_after}
use Rattle.std.proofs.lemmas.List.{append-nil}
use Rattle.std.proofs.lemmas.Bool.{ne_eqb, ltb-true, leb-true, lt-ltb, le-leb}
use Rattle.resp.specs.declared.fault.Wrong.{Wrong}
use Rattle.resp.specs.declared.fault.Wrong.TheVariants.{Malformed, TooLarge}
use Rattle.resp.specs.declared.limits.Limits.{Limits}
use Rattle.resp.specs.Command.{line_end}
use Rattle.resp.specs.Spelled.{Writes}
use Rattle.resp.specs.Reading.{byte_at, span, digit_step, digits_at, number_at}
use Rattle.resp.proofs.Steps.{given}
use Rattle.resp.proofs.Readers.{Reads, reads-same, IsByte, reads-byte, Then, reads-then, IsNothing, reads-nothing}
use Rattle.resp.proofs.Spans.{Runs, IsSpan, reads-span}

pub record Stepped (limits : Limits) (most : ℕ) (s : ℕ × ℕ) (c : ℕ) (next : ℕ × ℕ) : Type 0 where
  pub digit : digit_value c < 10
  pub room : s.1 < limits.line
  pub fits : s.0 * 10 + digit_value c ≤ most
  pub next_is : next ≡ (s.0 * 10 + digit_value c, s.1 + 1)

pub digit_stepped : (limits : Limits) (most : ℕ) (s : ℕ × ℕ) (c : ℕ) (next : ℕ × ℕ) → digit_step limits most s c ≡ Ok next → Stepped limits most s c next
unfolding digit_step
digit_stepped limits most s c next e = go (ltb (digit_value c) 10) (ltb s.1 limits.line) (leb (s.0 * 10 + digit_value c) most) refl refl refl e
  where
    go : (a b d : Bool) → ltb (digit_value c) 10 ≡ a → ltb s.1 limits.line ≡ b → leb (s.0 * 10 + digit_value c) most ≡ d
        → ◌≡◌ {A = Result (ℕ × ℕ) Wrong} (cond a (cond (b && d) (Ok (s.0 * 10 + digit_value c, s.1 + 1)) (Err TooLarge)) (Err Malformed)) (Ok next) → Stepped limits most s c next
    go true true true p q t h = record { digit = ltb-true _ _ p; room = ltb-true _ _ q; fits = leb-true _ _ t; next_is = cc }
    go true true false p q t h = absurd cc
    go true false d p q t h = absurd cc
    go false b d p q t h = absurd cc

pub digit_steps : (limits : Limits) (most : ℕ) (s : ℕ × ℕ) (c : ℕ) → digit_value c < 10 → s.1 < limits.line → s.0 * 10 + digit_value c ≤ most → digit_step limits most s c ≡ Ok (s.0 * 10 + digit_value c, s.1 + 1)
unfolding digit_step
digit_steps limits most s c digit room fits = rw (lt-ltb (digit_value c) 10 digit, lt-ltb s.1 limits.line room, le-leb (s.0 * 10 + digit_value c) most fits) refl

no_cr : (c : ℕ) → digit_value c < 10 → eqb c 13 ≡ false
no_cr c digit = ne_eqb c 13 (λ e. is_not (subst (λ n. digit_value n < 10) e digit))
  where
    is_not : digit_value 13 < 10 → ⊥
    is_not h = omega (arith, h)

grows : (v : ℕ) (text : List ℕ) → v ≤ digits_value_after 10 v text
grows v [] = omega arith
grows v (c ∷ cs) = omega (arith, grows (v * 10 + digit_value c) cs)

digits-runs : (limits : Limits) (most : ℕ) (s : ℕ × ℕ) (text : List ℕ) (t : ℕ × ℕ) → s.0 ≤ most → s.1 ≤ limits.line → Runs (digit_step limits most) s text t
    → AllDigits 10 text × (s.1 + length text ≤ limits.line) × (digits_value_after 10 s.0 text ≡ t.0) × (t.0 ≤ most)
digits-runs limits most s [] t fits short r = (tt, omega (arith, short), ap (λ (x : ℕ × ℕ). x.0) r, subst (λ (x : ℕ × ℕ). x.0 ≤ most) r fits)
digits-runs limits most s (c ∷ cs) t fits short r =
    let d = digit_stepped limits most s c r.1 r.2 in
    let value-is : r.1.0 ≡ s.0 * 10 + digit_value c = ap (λ (x : ℕ × ℕ). x.0) d.next_is in
    let count-is : r.1.1 ≡ s.1 + 1 = ap (λ (x : ℕ × ℕ). x.1) d.next_is in
    let ih = digits-runs limits most r.1 cs t (omega (arith, value-is, d.fits)) (omega (arith, count-is, d.room)) r.3 in
    ((d.digit, ih.0), omega (arith, count-is, ih.1), ap (λ v. digits_value_after 10 v cs) (sym value-is) ∙ ih.2, ih.3)

runs-digits : (limits : Limits) (most : ℕ) (s : ℕ × ℕ) (text : List ℕ) → AllDigits 10 text → s.1 + length text ≤ limits.line → digits_value_after 10 s.0 text ≤ most
    → Runs (digit_step limits most) s text (digits_value_after 10 s.0 text, s.1 + length text)
runs-digits limits most s [] all short fits = end_is s.0 s.1
  where
    end_is : (v k : ℕ) → ◌≡◌ {A = ℕ × ℕ} (v, k) (v, k + 0)
    end_is v k = ap (λ (n : ℕ). (v, n)) (omega arith)
runs-digits limits most s (c ∷ cs) all short fits =
    let next : ℕ × ℕ = (s.0 * 10 + digit_value c, s.1 + 1) in (
      no_cr c all.0,
      next,
      digit_steps limits most s c all.0 (omega (arith, short)) (omega (arith, fits, grows (s.0 * 10 + digit_value c) cs)),
      subst (λ n. Runs (digit_step limits most) next cs (digits_value_after 10 (s.0 * 10 + digit_value c) cs, n)) (omega arith) (runs-digits limits most next cs all.1 (omega (arith, short)) fits),
    )

-- the digits of a number after those that made the state, and the end of the line
abbrev pub IsTail : Limits → ℕ → ℕ × ℕ → ℕ → List ℕ → Type 0
IsTail limits most s n bytes = (text : List ℕ) × (count : ℕ) × Runs (digit_step limits most) s text (n, count) × (bytes ≡ text ++ line_end)

abbrev Tailed : Limits → ℕ → ℕ × ℕ → ℕ → List ℕ → Type 0
Tailed limits most s = Then (IsSpan (digit_step limits most) s) (λ t. IsNothing t.0)

tail-to : (limits : Limits) (most : ℕ) (s : ℕ × ℕ) (n : ℕ) (bytes : List ℕ) → Tailed limits most s n bytes → IsTail limits most s n bytes
tail-to limits most s n bytes t = (
  t.first.0,
  t.value.1,
  subst (λ v. Runs (digit_step limits most) s t.first.0 (v, t.value.1)) (sym t.second.0) t.first.1,
  t.parts ∙ ap (λ (x : List ℕ). t.front ++ x) t.second.1 ∙ append-nil t.front ∙ t.first.2,
)

tail-from : (limits : Limits) (most : ℕ) (s : ℕ × ℕ) (n : ℕ) (bytes : List ℕ) → IsTail limits most s n bytes → Tailed limits most s n bytes
tail-from limits most s n bytes t = record {
  value = (n, t.1);
  front = bytes;
  back = [];
  first = (t.0, t.2, t.3);
  second = (refl, refl);
  parts = sym (append-nil bytes);
}

pub reads-digits : (limits : Limits) (most : ℕ) (s : ℕ × ℕ) → Reads (IsTail limits most s) (digits_at limits most s)
unfolding digits_at
reads-digits limits most s = reads-same (Tailed limits most s) (IsTail limits most s) (digits_at limits most s) (tail-to limits most s) (tail-from limits most s)
    (reads-then (IsSpan (digit_step limits most) s) (λ t. IsNothing t.0) (span (digit_step limits most) s) (λ t. given t.0) (reads-span (digit_step limits most) s) (λ t. reads-nothing t.0))

-- a number, and the end of its line
abbrev pub IsNumber : Limits → ℕ → ℕ → List ℕ → Type 0
IsNumber limits most n bytes = (digits : List ℕ) × Writes limits most digits n × (bytes ≡ digits ++ line_end)

-- a number, from its first digit on
pub number-to : (limits : Limits) (most c : ℕ) (s : ℕ × ℕ) (n : ℕ) (back : List ℕ) → digit_step limits most (0, 0) c ≡ Ok s → IsTail limits most s n back → IsNumber limits most n (c ∷ back)
number-to limits most c s n back first t =
    let d = digit_stepped limits most (0, 0) c s first in
    let r = digits-runs limits most (0, 0) (c ∷ t.0) (n, t.1) (omega arith) (omega arith) (no_cr c d.digit, s, first, t.2) in
    (c ∷ t.0, ((omega arith, r.0), omega (arith, r.1), r.2, r.3), ap (λ (x : List ℕ). c ∷ x) t.3)

-- and its first digit
pub record FirstDigit (limits : Limits) (most n : ℕ) (bytes : List ℕ) : Type 0 where
  pub byte : ℕ
  pub state : ℕ × ℕ
  pub back : List ℕ
  pub first : digit_step limits most (0, 0) byte ≡ Ok state
  pub tail : IsTail limits most state n back
  pub parts : bytes ≡ byte ∷ back

pub number-from : (limits : Limits) (most n : ℕ) (bytes : List ℕ) → IsNumber limits most n bytes → FirstDigit limits most n bytes
number-from limits most n bytes ([], w, e) = absurd (omega (arith, w.0.0))
number-from limits most n bytes (c ∷ cs, w, e) =
    let runs = runs-digits limits most (0, 0) (c ∷ cs) w.0.1 (omega (arith, w.1)) (omega (arith, w.2, w.3)) in
    record {
      byte = c;
      state = runs.1;
      back = cs ++ line_end;
      first = runs.2;
      tail = (cs, 0 + length (c ∷ cs), subst (λ v. Runs (digit_step limits most) runs.1 cs (v, 0 + length (c ∷ cs))) w.2 runs.3, refl);
      parts = e;
    }

abbrev Begun : Limits → ℕ → ℕ → List ℕ → Type 0
Begun limits most = Then (IsByte (digit_step limits most (0, 0))) (IsTail limits most)

begun-to : (limits : Limits) (most n : ℕ) (bytes : List ℕ) → Begun limits most n bytes → IsNumber limits most n bytes
begun-to limits most n bytes s =
    subst (λ b. IsNumber limits most n b) (sym (s.parts ∙ ap (λ (t : List ℕ). t ++ s.back) s.first.2)) (number-to limits most s.first.0 s.value n s.back s.first.1 s.second)

begun-from : (limits : Limits) (most n : ℕ) (bytes : List ℕ) → IsNumber limits most n bytes → Begun limits most n bytes
begun-from limits most n bytes s =
    let f = number-from limits most n bytes s in
    record { value = f.state; front = f.byte ∷ []; back = f.back; first = (f.byte, f.first, refl); second = f.tail; parts = f.parts }

-- a zero is a digit
pub zero_steps : (limits : Limits) (most : ℕ) → 0 < limits.line → digit_step limits most (0, 0) 48 ≡ Ok (0, 1)
zero_steps limits most room = digit_steps limits most (0, 0) 48 (omega arith) room (omega arith)

pub reads-number : (limits : Limits) (most : ℕ) → 0 < limits.line → Reads (IsNumber limits most) (number_at limits most)
unfolding number_at
reads-number limits most room = reads-same (Begun limits most) (IsNumber limits most) (number_at limits most) (begun-to limits most) (begun-from limits most)
    (reads-then (IsByte (digit_step limits most (0, 0))) (IsTail limits most) (byte_at (digit_step limits most (0, 0))) (digits_at limits most)
    (reads-byte (digit_step limits most (0, 0)) 48 (0, 1) (zero_steps limits most room)) (reads-digits limits most))
