-- Integers.
use Rattle.std.proofs.Common.{◌≡◌, ◌<◌, ◌-◌, ◌^◌, ℕ, List, [], ◌∷◌, ◌++◌, refl, sym, ap, subst, ◌∙◌, inl, inr}
use Rattle.std.specs.Prelude.{ℤ, pos, neg_ℤ}
use Rattle.resp.specs.declared.limits.Limits.{Limits}
use Rattle.resp.specs.declared.items.Lead.{Lead}
use Rattle.resp.specs.declared.items.Lead.TheVariants as lead
use Rattle.resp.specs.Command.{line_end}
use Rattle.resp.specs.Spelled.{WritesInteger}
use Rattle.resp.specs.Reading.{byte_at, digits_at, number_at, lead_of, integer_after, integer_at}
use Rattle.resp.proofs.Readers.{Reads, reads-same, IsByte, reads-byte, Then, reads-then, IsMapped, reads-map}
use Rattle.resp.proofs.Numbers.{IsTail, reads-digits, IsNumber, reads-number, number-to, number-from}
use Rattle.resp.proofs.Leads.{one_digit, LeadFacts, lead_is, lead-digit, lead-plus, lead-minus}

-- an integer, and the end of its line
abbrev pub IsInteger : Limits → ℤ → List ℕ → Type 0
IsInteger limits n bytes = (text : List ℕ) × WritesInteger limits text n × (bytes ≡ text ++ line_end)

abbrev After : Limits → Lead → ℤ → List ℕ → Type 0
After limits lead.Plus = IsMapped (λ m. pos m) (IsNumber limits (2 ^ 63 - 1))
After limits lead.Minus = IsMapped (λ m. neg_ℤ (pos m)) (IsNumber limits (2 ^ 63))
After limits (lead.Digit value) = IsMapped (λ m. pos m) (IsTail limits (2 ^ 63 - 1) (value, 1))

reads-after : (limits : Limits) → 0 < limits.line → (l : Lead) → Reads (After limits l) (integer_after limits l)
unfolding integer_after
reads-after limits room lead.Plus = reads-map (λ m. pos m) (IsNumber limits (2 ^ 63 - 1)) (number_at limits (2 ^ 63 - 1)) (reads-number limits (2 ^ 63 - 1) room)
reads-after limits room lead.Minus = reads-map (λ m. neg_ℤ (pos m)) (IsNumber limits (2 ^ 63)) (number_at limits (2 ^ 63)) (reads-number limits (2 ^ 63) room)
reads-after limits room (lead.Digit value) = reads-map (λ m. pos m) (IsTail limits (2 ^ 63 - 1) (value, 1)) (digits_at limits (2 ^ 63 - 1) (value, 1)) (reads-digits limits (2 ^ 63 - 1) (value, 1))

led-to : (limits : Limits) (c : ℕ) (l : Lead) (n : ℤ) (back : List ℕ) → LeadFacts limits c l → After limits l n back → IsInteger limits n (c ∷ back)
led-to limits c lead.Plus n back is a =
    let d = a.1 in
    (43 ∷ d.0, (d.0, a.0, inr (inl (refl, d.1, a.2))), ap (λ (x : ℕ). x ∷ back) is ∙ ap (λ (t : List ℕ). 43 ∷ t) d.2)
led-to limits c lead.Minus n back is a =
    let d = a.1 in
    (45 ∷ d.0, (d.0, a.0, inr (inr (refl, d.1, a.2))), ap (λ (x : ℕ). x ∷ back) is ∙ ap (λ (t : List ℕ). 45 ∷ t) d.2)
led-to limits c (lead.Digit value) n back is a =
    let d = number-to limits (2 ^ 63 - 1) c (value, 1) a.0 back is a.1 in
    (d.0, (d.0, a.0, inl (refl, d.1, a.2)), d.2)

abbrev Led : Limits → ℤ → List ℕ → Type 0
Led limits = Then (IsByte (lead_of limits)) (After limits)

integer-to : (limits : Limits) (n : ℤ) (bytes : List ℕ) → Led limits n bytes → IsInteger limits n bytes
integer-to limits n bytes s =
    subst (λ b. IsInteger limits n b) (sym (s.parts ∙ ap (λ (t : List ℕ). t ++ s.back) s.first.2))
    (led-to limits s.first.0 s.value n s.back (lead_is limits s.first.0 s.value s.first.1) s.second)

integer-from : (limits : Limits) (n : ℤ) (bytes : List ℕ) → IsInteger limits n bytes → Led limits n bytes
integer-from limits n bytes (text, (digits, m, inl plain), e) =
    let f = number-from limits (2 ^ 63 - 1) m bytes (digits, plain.1, e ∙ ap (λ (t : List ℕ). t ++ line_end) plain.0) in
    record {
      value = lead.Digit f.state.0;
      front = f.byte ∷ [];
      back = f.back;
      first = (f.byte, lead-digit limits f.byte f.state f.first, refl);
      second = (m, subst (λ s. IsTail limits (2 ^ 63 - 1) s m f.back) (one_digit limits (2 ^ 63 - 1) f.byte f.state f.first) f.tail, plain.2);
      parts = f.parts;
    }
integer-from limits n bytes (text, (digits, m, inr (inl plus)), e) = record {
  value = lead.Plus;
  front = 43 ∷ [];
  back = digits ++ line_end;
  first = (43, lead-plus limits, refl);
  second = (m, (digits, plus.1, refl), plus.2);
  parts = e ∙ ap (λ (t : List ℕ). t ++ line_end) plus.0;
}
integer-from limits n bytes (text, (digits, m, inr (inr minus)), e) = record {
  value = lead.Minus;
  front = 45 ∷ [];
  back = digits ++ line_end;
  first = (45, lead-minus limits, refl);
  second = (m, (digits, minus.1, refl), minus.2);
  parts = e ∙ ap (λ (t : List ℕ). t ++ line_end) minus.0;
}

pub reads-integer : (limits : Limits) → 0 < limits.line → Reads (IsInteger limits) (integer_at limits)
unfolding integer_at
reads-integer limits room = reads-same (Led limits) (IsInteger limits) (integer_at limits) (integer-to limits) (integer-from limits)
    (reads-then (IsByte (lead_of limits)) (After limits) (byte_at (lead_of limits)) (integer_after limits)
    (reads-byte (lead_of limits) 43 lead.Plus (lead-plus limits)) (reads-after limits room))
