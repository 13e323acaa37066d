-- Bulk strings.
use Rattle.std.proofs.Common.{◌≡◌, ℕ, List, [], ◌∷◌, ◌++◌, length, Option, Some, None, refl, sym, ap, subst, ◌∙◌, append_assoc}
use Rattle.resp.specs.declared.limits.Limits.{Limits}
use Rattle.resp.specs.declared.reply.Item.{Item}
use Rattle.resp.specs.declared.reply.Item.TheVariants as item
use Rattle.resp.specs.Command.{line_end}
use Rattle.resp.specs.Spelled.{Writes}
use Rattle.resp.specs.Reading.{◌>>=◌, byte_at, only, line_end_at, content_at, digits_at, bulk_lead, bulk_after, bulk_at}
use Rattle.resp.proofs.Steps.{given}
use Rattle.resp.proofs.Readers.{Reads, reads-same, IsByte, reads-byte, Then, reads-then, after, IsMapped, reads-map, IsContent, reads-content}
use Rattle.resp.proofs.Spans.{only_is}
use Rattle.resp.proofs.Texts.{IsEnd, reads-end}
use Rattle.resp.proofs.Numbers.{IsTail, reads-digits, number-to, number-from}
use Rattle.resp.proofs.Leads.{one_digit, BulkFacts, bulk_lead_is, bulk-digit, bulk-minus}

-- what stands after the mark of a bulk string
abbrev pub IsBulk : Limits → Item → List ℕ → Type 0
IsBulk limits (item.Bulk content) bytes = (digits : List ℕ) × Writes limits limits.bulk digits (length content) × (bytes ≡ digits ++ line_end ++ content ++ line_end)
IsBulk limits item.Null bytes = bytes ≡ 45 ∷ 49 ∷ line_end
IsBulk limits other bytes = ⊥

abbrev Nulled : Item → List ℕ → Type 0
Nulled = Then (IsByte (only 49)) (λ _. IsMapped (λ _. item.Null) IsEnd)

abbrev Filled : ℕ → Item → List ℕ → Type 0
Filled n = Then (IsContent n) (λ content. IsMapped (λ _. item.Bulk content) IsEnd)

abbrev After : Limits → Option ℕ → Item → List ℕ → Type 0
After limits None = Nulled
After limits (Some value) = Then (IsTail limits limits.bulk (value, 1)) Filled

reads-filled : (n : ℕ) → Reads (Filled n) (λ bytes. content_at n bytes >>= after (λ content rest. line_end_at rest >>= after (λ _. given (item.Bulk content))))
reads-filled n = reads-then (IsContent n) (λ content. IsMapped (λ _. item.Bulk content) IsEnd) (content_at n) (λ content rest. line_end_at rest >>= after (λ _. given (item.Bulk content)))
    (reads-content n) (λ content. reads-map (λ _. item.Bulk content) IsEnd line_end_at reads-end)

reads-after : (limits : Limits) (l : Option ℕ) → Reads (After limits l) (bulk_after limits l)
unfolding bulk_after
reads-after limits None = reads-then (IsByte (only 49)) (λ _. IsMapped (λ _. item.Null) IsEnd) (byte_at (only 49)) (λ _ rest. line_end_at rest >>= after (λ _. given item.Null))
    (reads-byte (only 49) 49 49 refl) (λ _. reads-map (λ _. item.Null) IsEnd line_end_at reads-end)
reads-after limits (Some value) = reads-then (IsTail limits limits.bulk (value, 1)) Filled (digits_at limits limits.bulk (value, 1)) (λ n bytes. content_at n bytes >>= after (λ content rest. line_end_at rest >>= after (λ _. given (item.Bulk content))))
    (reads-digits limits limits.bulk (value, 1)) reads-filled

led-to : (limits : Limits) (c : ℕ) (l : Option ℕ) (i : Item) (back : List ℕ) → BulkFacts limits c l → After limits l i back → IsBulk limits i (c ∷ back)
led-to limits c None i back is a =
    let one : a.first.0 ≡ 49 = only_is 49 a.first.0 a.value a.first.1 in
    subst (λ j. IsBulk limits j (c ∷ back)) (sym a.second.2)
    (ap (λ (x : ℕ). x ∷ back) is ∙ ap (λ (t : List ℕ). 45 ∷ t) (a.parts ∙ ap (λ (t : List ℕ). t ++ a.back) (a.first.2 ∙ ap (λ (x : ℕ). x ∷ []) one) ∙ ap (λ (t : List ℕ). 49 ∷ t) a.second.1.1))
led-to limits c (Some value) i back is a =
    let d = number-to limits limits.bulk c (value, 1) a.value a.front is a.first in
    let f = a.second in
    let content = f.value in
    let len-is : length content ≡ a.value = ap length f.first.0 ∙ f.first.1 in
    let parts : c ∷ back ≡ (d.0 ++ line_end ++ content) ++ line_end =
    ap (λ (t : List ℕ). c ∷ t) a.parts ∙ ap (λ (t : List ℕ). t ++ a.back) d.2
    ∙ ap (λ (t : List ℕ). (d.0 ++ line_end) ++ t) (f.parts ∙ ap (λ (t : List ℕ). t ++ f.back) (sym f.first.0) ∙ ap (λ (t : List ℕ). content ++ t) f.second.1.1)
    ∙ sym (append_assoc (d.0 ++ line_end) content line_end) in
    subst (λ j. IsBulk limits j (c ∷ back)) (sym f.second.2) (d.0, subst (λ n. Writes limits limits.bulk d.0 n) (sym len-is) d.1, parts)

abbrev Led : Limits → Item → List ℕ → Type 0
Led limits = Then (IsByte (bulk_lead limits)) (After limits)

bulk-to : (limits : Limits) (i : Item) (bytes : List ℕ) → Led limits i bytes → IsBulk limits i bytes
bulk-to limits i bytes s =
    subst (λ b. IsBulk limits i b) (sym (s.parts ∙ ap (λ (t : List ℕ). t ++ s.back) s.first.2))
    (led-to limits s.first.0 s.value i s.back (bulk_lead_is limits s.first.0 s.value s.first.1) s.second)

bulk-from : (limits : Limits) (i : Item) (bytes : List ℕ) → IsBulk limits i bytes → Led limits i bytes
bulk-from limits (item.Text t) bytes s = absurd s
bulk-from limits (item.Error t) bytes s = absurd s
bulk-from limits (item.Integer n) bytes s = absurd s
bulk-from limits item.Null bytes s = record {
  value = None;
  front = 45 ∷ [];
  back = 49 ∷ line_end;
  first = (45, bulk-minus limits, refl);
  second = record { value = 49; front = 49 ∷ []; back = line_end; first = (49, refl, refl); second = (10, (refl, refl), refl); parts = refl };
  parts = s;
}
bulk-from limits (item.Bulk content) bytes s =
    let f = number-from limits limits.bulk (length content) (s.0 ++ line_end) (s.0, s.1, refl) in
    record {
      value = Some f.state.0;
      front = f.byte ∷ [];
      back = f.back ++ (content ++ line_end);
      first = (f.byte, bulk-digit limits f.byte f.state f.first, refl);
      second = record {
        value = length content;
        front = f.back;
        back = content ++ line_end;
        first = subst (λ t. IsTail limits limits.bulk t (length content) f.back) (one_digit limits limits.bulk f.byte f.state f.first) f.tail;
        second = record { value = content; front = content; back = line_end; first = (refl, refl); second = (10, (refl, refl), refl); parts = refl };
        parts = refl;
      };
      parts = s.2 ∙ append_assoc (s.0 ++ line_end) content line_end ∙ ap (λ (t : List ℕ). t ++ (content ++ line_end)) f.parts;
    }

pub reads-bulk : (limits : Limits) → Reads (IsBulk limits) (bulk_at limits)
unfolding bulk_at
reads-bulk limits = reads-same (Led limits) (IsBulk limits) (bulk_at limits) (bulk-to limits) (bulk-from limits)
    (reads-then (IsByte (bulk_lead limits)) (After limits) (byte_at (bulk_lead limits)) (bulk_after limits)
    (reads-byte (bulk_lead limits) 45 None (bulk-minus limits)) (reads-after limits))
