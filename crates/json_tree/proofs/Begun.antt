-- A value is begun: it is one token, or is opened.
use Rattle.std.proofs.Common.{◌≡◌, ℕ, suc, ◌+◌, max, [], ◌∷◌, ◌++◌, length, reverse, Bool, true, false, ◌||◌, Some, None, refl, sym, ap, ◌∙◌, subst, arith, append_assoc}
use Rattle.std.proofs.lemmas.List.{length-reverse}
use Rattle.std.specs.Prelude.{Result, Ok, Err, OnOk}
use Rattle.serde_json.specs.Data.{Data, depth}
use Rattle.serde_json.specs.View.{view}
use Rattle.serde_json.specs.Written.{has_float, compact_text}
use Rattle.serde_json.specs.declared.value.Value.{Value}
use Rattle.json_tree.specs.Parts.{part_count}
use Rattle.json_tree.specs.Writers.{rest_text, rest_depth, rest_float, rest_part_count, rests_text, rests_depth, rests_float, rests_part_count, StandsBefore, BeginsValue}
use Rattle.json_tree.specs.declared.rest.Rest.{Rest}
use Rattle.json_tree.specs.declared.writer.TextWriter.{TextWriter}
use Rattle.json_tree.proofs.Ends.{reverse_more, length_more}

pub token_begun : (old new : TextWriter) (value : Value) (e : Data) → view value ≡ e → depth e ≡ 0 → part_count e ≡ 1 → new.out.items ≡ old.out.items ++ compact_text e
    → new.fractional ≡ (old.fractional || has_float e) → new.rests.items ≡ old.rests.items → new.levels ≡ old.levels → new.next ≡ old.next → BeginsValue old value new
token_begun old new value e is flat one out fractional rests levels next = record {
  stands = stands;
  parts = subst (λ rs. rests_part_count (reverse rs) + 1 ≡ part_count (view value) + rests_part_count (reverse old.rests.items)) (sym rests) (omega (arith, ap part_count is, one));
  next = next;
}
  where
    or_false : (a b c : Bool) → a ≡ b → (a || (false || c)) ≡ (b || c)
    or_false a b c same = ap (λ x. x || c) same

    or_assoc : (a b c : Bool) → ((a || b) || c) ≡ (a || (b || c))
    or_assoc true b c = refl
    or_assoc false b c = refl

    stands : (d : Data) → StandsBefore d old (Some value) → StandsBefore d new None
    stands d at = record {
      text = subst (λ rs. new.out.items ++ rests_text (reverse rs) ≡ compact_text d) (sym rests)
          (ap (λ s. s ++ rests_text (reverse old.rests.items)) out ∙ append_assoc old.out.items (compact_text e) (rests_text (reverse old.rests.items))
          ∙ ap (λ x. old.out.items ++ (compact_text x ++ rests_text (reverse old.rests.items))) (sym is) ∙ at.text);
      levels = subst (λ rs. max new.levels (max 0 (rests_depth (reverse rs))) ≡ depth d) (sym rests) (omega (arith, at.levels, at.inside, ap depth is, flat, levels));
      fractional = subst (λ rs. (new.fractional || (false || rests_float (reverse rs))) ≡ has_float d) (sym rests)
          (or_false new.fractional (old.fractional || has_float e) (rests_float (reverse old.rests.items)) fractional ∙ or_assoc old.fractional (has_float e) (rests_float (reverse old.rests.items))
          ∙ ap (λ x. old.fractional || (has_float x || rests_float (reverse old.rests.items))) (sym is) ∙ at.fractional);
      inside = omega (arith, ap length rests, levels, at.inside);
    }

pub opened : (old new : TextWriter) (value : Value) (e : Data) (bracket : ℕ) (rest : Rest) → view value ≡ e → compact_text e ≡ bracket ∷ rest_text rest → depth e ≡ suc (rest_depth rest) → has_float e ≡ rest_float rest → part_count e ≡ suc (rest_part_count rest)
    → new.out.items ≡ old.out.items ++ bracket ∷ [] → new.rests.items ≡ old.rests.items ++ rest ∷ [] → new.levels ≡ max old.levels (length old.rests.items + 1) → new.fractional ≡ old.fractional → new.next ≡ old.next → BeginsValue old value new
opened old new value e bracket rest is text deep float parts out rests levels fractional next = record {
  stands = stands;
  parts = subst (λ rs. rests_part_count rs + 1 ≡ part_count (view value) + rests_part_count (reverse old.rests.items)) (sym are) (omega (arith, ap part_count is, parts));
  next = next;
}
  where
    are : reverse new.rests.items ≡ rest ∷ reverse old.rests.items
    are = ap reverse rests ∙ reverse_more old.rests.items rest

    stands : (d : Data) → StandsBefore d old (Some value) → StandsBefore d new None
    stands d at = record {
      text = subst (λ rs. new.out.items ++ rests_text rs ≡ compact_text d) (sym are)
          (ap (λ s. s ++ (rest_text rest ++ rests_text (reverse old.rests.items))) out ∙ append_assoc old.out.items (bracket ∷ []) (rest_text rest ++ rests_text (reverse old.rests.items))
          ∙ ap (λ s. old.out.items ++ (s ++ rests_text (reverse old.rests.items))) (sym (ap compact_text is ∙ text)) ∙ at.text);
      levels = subst (λ rs. max new.levels (max 0 (rests_depth rs)) ≡ depth d) (sym are) (omega (arith, at.levels, ap depth is, deep, levels, length-reverse old.rests.items));
      fractional = subst (λ rs. (new.fractional || (false || rests_float rs)) ≡ has_float d) (sym are)
          (ap (λ b. b || (rest_float rest || rests_float (reverse old.rests.items))) fractional ∙ ap (λ b. old.fractional || (b || rests_float (reverse old.rests.items))) (sym (ap has_float is ∙ float)) ∙ at.fractional);
      inside = omega (arith, ap length rests ∙ length_more old.rests.items rest, levels, at.inside);
    }

-- what three facts of a success come to
pub on_three : {E A B C P : Type 0} (r : Result (Unit {0}) E) → (A → B → C → P) → OnOk r A → OnOk r B → OnOk r C → OnOk r P
on_three (Ok done) f a b c = f a b c
on_three (Err e) f a b c = tt
