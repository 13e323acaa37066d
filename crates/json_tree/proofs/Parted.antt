-- A writer goes on to the next part.
use Rattle.std.proofs.Common.{◌≡◌, ℕ, suc, ◌+◌, ◌<◌, max, List, [], ◌∷◌, ◌++◌, length, reverse, Bool, true, false, ◌||◌, Option, Some, None, refl, sym, ap, ◌∙◌, subst, arith, append_assoc, append-nil}
use Rattle.std.proofs.lemmas.List.{length-reverse}
use Rattle.serde_json.specs.Data.{Data, null, boolean, number, string, array, object, depth}
use Rattle.serde_json.specs.View.{view}
use Rattle.serde_json.specs.Written.{has_float, compact_text}
use Rattle.serde_json.specs.declared.value.Value.{Value}
use Rattle.json_tree.specs.Parts.{part_count, value_part_count}
use Rattle.json_tree.specs.Writers.{rest_text, rest_depth, rest_float, rest_part_count, rests_text, rests_depth, rests_float, rests_part_count, next_value_text, next_value_depth, next_value_float, StandsBefore, IsWriting, IsWritten, parts_to_write, Reaches}
use Rattle.json_tree.specs.declared.rest.Rest.{Rest}
use Rattle.json_tree.specs.declared.rest.Reached.{Reached}
use Rattle.json_tree.specs.declared.writer.TextWriter.{TextWriter}
use Rattle.json_tree.specs.declared.writer.Written.{Written}
use Rattle.json_tree.proofs.Ends.{reverse_more, length_more}

-- ---- there is a part

pub some_parts : (d : Data) → 0 < part_count d
some_parts null = omega arith
some_parts (boolean b) = omega arith
some_parts (number n) = omega arith
some_parts (string s) = omega arith
some_parts (array ds) = omega arith
some_parts (object ms) = omega arith

rest_parts : (r : Rest) → 0 < rest_part_count r
rest_parts (Rest.Items items later) = omega arith
rest_parts (Rest.Members members later) = omega arith

pub rests_parts : (rs : List Rest) → 0 < length rs → 0 < rests_part_count (reverse rs)
rests_parts rs some = first (reverse rs) (omega (arith, length-reverse rs, some))
  where
    first : (rs : List Rest) → 0 < length rs → 0 < rests_part_count rs
    first [] some = absurd (omega arith)
    first (r ∷ rs) some = omega (arith, rest_parts r)

-- ---- a value comes

or_assoc : (a b c : Bool) → ((a || b) || c) ≡ (a || (b || c))
or_assoc true b c = refl
or_assoc false b c = refl

pub reached_value : (old mid : TextWriter) (before : List Rest) (rest left : Rest) (value : Value) → old.next ≡ None → old.rests.items ≡ before ++ rest ∷ [] → mid.rests.items ≡ before ++ left ∷ [] → mid.levels ≡ old.levels → mid.fractional ≡ old.fractional
    → Reaches old.out.items rest mid.out.items (Reached.Value value left) → (d : Data) → IsWriting d old → StandsBefore d mid (Some value)
reached_value old mid before rest left value none was now levels float reaches d at =
    let bs = reverse before in
    let were : reverse old.rests.items ≡ rest ∷ bs = ap reverse was ∙ reverse_more before rest in
    let are : reverse mid.rests.items ≡ left ∷ bs = ap reverse now ∙ reverse_more before left in
    let many : length old.rests.items ≡ suc (length before) = ap length was ∙ length_more before rest in
    let still : length mid.rests.items ≡ suc (length before) = ap length now ∙ length_more before left in
    let text : old.out.items ++ (rest_text rest ++ rests_text bs) ≡ compact_text d = subst (λ rs. old.out.items ++ rests_text rs ≡ compact_text d) were (subst (λ n. old.out.items ++ (next_value_text n ++ rests_text (reverse old.rests.items)) ≡ compact_text d) none at.text) in
    let whole : max old.levels (max 0 (max (suc (length bs) + rest_depth rest) (rests_depth bs))) ≡ depth d =
    subst (λ rs. max old.levels (max 0 (rests_depth rs)) ≡ depth d) were (subst (λ n. max old.levels (max (next_value_depth (length old.rests.items) n) (rests_depth (reverse old.rests.items))) ≡ depth d) none at.levels) in
    let fractional : (old.fractional || (rest_float rest || rests_float bs)) ≡ has_float d =
    subst (λ rs. (old.fractional || rests_float rs) ≡ has_float d) were (subst (λ n. (old.fractional || (next_value_float n || rests_float (reverse old.rests.items))) ≡ has_float d) none at.fractional) in
    record {
      text = ap (λ rs. mid.out.items ++ (compact_text (view value) ++ rests_text rs)) are ∙ regrouped mid.out.items (compact_text (view value)) (rest_text left) (rests_text bs) old.out.items (rest_text rest) (sym reaches.0) ∙ text;
      levels = subst (λ rs. max mid.levels (max (length mid.rests.items + depth (view value)) (rests_depth rs)) ≡ depth d) (sym are) (omega (arith, whole, reaches.1, levels, still, length-reverse before));
      fractional =
          subst (λ rs. (mid.fractional || (has_float (view value) || rests_float rs)) ≡ has_float d) (sym are)
          (ap (λ b. b || (has_float (view value) || (rest_float left || rests_float bs))) float ∙ ap (λ b. old.fractional || b) (sym (or_assoc (has_float (view value)) (rest_float left) (rests_float bs)) ∙ ap (λ b. b || rests_float bs) (sym reaches.2)) ∙ fractional);
      inside = omega (arith, at.inside, levels, many, still);
    }
  where
    regrouped : (new text left more old rest : List ℕ) → new ++ (text ++ left) ≡ old ++ rest → new ++ (text ++ (left ++ more)) ≡ old ++ (rest ++ more)
    regrouped new text left more old rest same = sym (append_assoc new (text ++ left) more ∙ ap (λ s. new ++ s) (append_assoc text left more)) ∙ ap (λ s. s ++ more) same ∙ append_assoc old rest more

-- ---- all is written

nothing_next : (next : Option Value) → value_part_count next ≡ 0 → next ≡ None
nothing_next None none = refl
nothing_next (Some value) none = let never : ⊥ = omega (arith, some_parts (view value), none) in absurd never

nothing_open : (rs : List Rest) → rests_part_count rs ≡ 0 → rs ≡ []
nothing_open [] none = refl
nothing_open (r ∷ rs) none = let never : ⊥ = omega (arith, rest_parts r, none) in absurd never

or_false : (a : Bool) → (a || false) ≡ a
or_false true = refl
or_false false = refl

pub all_written : (writer : TextWriter) (written : Written) → written.text.items ≡ writer.out.items → written.levels ≡ writer.levels → written.fractional ≡ writer.fractional → parts_to_write writer ≡ 0 → (d : Data) → IsWriting d writer → IsWritten d written
all_written writer written text levels fractional none d at =
    let next : writer.next ≡ None = nothing_next writer.next (omega (arith, none)) in
    let rests : reverse writer.rests.items ≡ [] = nothing_open (reverse writer.rests.items) (omega (arith, none)) in
    let whole : writer.out.items ++ [] ≡ compact_text d = subst (λ rs. writer.out.items ++ rests_text rs ≡ compact_text d) rests (subst (λ n. writer.out.items ++ (next_value_text n ++ rests_text (reverse writer.rests.items)) ≡ compact_text d) next at.text) in
    let deep : max writer.levels (max 0 0) ≡ depth d = subst (λ rs. max writer.levels (max 0 (rests_depth rs)) ≡ depth d) rests (subst (λ n. max writer.levels (max (next_value_depth (length writer.rests.items) n) (rests_depth (reverse writer.rests.items))) ≡ depth d) next at.levels) in
    let float : (writer.fractional || false) ≡ has_float d = subst (λ rs. (writer.fractional || rests_float rs) ≡ has_float d) rests (subst (λ n. (writer.fractional || (next_value_float n || rests_float (reverse writer.rests.items))) ≡ has_float d) next at.fractional) in
    record { text = text ∙ sym (append-nil writer.out.items) ∙ whole; levels = omega (arith, deep, levels); fractional = fractional ∙ sym (or_false writer.fractional) ∙ float }
