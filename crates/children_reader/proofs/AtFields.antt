-- The fields that are kept of a child.
use Rattle.std.proofs.Common.{◌≡◌, ℕ, List, true, false, ◌&&◌, not, nat_le, Option, Some, None, is_some, sym, ap, ◌∙◌, subst, arith}
use Rattle.std.proofs.lemmas.Bool.{and_parts, leb-true}
use Rattle.std.proofs.lemmas.Slice.Eq.{bytes_eq-Decides}
use Rattle.std.specs.Str.{bytes_eq}
use Rattle.serde_json.specs.Data.{Data, Members, put, depth}
use Rattle.serde_json.specs.Find.{get_member, as_str, as_object}
use Rattle.serde_json.specs.Read.{read}
use Rattle.serde_json.specs.Written.{has_float}
use Rattle.serde_json.proofs.Views.{get_member-put, get_member-put_other}
use Rattle.json_spelling.specs.Metadata.{is_whole, spelling_of}
use Rattle.children_reader.specs.Children.{gives_write}
use Rattle.children_reader.specs.Kept.{IsField, IsFieldAt, IsTextField, IsTextFieldAt}
use Rattle.children_reader.specs.declared.fields.Field.{Field}
use Rattle.json_spelling.specs.declared.spelling.Spelled.{Spelled}
use Rattle.json_spelling.proofs.Json.{good_metadata, not_true, spells_itself}
use Rattle.json_spelling.proofs.Printed.{printed}

-- ---- a member more

-- texts that the test tells apart are not the same
pub texts_differ : (xs ys : List ℕ) → bytes_eq xs ys ≡ false → ys ≡ xs → ⊥
texts_differ xs ys apart same = let e = (bytes_eq-Decides xs ys).1 (sym same) in cc

pub texts_same : (xs ys : List ℕ) → bytes_eq xs ys ≡ true → xs ≡ ys
texts_same xs ys same = (bytes_eq-Decides xs ys).0 same

-- a name that is one text is no other
pub another : (q p k : List ℕ) → bytes_eq p q ≡ false → k ≡ p → q ≡ k → ⊥
another q p k apart is same = texts_differ p q apart (same ∙ is)

-- the value that was put is found at its name
pub put_here : (q k : List ℕ) (field : Field) (d : Data) (ms : Members) → k ≡ q → IsField field d → IsFieldAt (Some field) (get_member q (put k d ms))
put_here q k field d ms same is = subst (λ o. IsFieldAt (Some field) o) (sym (ap (λ n. get_member q (put n d ms)) same ∙ get_member-put q d ms)) is

-- the same as far as a text is concerned
texts_weaker : (field : Field) (d : Data) → IsField field d → IsTextField field d
texts_weaker Field.Null d is = is
texts_weaker (Field.Text text) d is = is
texts_weaker (Field.Object spelled) d is = (ap as_str is.1, ap gives_write is.1)
texts_weaker Field.Other d is = (is.0, is.2)

pub put_text_here : (q k : List ℕ) (field : Field) (d : Data) (ms : Members) → k ≡ q → IsField field d → IsTextFieldAt (Some field) (get_member q (put k d ms))
put_text_here q k field d ms same is = subst (λ o. IsTextFieldAt (Some field) o) (sym (ap (λ n. get_member q (put n d ms)) same ∙ get_member-put q d ms)) (texts_weaker field d is)

-- other names keep their values
pub put_elsewhere : (q k : List ℕ) (field : Option Field) (d : Data) (ms : Members) → (q ≡ k → ⊥) → IsFieldAt field (get_member q ms) → IsFieldAt field (get_member q (put k d ms))
put_elsewhere q k field d ms other is = subst (λ o. IsFieldAt field o) (sym (get_member-put_other q k d ms other)) is

pub put_text_elsewhere : (q k : List ℕ) (field : Option Field) (d : Data) (ms : Members) → (q ≡ k → ⊥) → IsTextFieldAt field (get_member q ms) → IsTextFieldAt field (get_member q (put k d ms))
put_text_elsewhere q k field d ms other is = subst (λ o. IsTextFieldAt field o) (sym (get_member-put_other q k d ms other)) is

-- ---- metadata

object_kept_at : (spelled : Spelled) (found : Option Data) → IsFieldAt (Some (Field.Object spelled)) found → (not spelled.extent.fractional && nat_le spelled.extent.levels 100) ≡ true → spelling_of spelled.text.items ≡ Some spelled.text.items
object_kept_at spelled None at fits = absurd at
object_kept_at spelled (Some d) at fits =
    let shape : is_some (as_object d) ≡ true = ap (λ x. is_some (as_object x)) at.1 in
    let text = at.2 in
    let whole : is_whole d 100 ≡ true = cc in
    let none = not_true (has_float d) (and_parts (not (has_float d)) _ whole).0 in
    let shallow = leb-true (depth d) 100 (and_parts (not (has_float d)) _ whole).1 in
    let back : read spelled.text.items ≡ Some d = ap read text.0 ∙ printed d at.3 none (omega (arith, shallow)) in
    spells_itself d spelled.text.items text.2 (good_metadata d shape whole) (λ _. text.0) (λ _. back)

-- an object that was spelled is the spelling of itself, where it is within the limits
pub object_kept : (field : Option Field) (spelled : Spelled) (found : Option Data) → field ≡ Some (Field.Object spelled) → IsFieldAt field found → (not spelled.extent.fractional && nat_le spelled.extent.levels 100) ≡ true
    → spelling_of spelled.text.items ≡ Some spelled.text.items
object_kept field spelled found same at fits = object_kept_at spelled found (subst (λ f. IsFieldAt f found) same at) fits
