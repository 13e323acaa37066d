use Rattle.std.proofs.Common.{◌≡◌, true, List, is_some, Some, sym, ap, ◌∙◌, subst}
use Rattle.serde_json.specs.Data.{array}
use Rattle.serde_json.specs.View.{items_view}
use Rattle.serde_json.specs.declared.value.Value.{Value}
use Rattle.children_reader.specs.Children.{fields_of}
use Rattle.children_reader.proofs.TakenMembers.{pair_last}
use Rattle.children_reader.proofs.taking.fields_of_pair.Goals as goal

abbrev is_pair_list : List Value → Type 0
is_pair_list items = is_some (fields_of (array (items_view items))) ≡ true

pub returns-in-Ok : goal.returns-in-Ok
returns-in-Ok c =
    let pair : is_pair_list c.args.items.items = ap (λ xs. is_some (fields_of (array (items_view xs)))) (sym c.as_slice.ensures.value) ∙ sym c.is_pair.ensures ∙ c.if-not-is_pair.false in
    let whole = c.in-Some.ensures.items in
    let last = pair_last c.pop.new.self.items c.in-Some.last (subst is_pair_list whole pair) in
    sym (ap (λ xs. fields_of (array (items_view xs))) whole ∙ last.0 ∙ ap (λ d. Some d) c.in-Ok.ensures)

pub returns : goal.returns
returns c =
    let pair : is_pair_list c.args.items.items = ap (λ xs. is_some (fields_of (array (items_view xs)))) (sym c.as_slice.ensures.value) ∙ sym c.is_pair.ensures ∙ c.if-not-is_pair.false in
    let last = pair_last c.pop.new.self.items c.in-Some.last (subst is_pair_list c.in-Some.ensures.items pair) in
    let never : ⊥ = (let none = ap is_some c.in-Err.ensures.1 in let some = last.1 in cc) in
    absurd never
