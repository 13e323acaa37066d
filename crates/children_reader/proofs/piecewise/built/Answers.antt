use Rattle.std.proofs.Common.{◌≡◌, None, Err, sym, ap, subst}
use Rattle.json_stack.specs.Machine.{start_state, state_after}
use Rattle.json_tree.specs.Builders.{HasTakenTokens}
use Rattle.serde_json.specs.Data.{object}
use Rattle.serde_json.specs.Find.{as_object}
use Rattle.serde_json.specs.Read.{max_depth}
use Rattle.serde_json.specs.View.{view, members_view}
use Rattle.children_reader.specs.Taking.{IsTakenFrom}
use Rattle.children_reader.proofs.PartsRead.{CutLaws}
use Rattle.children_reader.proofs.Pieces.{made_of_part, none_of_part}
use Rattle.children_reader.proofs.TakenMembers.{IsObjectRead, object_ended, none_taken, none_left}
use Rattle.children_reader.proofs.piecewise.built.Goals as goal

pub returns-in-Err-clause-read : goal.returns-in-Err-clause-read
returns-in-Err-clause-read c =
    let laws : CutLaws = record { first = c.objects_begin_with_a_brace.ensures.first; turn = c.objects_are_joined_in_turn.ensures; value = c.a_cut_object_is_joined.ensures.value max_depth } in
    let law = c.builders_read_the_grammar.ensures in
    none_of_part (HasTakenTokens max_depth) laws c.args.json.now c.args.at c.args.next c.args.tree
    (λ ts _ taken. sym (law.finishes max_depth ts c.args.tree (Err c.in-Err.tree) taken (c.in-Err.ensures (state_after (start_state max_depth) ts) taken))) c.requires

pub returns-in-Ok-members_in-clause-read : goal.returns-in-Ok-members_in-clause-read
returns-in-Ok-members_in-clause-read c =
    let laws : CutLaws = record { first = c.objects_begin_with_a_brace.ensures.first; turn = c.objects_are_joined_in_turn.ensures; value = c.a_cut_object_is_joined.ensures.value max_depth } in
    let ms = members_view c.in-Ok-members_in.members.entries in
    let same : view c.in-Ok.value ≡ object ms = (let h = c.in-Ok-members_in.ensures in cc) in
    made_of_part (HasTakenTokens max_depth) IsTakenFrom c.args.json.now c.args.at c.args.next c.args.tree c.of.result laws
    (λ ts first taken.
    let there = c.in-Ok.ensures (state_after (start_state max_depth) ts) taken in
    let read = subst (IsObjectRead ts) same (object_ended ts there.0 (view c.in-Ok.value) first there.1 there.2) in
    none_left ts c.of.result ms c.of.ensures.none (ap (λ m. members_view m.entries) c.of.ensures.left) (none_taken ts c.of.result.found.items ms read c.of.ensures.found)) c.requires

pub returns-in-Err-members_in-clause-read : goal.returns-in-Err-members_in-clause-read
returns-in-Err-members_in-clause-read c =
    let laws : CutLaws = record { first = c.objects_begin_with_a_brace.ensures.first; turn = c.objects_are_joined_in_turn.ensures; value = c.a_cut_object_is_joined.ensures.value max_depth } in
    none_of_part (HasTakenTokens max_depth) laws c.args.json.now c.args.at c.args.next c.args.tree
    (λ ts first taken.
    let there = c.in-Ok.ensures (state_after (start_state max_depth) ts) taken in
    let read = object_ended ts there.0 (view c.in-Ok.value) first there.1 there.2 in
    let some = ap as_object read.is in
    let none : as_object (view c.in-Ok.value) ≡ None = c.in-Err-members_in.ensures.1 in
    let never : ⊥ = cc in
    absurd never) c.requires
