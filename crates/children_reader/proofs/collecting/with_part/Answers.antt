use Rattle.std.proofs.Common.{◌≡◌, ◌≢◌, [], None, refl, sym, ◌∙◌, subst, arith}
use Rattle.std.proofs.lemmas.Bool.{false≢true}
use Rattle.std.proofs.lemmas.Grind.{common_steps}
use Rattle.std.proofs.lemmas.List.{nil_from_length}
use Rattle.serde_json.specs.Read.{max_depth}
use Rattle.children_reader.specs.declared.collecting.Collecting.{Collecting}
use Rattle.children_reader.proofs.PartTexts.{IsTextPart}
use Rattle.children_reader.proofs.PartsRead.{CutLaws, more_read, all_read, none_read, empty_refused}
use Rattle.children_reader.proofs.collecting.with_part.Goals as goal

pub returns-then-not-is_alone-clause-collected : goal.returns-then-not-is_alone-clause-collected
returns-then-not-is_alone-clause-collected c =
    let laws : CutLaws = record { first = c.objects_begin_with_a_brace.ensures.first; turn = c.objects_are_joined_in_turn.ensures; value = c.a_cut_object_is_joined.ensures.value max_depth } in
    let json = c.args.json.now in
    let read = c.requires.part in
    let g : Collecting = record { at = c.args.at; outcomes = c.args.outcomes; reading = None } in
    let part : IsTextPart json c.args.at read.text c.args.next = record { part = read.part; utf8 = read.utf8 } in
    let none : c.args.found.items ≡ [] = grind (arith, common_steps, nil_from_length) in
    empty_refused laws json read.text g c.args.next c.args.found.items c.requires.before part read.taken none (λ last empty. false≢true (sym c.if-not-is_alone.true ∙ c.is_alone.ensures.1 (last, empty)))

pub returns-then-is_empty-clause-collected : goal.returns-then-is_empty-clause-collected
returns-then-is_empty-clause-collected c =
    let json = c.args.json.now in
    let read = c.requires.part in
    let g : Collecting = record { at = c.args.at; outcomes = c.args.outcomes; reading = None } in
    let part : IsTextPart json c.args.at read.text c.args.next = record { part = read.part; utf8 = read.utf8 } in
    let none : c.args.found.items ≡ [] = grind (arith, common_steps, nil_from_length) in
    let alone = c.is_alone.ensures.0 c.if-not-is_alone.false in
    none_read json read.text g c.args.found.items c.requires.before (subst (IsTextPart json c.args.at read.text) alone.0 part) read.taken none alone.1

pub returns-in-Some-clause-collected : goal.returns-in-Some-clause-collected
returns-in-Some-clause-collected c =
    let laws : CutLaws = record { first = c.objects_begin_with_a_brace.ensures.first; turn = c.objects_are_joined_in_turn.ensures; value = c.a_cut_object_is_joined.ensures.value max_depth } in
    let json = c.args.json.now in
    let read = c.requires.part in
    let g : Collecting = record { at = c.args.at; outcomes = c.args.outcomes; reading = None } in
    let part : IsTextPart json c.args.at read.text c.args.next = record { part = read.part; utf8 = read.utf8 } in
    let some : c.args.found.items ≢ [] = λ none. grind (arith, common_steps) in
    let new : Collecting = record { at = c.in-Some.at; outcomes = c.put_in.new.outcomes; reading = None } in
    more_read laws json read.text g new c.args.found.items refl c.requires.before (subst (IsTextPart json c.args.at read.text) c.in-Some.is part) read.taken some c.in_ok-put_in.ensures

pub returns-in-None-clause-collected : goal.returns-in-None-clause-collected
returns-in-None-clause-collected c =
    let json = c.args.json.now in
    let read = c.requires.part in
    let g : Collecting = record { at = c.args.at; outcomes = c.args.outcomes; reading = None } in
    let part : IsTextPart json c.args.at read.text c.args.next = record { part = read.part; utf8 = read.utf8 } in
    let some : c.args.found.items ≢ [] = λ none. grind (arith, common_steps) in
    all_read json read.text g c.args.found.items c.put_in.new.outcomes.entries c.requires.before (subst (IsTextPart json c.args.at read.text) c.in-None.is part) read.taken some c.in_ok-put_in.ensures
