use Rattle.std.proofs.Common.{◌≢◌, ◌∷◌, Err, sym, ap, subst, ◌∙◌}
use Rattle.std.proofs.lemmas.Bool.{false≢true}
use Rattle.serde_json.specs.Read.{max_depth}
use Rattle.children_reader.specs.Collected.{IsPartUpTo}
use Rattle.dir_codec.specs.declared.fault.DirFault.TheVariants.{NoMemory, BadShape}
use Rattle.children_reader.proofs.PartTexts.{begins, text_part}
use Rattle.children_reader.proofs.PartsRead.{CutLaws}
use Rattle.children_reader.proofs.Pieces.{fault_behind, no_text_behind}
use Rattle.children_reader.proofs.piecewise.read_first.Goals as goal

pub returns-in_default-clause-read : goal.returns-in_default-clause-read
returns-in_default-clause-read c =
    let same = c.as_slice-2.ensures.value ∙ c.in_ok-text.ensures ∙ ap (λ t. 123 ∷ t) c.as_slice.ensures.value in
    no_text_behind c.args.json.now c.as_slice-2.result.now c.args.at c.args.next c.requires.within c.requires.before (subst (λ t. IsPartUpTo c.args.json.now c.args.at t c.args.next) (sym same) c.requires.part)
    c.in_default.ensures.cases.0

pub read_members-requires : goal.read_members-requires
read_members-requires c =
    let text = c.in-Ok.ensures.cases in
    let same = c.as_slice-2.ensures.value ∙ c.in_ok-text.ensures ∙ ap (λ t. 123 ∷ t) c.as_slice.ensures.value in
    let part = text_part c.args.json.now c.in-Ok.text.now _ _ c.args.at c.args.next text.0 text.1 same c.requires.part in
    begins c.objects_begin_with_a_brace.ensures.first c.args.json.now c.in-Ok.text.now c.args.at c.args.next part.part

pub returns-in-Ok-read_members-clause-read : goal.returns-in-Ok-read_members-clause-read
returns-in-Ok-read_members-clause-read c =
    let text = c.in-Ok.ensures.cases in
    let same = c.as_slice-2.ensures.value ∙ c.in_ok-text.ensures ∙ ap (λ t. 123 ∷ t) c.as_slice.ensures.value in
    let part = text_part c.args.json.now c.in-Ok.text.now _ _ c.args.at c.args.next text.0 text.1 same c.requires.part in
    record { text = c.in-Ok.text.now; part = part.part; utf8 = part.utf8; taken = c.in-Ok-read_members.ensures.ok }

pub returns-clause-read : goal.returns-clause-read
returns-clause-read c =
    let laws : CutLaws = record { first = c.objects_begin_with_a_brace.ensures.first; turn = c.objects_are_joined_in_turn.ensures; value = c.a_cut_object_is_joined.ensures.value max_depth } in
    let text = c.in-Ok.ensures.cases in
    let same = c.as_slice-2.ensures.value ∙ c.in_ok-text.ensures ∙ ap (λ t. 123 ∷ t) c.as_slice.ensures.value in
    let part = text_part c.args.json.now c.in-Ok.text.now _ _ c.args.at c.args.next text.0 text.1 same c.requires.part in
    let fault = c.in-Err.fault in
    let other : fault ≢ NoMemory = λ none. false≢true (sym c.if-is_memory.false ∙ c.is_memory.ensures.1 none) in
    let shape : fault ≢ BadShape = λ is. c.in-Err.ensures.json (ap (λ f. Err f) is) in
    fault_behind laws c.args.json.now c.in-Ok.text.now c.args.at c.args.next fault part.part (c.in-Err.ensures.err other) shape
