use Rattle.std.proofs.Common.{Ok, Err, sym, ◌∙◌}
use Rattle.json.specs.Lex.{tokens}
use Rattle.json_stack.specs.Machine.{start_state, state_after}
use Rattle.serde_json.specs.Read.{max_depth}
use Rattle.serde_json.specs.View.{view}
use Rattle.json_spelling.proofs.Json.{json_read, json_refused, none_spelled}
use Rattle.json_spelling.proofs.SoundLemmas.{data_sound}
use Rattle.json_spelling.proofs.metadata_speller.stage_of.Goals as goal

pub returns-in-Ok-clause-spelled : goal.returns-in-Ok-clause-spelled
returns-in-Ok-clause-spelled c text is =
    let law = c.builders_read_the_grammar.ensures in
    let there = c.in-Ok.ensures (state_after (start_state max_depth) (tokens text)) is.0 in
    let d = view c.in-Ok.value in
    (d, json_read text d is.1 (sym (law.finishes max_depth (tokens text) c.args.tree (Ok c.in-Ok.value) is.0 there ∙ law.text text)), data_sound there.0 d there.2, c.new.ensures.writing)

pub returns-in-Err-clause-spelled : goal.returns-in-Err-clause-spelled
returns-in-Err-clause-spelled c text is =
    let law = c.builders_read_the_grammar.ensures in
    let there = c.in-Err.ensures (state_after (start_state max_depth) (tokens text)) is.0 in
    none_spelled text (json_refused text (λ _. sym (law.finishes max_depth (tokens text) c.args.tree (Err c.in-Err.tree) is.0 there ∙ law.text text)))
