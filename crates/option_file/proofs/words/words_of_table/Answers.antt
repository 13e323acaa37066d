use Rattle.std.proofs.Common.{◌≡◌, [], ◌∷◌, Some, map, string_bytes, ap, ◌∙◌, arith}
use Rattle.std.proofs.lemmas.Grind.{common_steps}
use Rattle.toml.specs.View.{members_view}
use Rattle.toml.proofs.Views.{Entry}
use Rattle.option_file.specs.Words.{table_words, words_before}
use Rattle.option_file.proofs.WordLemmas.{option_added}
use Rattle.option_file.proofs.words.words_of_table.Goals as goal

pub options-preserved : goal.options-preserved
options-preserved c =
    let e : Entry = (c.in-Some.key.now, c.in-Some.value.now) in
    let iter : c.options.key-iterator ≡ e ∷ c.next.new.self = grind (arith, common_steps) in
    c.options.invariant
    ∙ ap (λ es. words_before [] (Some (map string_bytes c.options.words.items)) (table_words (map string_bytes c.args.given.now) (members_view es))) iter
    ∙ option_added (string_bytes c.in-Some.key.now) _ _ _ (table_words (map string_bytes c.args.given.now) (members_view c.next.new.self))
    (rw (c.as_str.ensures.value, c.if-not-branch.false) at c.in_ok-push_beside.ensures)
