use Rattle.std.proofs.Common.{◌≡◌, [], map, Some, string_bytes}
use Rattle.toml.specs.View.{members_view}
use Rattle.option_file.specs.Words.{table_words, words_before}
use Rattle.option_file.proofs.words.words_of_table.Given as goal

-- what was added, and the entries that are left, are all
abbrev pub invariant-options : goal.invariant-options
invariant-options l = table_words (map string_bytes l.given) (members_view l.fn.table.entries)
    ≡ words_before [] (Some (map string_bytes l.words.items)) (table_words (map string_bytes l.given) (members_view l.key-iterator))
