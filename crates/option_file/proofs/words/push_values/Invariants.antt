use Rattle.std.proofs.Common.{◌≡◌, ℕ, ◌++◌, List, drop, map, option_map, string_bytes}
use Rattle.toml.specs.View.{items_view}
use Rattle.option_file.specs.Words.{items_words, option_name}
use Rattle.option_file.proofs.words.push_values.Given as goal

-- what was added, and the values that are left, are all
abbrev pub invariant-loop-value : goal.invariant-loop-value
invariant-loop-value l = (key : List ℕ) → l.name ≡ option_name key
    → option_map (λ more. map string_bytes l.initial.words.items ++ more) (items_words key (items_view l.values.items))
    ≡ option_map (λ more. map string_bytes l.words.items ++ more) (items_words key (items_view (drop l.value-index l.values.items)))
