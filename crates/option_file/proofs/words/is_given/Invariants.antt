use Rattle.std.proofs.Common.{◌≡◌, drop, map, string_bytes}
use Rattle.std.specs.List.{list_any}
use Rattle.option_file.specs.Words.{is_option}
use Rattle.option_file.proofs.words.is_given.Given as goal

-- the words that are left decide
abbrev pub invariant-loop-word : goal.invariant-loop-word
invariant-loop-word l = list_any (is_option l.name) (map string_bytes l.given) ≡ list_any (is_option l.name) (map string_bytes (drop l.word-index l.given))
