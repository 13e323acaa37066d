-- The arguments of a command line, as clap's reference reads them.
use Rattle.std.specs.Prelude.{◌≡◌, ℕ, true, false, List, Some}
use Rattle.clap.specs.Words.{Rule, new_rule, rule_of}
use Rattle.clap.specs.declared.builder.action.ArgAction.TheVariants.{Append, SetTrue}
use Rattle.clap.specs.declared.builder.arg.Arg.{Arg}

-- an option with a value, `--NAME VALUE`
abbrev pub valued : List ℕ → Rule
valued name = record (new_rule name) { long = Some name; value_names = 1 }

-- a flag, `--NAME`
abbrev pub flag : List ℕ → Rule
flag name = record (new_rule name) { long = Some name; action = Some SetTrue }

-- a word by its place
abbrev pub placed_rule : List ℕ → Rule
placed_rule name = record (new_rule name) { value_names = 1 }

-- one that has to stand
abbrev pub needed : List ℕ → Rule
needed name = record (placed_rule name) { required = true }

-- an argument that may stand several times
abbrev pub repeated : Rule → Rule
repeated rule = record rule { action = Some Append }

-- an argument has this rule
abbrev pub HasRule : Rule → Arg → Type 0
HasRule rule arg = (rule_of arg ≡ rule) × (arg.global ≡ false)
