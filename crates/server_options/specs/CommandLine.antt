-- The command line of wozhinnam, as clap's reference reads one.
use Rattle.std.specs.Prelude.{◌++◌, ℕ, true, false, List, [], ◌∷◌, Some, codes}
use Rattle.clap.specs.Words.{App, Rule, Shape}
use Rattle.clap.specs.declared.builder.action.ArgAction.TheVariants.{Append}
use Rattle.clap.specs.declared.builder.value_parser.ValueParser.{ValueParser}
use Rattle.clap.specs.declared.builder.value_parser.ValueParser.TheVariants.{Unsigned}
use Rattle.command_words.specs.Rules.{flag, needed, placed_rule, repeated, valued}
use Rattle.command_words.specs.Verbs.{program_of, verb}

-- an option that has this value where it doesn't stand
abbrev pub with_default : List ℕ → Rule → Rule
with_default text rule = record rule { defaults = text ∷ [] }

-- one whose values are read so
abbrev pub with_parser_of : ValueParser → Rule → Rule
with_parser_of parser rule = record rule { parser = Some parser }

-- one that doesn't stand beside another one
abbrev pub excluding : Rule → Rule
excluding rule = record rule { is_free = false }

-- one that has to stand, with 1 to 256 values
abbrev pub many : Rule → Rule
many rule = record rule {
  required = true;
  range = Some (record { start_inclusive = 1; end_inclusive = 256 });
  action = Some Append;
}

-- the file, the addresses and `--shares`
abbrev pub entry_rules : List Rule
entry_rules = valued (codes "config")
    ∷ with_default (codes "127.0.0.1:3456") (repeated (valued (codes "listen")))
    ∷ valued (codes "control")
    ∷ valued (codes "control-token-file")
    ∷ with_default (codes "3,10") (valued (codes "shares"))
    ∷ []

abbrev pub store_rules : List Rule
store_rules = repeated (valued (codes "store"))
    ∷ excluding (with_default (codes "5") (with_parser_of (Unsigned 1 256) (valued (codes "servers"))))
    ∷ with_default (codes "1G") (valued (codes "room"))
    ∷ repeated (valued (codes "new"))
    ∷ repeated (valued (codes "missing"))
    ∷ flag (codes "no-sync")
    ∷ valued (codes "secret-file")
    ∷ valued (codes "redis-password-file")
    ∷ []

abbrev pub page_rules : List Rule
page_rules = valued (codes "pages") ∷ excluding (flag (codes "no-pages")) ∷ []

abbrev pub limit_rules : List Rule
limit_rules = with_default (codes "900") (with_parser_of (Unsigned 1 1000000) (valued (codes "connections")))
    ∷ with_parser_of (Unsigned 1 1000000) (valued (codes "per-address"))
    ∷ with_default (codes "60") (with_parser_of (Unsigned 1 86400) (valued (codes "idle")))
    ∷ with_default (codes "256M") (valued (codes "memory"))
    ∷ []

abbrev pub log_rules : ValueParser → ValueParser → List Rule
log_rules levels formats = with_default (codes "info") (with_parser_of levels (valued (codes "log-level")))
    ∷ with_default (codes "text") (with_parser_of formats (valued (codes "log-format")))
    ∷ []

abbrev pub paths_rule : Rule
paths_rule = many (placed_rule (codes "paths"))

abbrev pub serve_rules : ValueParser → ValueParser → List Rule
serve_rules levels formats = entry_rules ++ (store_rules ++ (page_rules ++ (limit_rules ++ log_rules levels formats)))

abbrev pub repair_rules : List Rule
repair_rules = repeated (valued (codes "new"))
    ∷ flag (codes "no-sync")
    ∷ valued (codes "redis-password-file")
    ∷ paths_rule
    ∷ []

abbrev pub reshape_rules : List Rule
reshape_rules = paths_rule ∷ many (valued (codes "into")) ∷ flag (codes "no-sync") ∷ []

abbrev pub restore_rules : List Rule
restore_rules = with_default (codes "3,10") (valued (codes "shares"))
    ∷ valued (codes "secret-file")
    ∷ flag (codes "no-sync")
    ∷ needed (codes "file")
    ∷ paths_rule
    ∷ []

abbrev pub verbs_of : ValueParser → ValueParser → List Shape
verbs_of levels formats = verb (codes "serve") (serve_rules levels formats)
    ∷ verb (codes "check") (paths_rule ∷ [])
    ∷ verb (codes "repair") repair_rules
    ∷ verb (codes "reshape") reshape_rules
    ∷ verb (codes "image") (paths_rule ∷ [])
    ∷ verb (codes "restore") restore_rules
    ∷ []

-- the program and its verbs; the words that name a level or a format of the log are left open
abbrev pub wozhinnam : ValueParser → ValueParser → App
wozhinnam levels formats = program_of (codes "wozhinnam") [] (verbs_of levels formats)
