-- The command line of woz, as clap's reference reads one.
use Rattle.std.specs.Prelude.{ℕ, List, [], ◌∷◌, Some, codes}
use Rattle.clap.specs.Words.{App, Rule, Shape}
use Rattle.command_words.specs.Rules.{flag, needed, placed_rule, repeated, valued}
use Rattle.command_words.specs.Verbs.{program_of, verb}

-- `--recursive`, or `-r`
abbrev pub recursive : Rule
recursive = record (flag (codes "recursive")) { short = Some 114 }

-- how many connections there may be
abbrev pub jobs : Rule
jobs = valued (codes "jobs")

-- the file that tells what was stored before
abbrev pub skip_existing : Rule
skip_existing = valued (codes "skip-existing")

-- shares are verified, or files that were stored before
abbrev pub verify : Rule
verify = flag (codes "verify")

-- the cap, and a path below it
abbrev pub node_rule : Rule
node_rule = needed (codes "node")

-- one child or more
abbrev pub children_rule : Rule
children_rule = repeated (needed (codes "children"))

abbrev pub put_verb : Shape
put_verb = verb (codes "put") (recursive ∷ jobs ∷ skip_existing ∷ verify ∷ needed (codes "what") ∷ [])

abbrev pub get_verb : Shape
get_verb = verb (codes "get") (recursive ∷ jobs ∷ node_rule ∷ placed_rule (codes "file") ∷ [])

abbrev pub ls_verb : Shape
ls_verb = verb (codes "ls") (flag (codes "json") ∷ node_rule ∷ [])

abbrev pub check_verb : Shape
check_verb = verb (codes "check") (verify ∷ flag (codes "read") ∷ recursive ∷ node_rule ∷ [])

abbrev pub repair_verb : Shape
repair_verb = verb (codes "repair") (recursive ∷ node_rule ∷ [])

abbrev pub mkdir_verb : Shape
mkdir_verb = verb (codes "mkdir") (children_rule ∷ [])

abbrev pub verb_shapes : List Shape
verb_shapes = put_verb ∷ get_verb ∷ ls_verb ∷ check_verb ∷ repair_verb ∷ mkdir_verb ∷ []

-- the program's options, and its verbs
abbrev pub woz : App
woz = program_of (codes "woz") (valued (codes "gateway") ∷ valued (codes "patience") ∷ flag (codes "quiet") ∷ []) verb_shapes
