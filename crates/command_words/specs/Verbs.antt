-- Verbs, and programs of which one has to stand, as clap's reference reads them.
use Rattle.std.specs.Prelude.{◌≡◌, ℕ, true, false, List}
use Rattle.clap.specs.Words.{App, Rule, Shape, shape_of}
use Rattle.clap.specs.Simple.{new_shape}
use Rattle.clap.specs.declared.builder.command.Command.{Command}
use Rattle.clap.specs.declared.builder.command.Command.TheViews.{out-Command}

-- a verb and what may stand behind it
abbrev pub verb : List ℕ → List Rule → Shape
verb name rules = record (new_shape name) { rules = rules }

-- a verb's command has this shape
abbrev pub HasShape : Shape → Command → Type 0
HasShape shape command = (shape_of command ≡ shape) × ((out-Command command).has_globals ≡ false)

-- a program's options, and its verbs, of which one has to stand
abbrev pub program_of : List ℕ → List Rule → List Shape → App
program_of name options verbs = record {
  top = record (new_shape name) {
    rules = options;
    is_leaf = false;
    has_version = true;
    subcommand_required = true;
  };
  subs = verbs;
}
