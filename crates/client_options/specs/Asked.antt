-- What the words of a command line ask for, by what clap's reference finds in them.
use Rattle.std.specs.Prelude.{◌≡◌, ◌==◌, ℕ, List, Option, codes, map, option_map}
use Rattle.std.specs.List.{before_first, after_first}
use Rattle.clap.specs.Words.{Row, first_of, matches_of, subcommand_of}
use Rattle.command_words.specs.Given.{IsVerb, is_set, word_of, words_of}
use Rattle.client_options.specs.CommandLine.{woz}
use Rattle.client_options.specs.declared.task.Node.{Node}
use Rattle.client_options.specs.declared.task.Options.{Options}
use Rattle.client_options.specs.declared.task.Task.{Task}
use Rattle.client_options.specs.declared.task.Task.TheVariants.{Put, Get, List as Ls, Check, Repair, Mkdir}

-- the first `/` of a word is behind its cap
pub record IsNodeOf (rows : List Row) (node : Node) : Type 0 where
  pub cap : node.cap.now ≡ before_first (λ b. b == 47) (word_of (codes "node") rows)
  pub path : node.path.now ≡ after_first (λ b. b == 47) (word_of (codes "node") rows)

-- a task is what a verb asks for
abbrev pub IsTask : Option (List ℕ × List Row) → Task → Type 0
IsTask given (Put what recursive jobs state verified) = IsVerb given (codes "put") (λ rows.
    (what.now ≡ word_of (codes "what") rows) × ((recursive ≡ is_set (codes "recursive") rows)
    × ((option_map (λ s. s.now) jobs ≡ first_of (codes "jobs") rows)
    × ((option_map (λ s. s.now) state ≡ first_of (codes "skip-existing") rows)
    × (verified ≡ is_set (codes "verify") rows)))))
IsTask given (Get node file recursive jobs) = IsVerb given (codes "get") (λ rows.
    IsNodeOf rows node × ((option_map (λ s. s.now) file ≡ first_of (codes "file") rows)
    × ((recursive ≡ is_set (codes "recursive") rows)
    × (option_map (λ s. s.now) jobs ≡ first_of (codes "jobs") rows))))
IsTask given (Ls node json) = IsVerb given (codes "ls") (λ rows.
    IsNodeOf rows node × (json ≡ is_set (codes "json") rows))
IsTask given (Check node verify read recursive) = IsVerb given (codes "check") (λ rows.
    IsNodeOf rows node × ((verify ≡ is_set (codes "verify") rows)
    × ((read ≡ is_set (codes "read") rows) × (recursive ≡ is_set (codes "recursive") rows))))
IsTask given (Repair node recursive) = IsVerb given (codes "repair") (λ rows.
    IsNodeOf rows node × (recursive ≡ is_set (codes "recursive") rows))
IsTask given (Mkdir children) = IsVerb given (codes "mkdir") (λ rows.
    map (λ s. s.now) children.items ≡ words_of (codes "children") rows)

-- options are what the words of a command line say, the program's name first
pub record AreOptionsOf (words : List (List ℕ)) (options : Options) : Type 0 where
  pub gateway : option_map (λ s. s.now) options.gateway ≡ first_of (codes "gateway") (matches_of woz words)
  pub patience : option_map (λ s. s.now) options.patience ≡ first_of (codes "patience") (matches_of woz words)
  pub quiet : options.quiet ≡ is_set (codes "quiet") (matches_of woz words)
  pub task : IsTask (subcommand_of woz words) options.task
