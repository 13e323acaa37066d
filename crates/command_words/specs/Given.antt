-- What a command line gives under a name, by what clap's reference finds in its words.
use Rattle.std.specs.Prelude.{◌≡◌, ℕ, Bool, false, List, [], Option, Some, codes, unwrap_or}
use Rattle.std.specs.Option.{option_map_or}
use Rattle.std.specs.Str.{bytes_eq}
use Rattle.clap.specs.Words.{Row, all_of, first_of, found_of, rows_of}
use Rattle.clap.specs.declared.parser.matches.ArgMatches.{ArgMatches}

-- what was given
abbrev pub given_rows : ArgMatches → List Row
given_rows given = rows_of (found_of given)

-- the word under a name, or an empty one
abbrev pub word_of : List ℕ → List Row → List ℕ
word_of name rows = unwrap_or (first_of name rows) []

-- all words under it, in their order
abbrev pub words_of : List ℕ → List Row → List (List ℕ)
words_of name rows = unwrap_or (all_of name rows) []

-- a flag is set
abbrev pub is_set : List ℕ → List Row → Bool
is_set name rows = option_map_or (λ word. bytes_eq word (codes "true")) (first_of name rows) false

-- a verb was given, and this holds of what stands behind it
abbrev pub IsVerb : Option (List ℕ × List Row) → List ℕ → (List Row → Type 0) → Type 0
IsVerb given verb Holds = (rows : List Row) × ((given ≡ Some (verb, rows)) × Holds rows)
