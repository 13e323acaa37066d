-- The search for a comma at which a text may be cut; for private clauses.
use Rattle.std.specs.Prelude.{◌≡◌, ℕ, ◌-◌, ◌≤◌, List, length, take, drop}
use Rattle.json.specs.Lex.{Mode, between}
use Rattle.json_seams.specs.Cuts.{IsCutComma}
use Rattle.json_seams.specs.Modes.{mode_after}
use Rattle.json_spelling.specs.declared.comma_search.CommaSearch.{CommaSearch}

-- From a place on a text was looked through up to another, where the scanner stands in that mode.
pub record IsSearchedTo (text : List ℕ) (at : ℕ) (end : ℕ) (mode : Mode) : Type 0 where
  pub ahead : at ≤ end
  pub within : end ≤ length text
  pub stands : mode ≡ mode_after between (take (end - at) (drop at text))

abbrev pub IsSearched : List ℕ → ℕ → CommaSearch → Type 0
IsSearched text at search = IsSearchedTo text at search.reached search.scanner

-- What stands at a place of a text may be cut at that comma.
pub record IsCommaCut (text : List ℕ) (at cut : ℕ) : Type 0 where
  pub ahead : at ≤ cut
  pub comma : IsCutComma (drop at text) (cut - at)
