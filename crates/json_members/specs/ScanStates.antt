-- What contracts see of a scanner.
use Rattle.std.specs.Prelude.{◌≡◌, ℕ, refl}
use Rattle.std.specs.Coded.{Coded, code_by, coded×, coded_ℕ}
use Rattle.json.specs.Lex.{Mode}
use Rattle.json_seams.specs.Modes.{mode_code}

-- where the lexer stands, and how many brackets are open
pub record ScanState : Type 0 where
  pub mode : Mode
  pub depth : ℕ

-- ---- how the logic stores a state

abbrev state_to_pair : ScanState → Mode × ℕ
state_to_pair s = (s.mode, s.depth)

abbrev state_from_pair : Mode × ℕ → ScanState
state_from_pair p = record { mode = p.0; depth = p.1 }

pub state_from_pair-state_to_pair : (s : ScanState) → state_from_pair (state_to_pair s) ≡ s
state_from_pair-state_to_pair s = refl

abbrev pub scan_state_code : Coded ScanState
scan_state_code = code_by (Mode × ℕ) (coded× mode_code coded_ℕ) state_to_pair state_from_pair state_from_pair-state_to_pair
