-- The mode that a value of the scanner's enum stands for.
use Rattle.std.specs.Prelude.{◌≡◌, refl}
use Rattle.json.specs.Lex.{Mode, between, in_word, in_string, in_escape}
use Rattle.json_seams.specs.declared.scanner.Standing.{Standing}
use Rattle.json_seams.specs.declared.scanner.Standing.TheVariants.{Between, InWord, InString, InEscape}

abbrev pub mode_of : Standing → Mode
mode_of Between = between
mode_of InWord = in_word
mode_of InString = in_string
mode_of InEscape = in_escape

-- and back
abbrev pub standing_of : Mode → Standing
standing_of between = Between
standing_of in_word = InWord
standing_of in_string = InString
standing_of in_escape = InEscape

pub standing_kept : (standing : Standing) → standing_of (mode_of standing) ≡ standing
standing_kept Between = refl
standing_kept InWord = refl
standing_kept InString = refl
standing_kept InEscape = refl
