-- How far a directory's text is counted.
use Rattle.std.specs.Prelude.{ℕ, List}
use Rattle.json_view.specs.declared.counting.Count.{Count}
use Rattle.json_view.specs.declared.counting.Count.TheVariants.{Going, Done}

-- the text that is counted
abbrev pub count_text : Count → List ℕ
count_text (Going counting) = counting
count_text (Done counted) = counted
