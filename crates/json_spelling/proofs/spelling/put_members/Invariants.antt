use Rattle.std.proofs.Common.{◌≡◌, max, ◌∷◌, ◌++◌, ◌||◌, false}
use Rattle.json_spelling.specs.Spelled.{spelled_text, entries_levels, entries_fractional}
use Rattle.json_spelling.proofs.spelling.put_members.Given as goal

abbrev pub invariant-loop-name : goal.invariant-loop-name
invariant-loop-name l =
    (l.out.items ++ spelled_text l.later l.name-iterator ≡ l.fn.out.items ++ 123 ∷ spelled_text false l.members.entries)
    × (max l.extent.levels (entries_levels l.name-iterator) ≡ entries_levels l.members.entries)
    × ((l.extent.fractional || entries_fractional l.name-iterator) ≡ entries_fractional l.members.entries)
