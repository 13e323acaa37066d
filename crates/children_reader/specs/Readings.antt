-- How far the reading of members of children JSON is, whatever the order of keys in them; for private clauses.
use Rattle.std.specs.Prelude.{⊤, ℕ, ◌<◌, List, Option, Some, None}
use Rattle.serde_json.specs.Read.{max_depth}
use Rattle.json_tree.specs.Builders.{HasTakenTokens}
use Rattle.json_tree.specs.Remains.{parts_left}
use Rattle.children_reader.specs.Collected.{AreMembersRead}
use Rattle.children_reader.specs.MemberReader.{IsReading}
use Rattle.children_reader.specs.Piecewise.{IsReadSoFar, IsPartTaken, HasNoObjectBehind}
use Rattle.children_reader.specs.Taking.{IsTakenFrom, HasLessToTake}
use Rattle.children_reader.specs.declared.piecewise.ReadOn.{ReadOn}
use Rattle.children_reader.specs.declared.piecewise.Reading.{Reading}

-- what was read of the members at a place
abbrev pub IsReadingOf : List ℕ → ℕ → Reading → Type 0
IsReadingOf json at (Reading.Rising reader) = IsReadSoFar IsReading json at reader
IsReadingOf json at (Reading.Building reader) = IsReadSoFar (HasTakenTokens max_depth) json at reader
IsReadingOf json at (Reading.Taking taking next) = IsPartTaken IsTakenFrom json at taking next
IsReadingOf json at (Reading.LettingGo found remains next) = IsPartTaken (λ ts es. AreMembersRead es ts) json at found.items next

-- the same where some are under way
abbrev pub IsReadingAt : List ℕ → ℕ → Option Reading → Type 0
IsReadingAt json at None = ⊤
IsReadingAt json at (Some reading) = IsReadingOf json at reading

-- the reading goes on so, or the members of a part were read, or there are none
abbrev pub IsReadOn : List ℕ → ℕ → ReadOn → Type 0
IsReadOn json at (ReadOn.More next) = IsReadingOf json at next
IsReadOn json at (ReadOn.All found next) = IsPartTaken (λ ts es. AreMembersRead es ts) json at found.items next
IsReadOn json at (ReadOn.NotJson remains) = HasNoObjectBehind json at

-- ---- it comes to an end

-- more was looked through, or it stands at a later stage, or has less to do there
abbrev pub IsLaterReading : Reading → Reading → Type 0
IsLaterReading (Reading.Rising reader) (Reading.Rising next) = reader.looked.search.reached < next.looked.search.reached
IsLaterReading (Reading.Rising reader) next = ⊤
IsLaterReading (Reading.Building reader) (Reading.Rising next) = ⊥
IsLaterReading (Reading.Building reader) (Reading.Building next) = reader.looked.search.reached < next.looked.search.reached
IsLaterReading (Reading.Building reader) next = ⊤
IsLaterReading (Reading.Taking taking next) (Reading.Taking fewer end) = HasLessToTake taking fewer
IsLaterReading (Reading.Taking taking next) (Reading.LettingGo found remains end) = ⊤
IsLaterReading (Reading.Taking taking next) other = ⊥
IsLaterReading (Reading.LettingGo found remains next) (Reading.LettingGo same rest end) = parts_left rest < parts_left remains
IsLaterReading (Reading.LettingGo found remains next) other = ⊥

-- the same from a place on, where nothing may be under way
abbrev pub IsLaterFrom : ℕ → Option Reading → Option Reading → Type 0
IsLaterFrom at old None = ⊥
IsLaterFrom at None (Some (Reading.Rising reader)) = at < reader.looked.search.reached
IsLaterFrom at None (Some next) = ⊤
IsLaterFrom at (Some reading) (Some next) = IsLaterReading reading next

-- a reading that goes on has less to do
abbrev pub IsLaterOn : Reading → ReadOn → Type 0
IsLaterOn reading (ReadOn.More next) = IsLaterReading reading next
IsLaterOn reading other = ⊤

-- it does not go on
abbrev pub AreReadOrNot : ReadOn → Type 0
AreReadOrNot (ReadOn.More next) = ⊥
AreReadOrNot other = ⊤

-- or only to take what a tree holds
abbrev pub AreTakenOrNot : ReadOn → Type 0
AreTakenOrNot (ReadOn.More (Reading.Taking taking next)) = ⊤
AreTakenOrNot (ReadOn.More other) = ⊥
AreTakenOrNot other = ⊤
