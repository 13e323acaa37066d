-- How far the reading of children JSON is; for private clauses.
use Rattle.std.specs.Prelude.{◌≡◌, ◌⊎◌, ℕ, ◌<◌, ◌≤◌, ⊤, List, length, take, Some, Err}
use Rattle.std.specs.Str.{IsUtf8}
use Rattle.json.specs.Lex.{tokens}
use Rattle.json.specs.Json as json
use Rattle.json_stack.specs.Machine.{whole_value}
use Rattle.serde_json.specs.Data.{object, Members, no_members}
use Rattle.serde_json.specs.Read.{of_members, max_depth}
use Rattle.children_reader.specs.Children.{making}
use Rattle.children_reader.specs.Collected.{object_behind, with_before}
use Rattle.children_reader.specs.Kept.{AreOutcomes}
use Rattle.json_spelling.specs.Metadata.{json_of}
use Rattle.children_reader.specs.Readings.{IsReadingAt, IsLaterFrom}
use Rattle.children_reader.specs.declared.collecting.Collecting.{Collecting}
use Rattle.children_reader.specs.declared.collecting.Collected.{Collected}
use Rattle.dir_codec.specs.declared.fault.DirFault.TheVariants.{NotJson}

-- the members up to a place of the text were read
pub record IsCollecting (text : List ℕ) (g : Collecting) : Type 0 where
  pub parts : json.Members
  pub members : Members
  pub within : g.at ≤ length text
  pub utf8 : IsUtf8 (take g.at text)
  pub value : whole_value max_depth (tokens text) ≡ with_before parts (whole_value max_depth (tokens (object_behind g.at text)))
  pub read : of_members parts no_members ≡ Some members
  pub outcomes : AreOutcomes g.outcomes.entries members
  pub reading : IsReadingAt text g.at g.reading

-- and so they were, or all were, or the text has a fault
abbrev pub IsCollectedOn : List ℕ → Collected → Type 0
IsCollectedOn text (Collected.More g) = IsCollecting text g
IsCollectedOn text (Collected.All outcomes) = (ms : Members) × (json_of text ≡ Some (object ms)) × AreOutcomes outcomes.entries ms
IsCollectedOn text (Collected.Refused outcomes remains) = making text ≡ Err NotJson

-- more of the text was read, or the members behind that are further
abbrev pub IsFurther : Collecting → Collected → Type 0
IsFurther g (Collected.More next) = (g.at < next.at) ⊎ ((g.at ≡ next.at) × IsLaterFrom g.at g.reading next.reading)
IsFurther g other = ⊤

-- a part that stands there was read
abbrev pub IsPastPart : ℕ → Collected → Type 0
IsPastPart at (Collected.More next) = at < next.at
IsPastPart at other = ⊤
