-- The parts that a value is written in, and let go of.
use Rattle.std.specs.Prelude.{ℕ, suc, ◌+◌, Option, Some, None}
use Rattle.serde_json.specs.Data.{Data, null, boolean, number, string, array, object, Items, no_items, item, Members, no_members, member}
use Rattle.serde_json.specs.View.{view}
use Rattle.serde_json.specs.declared.value.Value.{Value}

-- An array or object has two parts of its own, where it opens and where it closes, and any other value one. So a value has at
-- least as many parts as there are values in it, itself counted.
abbrev mutual
  pub part_count : Data → ℕ
  part_count null = 1
  part_count (boolean b) = 1
  part_count (number n) = 1
  part_count (string s) = 1
  part_count (array ds) = suc (suc (items_part_count ds))
  part_count (object ms) = suc (suc (members_part_count ms))

  pub items_part_count : Items → ℕ
  items_part_count no_items = 0
  items_part_count (item d ds) = part_count d + items_part_count ds

  pub members_part_count : Members → ℕ
  members_part_count no_members = 0
  members_part_count (member k d ms) = part_count d + members_part_count ms

-- the parts of a value, where there is one
abbrev pub value_part_count : Option Value → ℕ
value_part_count None = 0
value_part_count (Some value) = part_count (view value)
