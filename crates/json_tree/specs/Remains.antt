-- What is held of values that are let go of.
use Rattle.std.specs.Prelude.{ℕ, suc, ◌+◌, List, [], ◌∷◌}
use Rattle.serde_json.specs.View.{items_view, members_view}
use Rattle.json_tree.specs.Parts.{items_part_count, members_part_count, value_part_count}
use Rattle.json_tree.specs.declared.builder.Opened.{Opened}
use Rattle.json_tree.specs.declared.builder.TreeBuilder.{TreeBuilder}
use Rattle.json_tree.specs.declared.remains.Remains.{Remains}

-- the parts of what is in an array or object, and the one with which it ends
abbrev pub opened_part_count : Opened → ℕ
opened_part_count (Opened.Array items) = suc (items_part_count (items_view items.items))
opened_part_count (Opened.Object members) = suc (members_part_count (members_view members.entries))
opened_part_count (Opened.Member members key) = suc (members_part_count (members_view members.entries))

-- of all that are open
abbrev pub opened_parts : List Opened → ℕ
opened_parts [] = 0
opened_parts (o ∷ os) = opened_part_count o + opened_parts os

-- how many parts a builder holds
abbrev pub parts_built : TreeBuilder → ℕ
parts_built builder = value_part_count builder.value + opened_parts builder.opened.items

-- how many parts have yet to be let go of
abbrev pub parts_left : Remains → ℕ
parts_left remains = value_part_count remains.value + opened_parts remains.opened.items
