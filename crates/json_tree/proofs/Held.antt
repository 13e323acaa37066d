-- The parts of what is open, and of items, with one more at the end.
use Rattle.std.proofs.Common.{◌≡◌, ◌+◌, ◌<◌, List, [], ◌∷◌, ◌++◌, length, arith}
use Rattle.serde_json.specs.View.{view, items_view}
use Rattle.serde_json.specs.declared.value.Value.{Value}
use Rattle.json_tree.specs.Parts.{part_count, items_part_count}
use Rattle.json_tree.specs.Remains.{opened_part_count, opened_parts}
use Rattle.json_tree.specs.declared.builder.Opened.{Opened}

pub opened_parts_more : (os : List Opened) (o : Opened) → opened_parts (os ++ o ∷ []) ≡ opened_parts os + opened_part_count o
opened_parts_more [] o = omega arith
opened_parts_more (x ∷ os) o = omega (arith, opened_parts_more os o)

pub items_parts_more : (vs : List Value) (v : Value) → items_part_count (items_view (vs ++ v ∷ [])) ≡ items_part_count (items_view vs) + part_count (view v)
items_parts_more [] v = omega arith
items_parts_more (w ∷ vs) v = omega (arith, items_parts_more vs v)

opened_some : (o : Opened) → 0 < opened_part_count o
opened_some (Opened.Array items) = omega arith
opened_some (Opened.Object members) = omega arith
opened_some (Opened.Member members key) = omega arith

pub parts_open : (os : List Opened) → 0 < length os → 0 < opened_parts os
parts_open [] some = absurd (omega arith)
parts_open (o ∷ os) some = omega (arith, opened_some o)
