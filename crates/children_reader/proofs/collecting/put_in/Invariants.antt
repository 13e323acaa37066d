use Rattle.std.specs.Vec.Iter.{into_iter_items}
use Rattle.serde_json.specs.Data.{Members}
use Rattle.children_reader.specs.Collected.{AreEntered}
use Rattle.children_reader.specs.Kept.{AreOutcomes}
use Rattle.children_reader.proofs.collecting.put_in.Given as goal

abbrev pub invariant-loop-key : goal.invariant-loop-key
invariant-loop-key l =
    (before after : Members) → AreOutcomes l.fn.outcomes.entries before → AreEntered l.fn.found.items before after
    → (now : Members) × AreOutcomes l.outcomes.entries now × AreEntered (into_iter_items l.key-iterator) now after
