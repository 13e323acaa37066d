use Rattle.std.proofs.Common.{string_bytes, sym, subst}
use Rattle.serde_json.specs.Data.{put}
use Rattle.children_reader.specs.Collected.{AreEntered}
use Rattle.children_reader.specs.Kept.{IsOutcome, AreOutcomes}
use Rattle.json_spelling.proofs.AtKeys.{at_put}
use Rattle.children_reader.proofs.collecting.put_in.Goals as goal

pub loop-key-preserved : goal.loop-key-preserved
loop-key-preserved c before after are all =
    let l = c.loop-key in
    let i = l.invariant before after are all in
    let key = c.in-Some.key in
    let turn = subst (λ es. AreEntered es i.0 after) c.in-Some.ensures.steps.0 i.2 in
    let now = put (string_bytes key) turn.0 i.0 in
    let there = at_put IsOutcome l.outcomes.entries i.0 key c.in-Some.outcome turn.0 i.1 turn.1 in
    (now, subst (λ es. AreOutcomes es now) (sym c.in_ok-insert.ensures.entries) there, turn.2)
