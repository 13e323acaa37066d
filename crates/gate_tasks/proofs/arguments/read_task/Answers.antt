use Rattle.std.proofs.Common.{sym, ◌∙◌}
use Rattle.std.proofs.lemmas.Slice.Eq.{bytes_eq-Decides}
use Rattle.gate_tasks.proofs.Asks.{asks_replay}
use Rattle.gate_tasks.proofs.arguments.read_task.Goals as goal

pub returns-then-eq-clause-asks : goal.returns-then-eq-clause-asks
returns-then-eq-clause-asks c =
    let same = (bytes_eq-Decides c.as_slice.result.now c.as_slice-2.result.now).0 (sym c.eq.ensures ∙ c.if-eq.true) in
    asks_replay c.args.words.now c.in-Some.verb.now c.in-Some.arguments.now c.in-Some.ensures.cases.0 (sym c.as_slice.ensures ∙ same ∙ c.as_slice-2.ensures) c.if-not-is_empty.ensures
