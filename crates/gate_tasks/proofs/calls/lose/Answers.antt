use Rattle.std.proofs.lemmas.Result.{MatchResult-weaker}
use Rattle.gate_tasks.proofs.CallLemmas.{lost_called, lose_refused}
use Rattle.gate_tasks.proofs.calls.lose.Goals as goal

pub returns-in-Ok : goal.returns-in-Ok
returns-in-Ok c =
    lost_called c.args.gateway.now c.lose-lost.new.self c.args.share.now c.in-Ok.lost _ c.in-Ok.ensures.left c.in-Ok.ensures.no_server (λ h. cc) c.in-Ok.ensures.lost c.in-Ok.ensures.came

pub returns-in-Err : goal.returns-in-Err
returns-in-Err c =
    MatchResult-weaker c.grid_refused.result c.grid_refused.ensures
    (λ reply is.
    lose_refused c.args.gateway.now c.lose-lost.new.self c.args.share.now c.in-Err.fault reply is.0 c.in-Err.ensures.left c.no_store_failed.ensures c.no_store_failed-2.ensures c.in-Err.ensures.refusals is.1
    c.in-Err.ensures.down c.in-Err.ensures.no_server c.in-Err.ensures.refused)
    (λ _ _. tt)
