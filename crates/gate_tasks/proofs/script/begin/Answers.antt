use Rattle.std.proofs.Common.{◌≡◌, length, None, sym, subst, ap, ◌∙◌, vec_len}
use Rattle.gate_core.specs.ConnectionState.{State}
use Rattle.gate_core.proofs.Maps.{None-from_test}
use Rattle.gate_tasks.specs.Running.{IsProgress}
use Rattle.gate_tasks.proofs.Begins.{begin_made, made_with, set_is}
use Rattle.gate_tasks.proofs.script.begin.Goals as goal

pub returns-in-Ok : goal.returns-in-Ok
returns-in-Ok c log at =
    let was = c.args.progress.now.grid in
    let grid = c.args.grid in
    let none : c.args.progress.now.gateway ≡ None = None-from_test c.args.progress.now.gateway (sym c.is_some.ensures ∙ c.if-is_some.false) in
    let servers = vec_len c.in_ok-stores.stores in
    let secret = c.as_slice.result.now in
    begin_made log was grid c.in-Ok.made (subst (IsProgress log was) none at)
    (ap (λ (s : State). s.settings) c.in-Ok.ensures.held ∙ set_is grid secret servers c.as_slice.ensures c.in_ok-stores.ensures.count)
    (ap (λ (s : State). s.grid.stores) c.in-Ok.ensures.held ∙ c.in_ok-stores.ensures.fresh)
    c.in-Ok.ensures.came
    (made_with grid servers (length secret) (Unit {0}) _ c.in_ok-stores.ensures.count (ap length c.as_slice.ensures) tt (λ _ h. cc) c.in-Ok.ensures.refused)
