use Rattle.std.proofs.Common.{ap, sym, subst}
use Rattle.std.specs.Prelude.{◌≡◌, Option, IfOk}
use Rattle.gate_core.specs.ConnectionState.{ConnectionState}
use Rattle.gate_core.specs.Kept.{bytes_of_body_in, HasNoChunks}
use Rattle.gate_core.proofs.Forgetting.{entry_found, no_entry, unheld_of_body}
use Rattle.gate_core.proofs.gateway.Gateway.of_body.Goals as goal

pub returns-in-Some-clause-count : goal.returns-in-Some-clause-count
returns-in-Some-clause-count g c =
    subst (λ (o : Option ConnectionState). IfOk c.of_body.result (λ count. count ≡ bytes_of_body_in o c.args.next.now))
    (sym (entry_found c.args.self.now.connections _ _ c.args.id (ap (λ s. s.connections) c.self.view_is) _ c.in-Some.ensures.value)) c.of_body.ensures.count

pub returns-in-Some-clause-takes_no_memory : goal.returns-in-Some-clause-takes_no_memory
returns-in-Some-clause-takes_no_memory g c none =
    c.of_body.ensures.takes_no_memory
    (subst HasNoChunks (entry_found c.args.self.now.connections _ _ c.args.id (ap (λ s. s.connections) c.self.view_is) _ c.in-Some.ensures.value) none)

pub returns-in-None-clause-count : goal.returns-in-None-clause-count
returns-in-None-clause-count g c =
    sym (unheld_of_body c.args.self.now c.args.self.now c.args.id _ (no_entry c.args.self.now.connections _ _ c.args.id (ap (λ s. s.connections) c.self.view_is) c.in-None.ensures.value) c.args.next.now)
