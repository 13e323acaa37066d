use Rattle.std.proofs.Common.{◌≡◌, ◌∙◌, ap, sym}
use Rattle.std.proofs.lemmas.Result.{IfOk-weaker}
use Rattle.server_gateway.proofs.Counted.{as_many}
use Rattle.server_gateway.proofs.gateway.open_under.Goals as goal

pub returns-clause-needed : goal.returns-clause-needed
returns-clause-needed g c = IfOk-weaker c.gateway_over.result _ _ (λ gateway is. ap (λ w. w.settings.k) is) c.gateway_over.ensures.held

pub returns-clause-made : goal.returns-clause-made
returns-clause-made g c = IfOk-weaker c.gateway_over.result _ _ (λ gateway is. ap (λ w. w.settings.n) is) c.gateway_over.ensures.held

pub returns-clause-secret : goal.returns-clause-secret
returns-clause-secret g c = IfOk-weaker c.gateway_over.result _ _ (λ gateway is. ap (λ w. w.settings.secret) is ∙ c.bytes-2.ensures) c.gateway_over.ensures.held

pub returns-clause-servers : goal.returns-clause-servers
returns-clause-servers g c =
    IfOk-weaker c.gateway_over.result _ _
    (λ gateway is. ap (λ w. w.settings.servers) is ∙ c.in_ok-stores.stores.ok.0 ∙ as_many _ _ _ _ c.in_ok-stores.ensures.1 ∙ sym c.args.options.now.stores.ok.0)
    c.gateway_over.ensures.held

pub returns-clause-fresh : goal.returns-clause-fresh
returns-clause-fresh g c = IfOk-weaker c.gateway_over.result _ _ (λ gateway is. ap (λ w. w.connections) is) c.gateway_over.ensures.held
