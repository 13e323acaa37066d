use Rattle.std.proofs.Common.{◌≡◌, ℕ, List, subst}
use Rattle.grid.specs.GridState.{StoreState}
use Rattle.grid.specs.Standing.{at_server}
use Rattle.share_store.specs.Shares.{bytes_of}
use Rattle.gate_tasks.proofs.Restores.{held_is}
use Rattle.gate_tasks.proofs.calls.held_is_what_stands.Goals as goal

pub returns : goal.returns
returns c =
    subst (λ (stores : List StoreState). (s : ℕ) → at_server (λ (t : StoreState). t.held) stores s ≡ at_server (λ (t : StoreState). bytes_of t.shares) stores s) c.servers-servers.ensures
    (held_is c.servers-servers.result.now)
