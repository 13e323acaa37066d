use Rattle.std.proofs.Common.{◌+◌, map, subst, sym, take}
use Rattle.server_options.specs.Named.{AreNamesOf}
use Rattle.server_options.proofs.StoreLemmas.{names_more}
use Rattle.server_options.proofs.options.read_named.Goals as goal

pub loop-name-preserved : goal.loop-name-preserved
loop-name-preserved c =
    subst (λ stores. AreNamesOf c.args.room (map (λ s. s.now) (take (c.loop-name.name-index + 1) c.deref-name-items.result.now)) stores) (sym c.in_ok-push.ensures.items)
    (names_more c.args.room c.deref-name-items.result.now c.loop-name.name-index _ c.loop-name.stores.items c.in-Some.store c.loop-name.invariant c.loop-name-test.true
    c.in-Some.ensures)
