use Rattle.std.proofs.Common.{sym}
use Rattle.share_store.specs.Shares.{ShareKey}
use Rattle.shelf_store.specs.Doubt.{in_doubt, as_before}
use Rattle.shelf_store.specs.Known.{known}
use Rattle.shelf_store.proofs.Steps.{is_in}
use Rattle.shelf_store.proofs.shelf_store.ShelfStoreStore.has.Goals as goal

pub returns-clause-found : goal.returns-clause-found
returns-clause-found g c h same =
    let self = c.args.self.now in
    let key : ShareKey = (c.args.index, c.args.number) in
    sym (is_in (known self.sizes) (as_before (in_doubt self.doubt) (g.H.Shelf.shares self.shelf)) (self.in_step.sizes h) key c.is_some.result c.get.result c.is_some.ensures c.get.ensures)
