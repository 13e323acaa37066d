use Rattle.std.proofs.Common.{◌∙◌, sym, ap}
use Rattle.std.specs.Option.{option_map}
use Rattle.share_store.specs.Shares.{ShareKey}
use Rattle.shelf_store.specs.Doubt.{in_doubt, as_before}
use Rattle.shelf_store.specs.Known.{known}
use Rattle.share_store.specs.Stored.{blank}
use Rattle.shelf_store.proofs.Sizes.{none_as}
use Rattle.shelf_store.proofs.shelf_store.ShelfStore.look.Goals as goal

pub returns-in-None-clause-found : goal.returns-in-None-clause-found
returns-in-None-clause-found g c h same =
    let key : ShareKey = (c.args.index, c.args.number) in
    let self = c.args.self.now in
    sym (none_as (known self.sizes) (as_before (in_doubt self.doubt) (g.H.Shelf.shares self.shelf)) (self.in_step.sizes h) key (sym c.get.ensures ∙ ap (option_map blank) c.in-None.is))
