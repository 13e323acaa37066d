use Rattle.std.proofs.Common.{◌≡◌}
use Rattle.std.specs.List.{AllWithin}
use Rattle.store_care.proofs.images.hold_nothing.Given as goal

-- the stores that were looked at hold nothing
abbrev pub invariant-loop-store : goal.invariant-loop-store
invariant-loop-store g l = AllWithin (λ store. store.sizes.held ≡ 0) l.stores 0 l.store-index
