use Rattle.std.specs.List.{AllWithin}
use Rattle.server_options.specs.Missing.{IsPresent}
use Rattle.server_options.proofs.options.is_one_present.Given as goal

-- each store that was looked at is missing
abbrev pub invariant-loop-store : goal.invariant-loop-store
invariant-loop-store l = AllWithin (λ store. ¬ (IsPresent store)) l.stores 0 l.store-index
