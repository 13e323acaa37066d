-- A change that a shelf may have done or not.
use Rattle.std.specs.Prelude.{ℕ, List, Option, Some, None}
use Rattle.std.specs.Option.{option_map}
use Rattle.std.specs.FinMap.{insert, remove}
use Rattle.std.specs.Rc.{rc_slice_items}
use Rattle.share_store.specs.Shares.{Shares, ShareKey}
use Rattle.shelf_store.specs.declared.doubt.Doubt.{Doubt}

-- the key of the change, and the bytes that stood there before it; nothing where no change is in doubt
abbrev pub InDoubt : Type 0
InDoubt = Option (ShareKey × Option (List ℕ))

abbrev pub in_doubt : Option Doubt → InDoubt
in_doubt doubt = option_map (λ d. ((d.index, d.number), option_map rc_slice_items d.before)) doubt

-- as they stood before the change
abbrev pub as_before : InDoubt → Shares → Shares
as_before None m = m
as_before (Some (key, None)) m = remove m key
as_before (Some (key, Some bytes)) m = insert m key bytes
