-- Which server a call names as down, after a stamp was raised.
use Rattle.std.proofs.Common.{◌≡◌, ◌<◌, List, Result, subst}
use Rattle.std.specs.Prelude.{◌↔◌, IsErrOf}
use Rattle.grid.specs.declared.fault.GridFault.{GridFault}
use Rattle.grid.specs.declared.fault.GridFault.TheVariants.{Down}
use Rattle.grid.specs.GridState.{StoreState, GridState, failures_at}
use Rattle.grid.specs.Leaves.{TellsDown}

pub down_raised : {T : Type 0} (old mid new : GridState) (result : Result T GridFault) → mid.stores ≡ old.stores → TellsDown mid new result → TellsDown old new result
down_raised old mid new result is down s =
    subst (λ (ts : List StoreState). IsErrOf result (Down s) ↔ (failures_at (record { stores = ts; stamps = mid.stamps }) s < failures_at new s)) is (down s)
