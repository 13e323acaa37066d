use Rattle.std.proofs.Common.{inr}
use Rattle.client_tasks.proofs.putting.make_folder.Goals as goal

-- the cap is of a directory, which has the children
pub invariant_of-print_cap : goal.invariant_of-print_cap
invariant_of-print_cap g c =
    let has = c.in_ok-cap-2.ensures in
    record { bound = ∣ inr (record { entries = has.entries; of_cap = has.of_cap }) ∣₁ }
