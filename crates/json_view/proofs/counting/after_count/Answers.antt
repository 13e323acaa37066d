use Rattle.std.proofs.Common.{◌≤◌, length, ap, arith}
use Rattle.std.specs.Rc.{rc_slice_items}
use Rattle.json_view.specs.Listings.{IsCountedTo}
use Rattle.json_view.proofs.Listings.{count_done}
use Rattle.json_view.proofs.counting.after_count.Goals as goal

pub invariant_of-result-else-at-as_slice : goal.invariant_of-result-else-at-as_slice
invariant_of-result-else-at-as_slice c =
    let text = rc_slice_items c.args.text in
    let counted : IsCountedTo c.args.last.items text c.in-Ok.at c.in-Ok.count = rw c.in-Ok.is at c.requires.counted in
    let past : length text ≤ c.in-Ok.at = omega (arith, c.if-at-as_slice.false, ap length c.as_slice.ensures.value) in
    record { is = count_done c.args.last.items text c.in-Ok.at c.in-Ok.count counted past; kept = c.requires.kept }
