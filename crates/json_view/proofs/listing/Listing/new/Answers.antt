use Rattle.std.proofs.Common.{◌≡◌, ◌+◌, ◌++◌, false, length, ap, subst, ◌∙◌, arith}
use Rattle.std.specs.Rc.{rc_slice_items}
use Rattle.json_view.specs.Listings.{IsListingOf, head_unless, dir_end, listing_left, IsCountOfChildren, IsCountOrFault}
use Rattle.json_view.proofs.Listings.{whole_is, whole_counted}
use Rattle.json_view.proofs.listing.Listing.new.Goals as goal

pub invariant_of-result : goal.invariant_of-result
invariant_of-result c =
    let text = rc_slice_items c.counted.inside.text in
    let head = c.put_head_unless.new.out.items in
    let end = c.put_dir_end.new.out.items in
    let count = c.in_ok-count.count in
    let counted : IsCountOfChildren text count = subst (IsCountOrFault text) c.in_ok-count.was c.counted.invariant.is in
    let begun = c.in_ok-put_head_unless.ensures ∙ ap (λ t. t ++ head_unless false) c.new-head.ensures.items in
    let left : c.in-Some.left ≡ length head + count + length end = omega (arith, c.in-Some.ensures, c.len.ensures, c.len-2.ensures) in
    whole_counted text end head count c.in-Some.left c.counted.inside.spellings.items counted c.counted.invariant.kept begun left

pub returns-clause-read : goal.returns-clause-read
returns-clause-read c =
    let text = rc_slice_items c.counted.inside.text in
    let end = c.put_dir_end.new.out.items in
    let count = c.in_ok-count.count in
    let counted : IsCountOfChildren text count = subst (IsCountOrFault text) c.in_ok-count.was c.counted.invariant.is in
    let ends = c.in_ok-put_dir_end.ensures ∙ ap (λ t. t ++ dir_end c.args.cap.now) c.new-end.ensures.items in
    subst (λ t. IsListingOf c.args.cap.now t (listing_left false false 0 text end)) c.counted.view_is (whole_is c.args.cap.now text end count counted ends)
