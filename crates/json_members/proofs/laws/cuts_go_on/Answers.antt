use Rattle.json_members.proofs.Places.{SeamLaws, cuts_behind, back_behind}
use Rattle.json_members.proofs.laws.cuts_go_on.Goals as goal

pub returns : goal.returns
returns c =
    let laws : SeamLaws = record { places = c.cuts_are_found_in_parts.ensures.places; fresh = c.cuts_are_found_in_parts.ensures.fresh } in
    record { cuts = cuts_behind laws; back = back_behind }
