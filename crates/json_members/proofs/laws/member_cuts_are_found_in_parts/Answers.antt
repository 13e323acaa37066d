use Rattle.json_members.proofs.Places.{SeamLaws, depths, places, bounded}
use Rattle.json_members.proofs.Found.{front_cuts, front_same}
use Rattle.json_members.proofs.laws.member_cuts_are_found_in_parts.Goals as goal

pub returns : goal.returns
returns c =
    let laws : SeamLaws = record { places = c.cuts_are_found_in_parts.ensures.places; fresh = c.cuts_are_found_in_parts.ensures.fresh } in
    record { depths = depths; places = places laws; in_front = front_cuts; front_same = front_same; bounded = bounded }
