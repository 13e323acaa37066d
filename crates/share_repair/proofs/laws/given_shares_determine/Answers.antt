use Rattle.share_repair.proofs.Determined.{determined}
use Rattle.share_repair.proofs.laws.given_shares_determine.Goals as goal

pub returns : goal.returns
returns c label one other given a b =
    determined c.made_shares_meet_their_fields.ensures c.good_shares_are_read.ensures.found c.good_shares_are_read.ensures.none c.made_shares_are_read_back.ensures c.any_shares_determine.ensures label one other given a b
