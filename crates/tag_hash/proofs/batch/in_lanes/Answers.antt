use Rattle.tag_hash.proofs.LaneLemmas.{each_lane}
use Rattle.tag_hash.proofs.batch.in_lanes.Goals as goal

pub returns-clause-own : goal.returns-clause-own
returns-clause-own c = each_lane _ c.in_lane.ensures.own c.in_lane-2.ensures.own c.in_lane-3.ensures.own c.in_lane-4.ensures.own c.in_lane-5.ensures.own c.in_lane-6.ensures.own c.in_lane-7.ensures.own c.in_lane-8.ensures.own

pub returns-clause-short : goal.returns-clause-short
returns-clause-short c = λ m all. each_lane _ (c.in_lane.ensures.short m all) (c.in_lane-2.ensures.short m all) (c.in_lane-3.ensures.short m all) (c.in_lane-4.ensures.short m all) (c.in_lane-5.ensures.short m all) (c.in_lane-6.ensures.short m all) (c.in_lane-7.ensures.short m all) (c.in_lane-8.ensures.short m all)
