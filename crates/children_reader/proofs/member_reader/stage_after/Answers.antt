use Rattle.std.proofs.Common.{subst}
use Rattle.serde_json.specs.Data.{put}
use Rattle.children_reader.specs.Kept.{AreChildFields, IsOutcome}
use Rattle.children_reader.proofs.MemberStages.{member_ended, item_ended, field_ended}
use Rattle.children_reader.proofs.member_reader.stage_after.Goals as goal

pub returns-in-Member-clause-ok : goal.returns-in-Member-clause-ok
returns-in-Member-clause-ok c =
    let key = c.in-Member.key in
    let outcome = c.in_ok-outcome-in-Member.outcome in
    rw c.in-Member.is
    (λ room frames j d at made is fits.
    member_ended c.args.outcomes.now.items c.push.new.self.items key outcome c.in_ok-push-in-Member.ensures.items room frames j d at made
    (subst (λ k. IsOutcome k d outcome) c.as_str.ensures.value (c.in_ok-outcome-in-Member.ensures d fits)))

pub returns-in-Pair-clause-ok : goal.returns-in-Pair-clause-ok
returns-in-Pair-clause-ok c =
    rw c.in-Pair.is
    (λ room frames j d at made is fits.
    item_ended c.args.outcomes.now.items c.in-Pair.key c.in-Pair.listed c.with_item.result room frames j d at made (λ ds are. c.with_item.ensures ds d are is fits))

pub returns-in-Field-clause-ok : goal.returns-in-Field-clause-ok
returns-in-Field-clause-ok c =
    let name = c.in-Field.name in
    rw c.in-Field.is
    (λ room frames j d at made is fits.
    field_ended c.args.outcomes.now.items c.in-Field.key name c.in-Field.fields c.put.new.self room frames j d at made
    (λ ms are. subst (λ k. AreChildFields c.put.new.self (put k d ms)) c.as_str-in-Field.ensures.value (c.put.ensures d ms is are)))
