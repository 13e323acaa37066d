use Rattle.std.proofs.Common.{List, length, sym, subst, ◌∙◌}
use Rattle.chk_file.specs.Cached.{CacheEntry, IsCacheCurrent}
use Rattle.std.specs.Prelude.{⊤, ◌==◌, ◌&&◌, not}
use Rattle.caps.specs.Weakening.{weakened}
use Rattle.caps.specs.Kinds.{is_verify_cap}
use Rattle.web_ops.specs.Answers.{health_reply}
use Rattle.web_ops.specs.Replied.{IsHealth}
use Rattle.caps.specs.declared.cap.Cap.{Cap}
use Rattle.web_replies.specs.declared.reply.Reply.{Reply}
use Rattle.web_ops.specs.Amid.{IsHealthAmid}
use Rattle.web_ops.proofs.Amid.{nowhere_amid, somewhere_amid, walked_amid, health_amid}
use Rattle.web_ops.proofs.Found.{from_somewhere, walked_to, walk_stopped}
use Rattle.chk_file.proofs.Freshness.{fresh_stays}
use Rattle.web_ops.proofs.checking.check.Goals as goal

pub returns-in-Ok-clause-found : goal.returns-in-Ok-clause-found
returns-in-Ok-clause-found g c =
    from_somewhere _ (is_verify_cap c.args.cap.now && not (length c.args.names.now == 0)) _ _ c.args.cap.now c.args.names.now c.health.result c.args.grid.now c.health.new.grid (sym c.leads_nowhere.ensures ∙ c.if-leads_nowhere.false)
    (walked_to _ ⊤ (λ end. IsHealth c.args.mapped (weakened end)) (λ look. health_reply c.args.mapped look c.args.verify) c.args.cap.now c.args.names.now c.in-Ok.end c.health.result c.args.grid.now c.walk.new.grid c.health.new.grid
    c.walk.ensures.leaves c.walk.ensures.unchanged (λ fresh. tt) c.in-Ok.ensures.leads c.in-Ok.ensures.reached c.health.ensures.found)

pub returns-in-Ok-clause-fresh : goal.returns-in-Ok-clause-fresh
returns-in-Ok-clause-fresh g c fresh =
    subst (λ (entries : List CacheEntry). IsCacheCurrent entries c.health.new.grid) (sym c.health.ensures.cached)
    (fresh_stays c.walk.new.cache c.walk.new.grid c.health.new.grid c.health.ensures.found.leaves c.health.ensures.stamped (c.walk.ensures.fresh fresh))

pub returns-in-Err-clause-found : goal.returns-in-Err-clause-found
returns-in-Err-clause-found g c =
    from_somewhere _ (is_verify_cap c.args.cap.now && not (length c.args.names.now == 0)) _ _ c.args.cap.now c.args.names.now c.walk_refused.result c.args.grid.now c.walk.new.grid (sym c.leads_nowhere.ensures ∙ c.if-leads_nowhere.false)
    (walk_stopped _ (λ end. IsHealth c.args.mapped (weakened end)) (λ look. health_reply c.args.mapped look c.args.verify) c.args.cap.now c.args.names.now c.in-Err.fault c.walk_refused.result c.args.grid.now c.walk.new.grid
    c.walk.ensures.leaves c.walk.ensures.unchanged c.in-Err.ensures.stops c.in-Err.ensures.refused c.walk_refused.ensures)

pub returns-then-leads_nowhere-clause-amid : goal.returns-then-leads_nowhere-clause-amid
returns-then-leads_nowhere-clause-amid g c =
    nowhere_amid _ _ (is_verify_cap c.args.cap.now && not (length c.args.names.now == 0)) c.args.cap.now c.args.names.now c.failure_reply.result c.args.cache.now c.args.grid.now
    (sym c.leads_nowhere.ensures ∙ c.if-leads_nowhere.true) c.failure_reply.ensures

pub returns-in-Ok-clause-amid : goal.returns-in-Ok-clause-amid
returns-in-Ok-clause-amid g c =
    let walk = c.walk.ensures in
    let old = c.args.grid.now in
    let mid = c.walk.new.grid in
    let new = c.health.new.grid in
    let cache : List CacheEntry = c.args.cache.now in
    let between : List CacheEntry = c.walk.new.cache in
    let kept : List CacheEntry = c.health.new.cache in
    let Is : Cap → Reply → Type 0 = λ end. IsHealthAmid old new c.args.mapped c.args.verify (weakened end) in
    somewhere_amid Is c.args.cap.now c.args.names.now c.health.result cache kept old new (is_verify_cap c.args.cap.now && not (length c.args.names.now == 0)) (sym c.leads_nowhere.ensures ∙ c.if-leads_nowhere.false)
    (walked_amid Is c.args.cap.now c.args.names.now c.health.result cache between kept old mid new walk.told walk.stand_still walk.kept_seen
    c.in-Ok.end (IsHealthAmid mid new c.args.mapped c.args.verify (weakened c.in-Ok.end)) c.health.ensures.found.leaves c.in-Ok.ensures.seen c.health.ensures.amid
    (λ all. health_amid old mid new walk.leaves walk.told walk.stand_still c.health.ensures.amid.told c.args.mapped c.args.verify (weakened c.in-Ok.end)))
