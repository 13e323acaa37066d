use Rattle.caps.specs.Kinds.{is_verify_cap}
use Rattle.web_ops.specs.Answers.{node_reply}
use Rattle.std.proofs.Common.{List, sym, ◌∙◌}
use Rattle.caps.specs.declared.cap.Cap.{Cap}
use Rattle.web_replies.specs.declared.reply.Reply.{Reply}
use Rattle.web_ops.specs.Replied.{IsNode}
use Rattle.web_ops.proofs.Found.{from_somewhere, walked_to, walk_stopped}
use Rattle.chk_file.specs.Cached.{CacheEntry}
use Rattle.path_walk.specs.Amid.{IsGivenAmid}
use Rattle.web_ops.specs.Amid.{IsNodeBy}
use Rattle.web_ops.proofs.Amid.{nowhere_amid, walked_amid, stopped_amid, somewhere_amid, node_amid}
use Rattle.web_ops.proofs.node.get.Goals as goal

pub returns-in-Ok-clause-found : goal.returns-in-Ok-clause-found
returns-in-Ok-clause-found g c =
    from_somewhere _ (is_verify_cap c.args.cap.now) _ _ c.args.cap.now c.args.names.now c.node.result c.args.grid.now c.node.new.grid (sym c.is_verify_cap.ensures ∙ c.if-is_verify_cap.false)
    (walked_to _ _ (IsNode c.args.json c.args.range) (λ look. node_reply look.gives c.args.json c.args.range) c.args.cap.now c.args.names.now c.in-Ok.end c.node.result c.args.grid.now c.walk.new.grid c.node.new.grid
    c.walk.ensures.leaves c.walk.ensures.unchanged c.walk.ensures.fresh c.in-Ok.ensures.leads c.in-Ok.ensures.reached c.node.ensures.found)

pub returns-in-Ok-clause-fresh : goal.returns-in-Ok-clause-fresh
returns-in-Ok-clause-fresh g c fresh = c.node.ensures.fresh (c.walk.ensures.fresh fresh)

pub returns-in-Err-clause-found : goal.returns-in-Err-clause-found
returns-in-Err-clause-found g c =
    from_somewhere _ (is_verify_cap c.args.cap.now) _ _ c.args.cap.now c.args.names.now c.walk_refused.result c.args.grid.now c.walk.new.grid (sym c.is_verify_cap.ensures ∙ c.if-is_verify_cap.false)
    (walk_stopped _ (IsNode c.args.json c.args.range) (λ look. node_reply look.gives c.args.json c.args.range) c.args.cap.now c.args.names.now c.in-Err.fault c.walk_refused.result c.args.grid.now c.walk.new.grid
    c.walk.ensures.leaves c.walk.ensures.unchanged c.in-Err.ensures.stops c.in-Err.ensures.refused c.walk_refused.ensures)

pub returns-in-Ok-clause-amid : goal.returns-in-Ok-clause-amid
returns-in-Ok-clause-amid g c =
    let walk = c.walk.ensures in
    let old = c.args.grid.now in
    let mid = c.walk.new.grid in
    let new = c.node.new.grid in
    let cache : List CacheEntry = c.args.cache.now in
    let between : List CacheEntry = c.walk.new.cache in
    let kept : List CacheEntry = c.node.new.cache in
    let Is : Cap → Reply → Type 0 = IsNodeBy (IsGivenAmid cache old new) c.args.json c.args.range in
    somewhere_amid Is c.args.cap.now c.args.names.now c.node.result cache kept old new (is_verify_cap c.args.cap.now) (sym c.is_verify_cap.ensures ∙ c.if-is_verify_cap.false)
    (walked_amid Is c.args.cap.now c.args.names.now c.node.result cache between kept old mid new walk.told walk.stand_still walk.kept_seen
    c.in-Ok.end (IsNodeBy (IsGivenAmid between mid new) c.args.json c.args.range c.in-Ok.end) c.node.ensures.found.leaves c.in-Ok.ensures.seen c.node.ensures.amid
    (λ all x by. node_amid cache between old mid new walk.leaves walk.told walk.stand_still c.node.ensures.amid.told (walk.kept_seen all) c.args.json c.args.range c.in-Ok.end x by))

pub returns-in-Err-clause-amid : goal.returns-in-Err-clause-amid
returns-in-Err-clause-amid g c =
    let walk = c.walk.ensures in
    let old = c.args.grid.now in
    let new = c.walk.new.grid in
    let cache : List CacheEntry = c.args.cache.now in
    let kept : List CacheEntry = c.walk.new.cache in
    let Is : Cap → Reply → Type 0 = IsNodeBy (IsGivenAmid cache old new) c.args.json c.args.range in
    somewhere_amid Is c.args.cap.now c.args.names.now c.walk_refused.result cache kept old new (is_verify_cap c.args.cap.now) (sym c.is_verify_cap.ensures ∙ c.if-is_verify_cap.false)
    (stopped_amid Is c.args.cap.now c.args.names.now c.walk_refused.result cache kept old new c.in-Err.fault walk.told walk.stand_still walk.kept_seen c.in-Err.ensures.seen c.walk_refused.ensures)

pub returns-then-is_verify_cap-clause-amid : goal.returns-then-is_verify_cap-clause-amid
returns-then-is_verify_cap-clause-amid g c =
    nowhere_amid _ _ (is_verify_cap c.args.cap.now) c.args.cap.now c.args.names.now c.failure_reply.result c.args.cache.now c.args.grid.now
    (sym c.is_verify_cap.ensures ∙ c.if-is_verify_cap.true) c.failure_reply.ensures
