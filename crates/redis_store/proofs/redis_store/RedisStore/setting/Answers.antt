use Rattle.std.proofs.Common.{◌∙◌, ap, append-nil}
use Rattle.redis_store.proofs.Puts.{setting_said}
use Rattle.redis_store.proofs.redis_store.RedisStore.setting.Goals as goal

pub returns-clause-said : goal.returns-clause-said
returns-clause-said g c =
    let told = c.in_ok-reply.ensures.told in
    let old = c.args.self.now.connection in
    setting_said old.is_open old.first (g.L.Link.talk old.link) _ _ c.args.name.now _ _ told.0 told.1 told.2
    (append-nil c.deref.result.now ∙ c.deref.ensures.value ∙ c.in_ok-command.ensures)
    (ap g.L.Link.talk c.well.ensures.link) c.in_ok-value.value c.in_ok-value.ensures
