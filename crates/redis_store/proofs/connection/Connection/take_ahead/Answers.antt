use Rattle.std.proofs.Common.{◌≡◌, ◌∙◌, rules}
use Rattle.resp.specs.Spelled.{SpellsReply, SpellsAll}
use Rattle.redis_store.proofs.Talks.{told_before, told_again}
use Rattle.redis_store.proofs.connection.Connection.take_ahead.Goals as goal

pub returns-then-not-is_closed-clause-told : goal.returns-then-not-is_closed-clause-told
returns-then-not-is_closed-clause-told g c =
    told_before (λ d. g.L.Link.talk d.link) c.hear_ahead-answer.result c.keep.result (λ replies came. SpellsAll (SpellsReply c.args.limits) replies.items came) c.args.self.now.first _ c.hear_ahead-answer.new.self c.keep.new.self c.args.commands.now
    (c.args.self.now.told _ c.requires.awaited) c.hear_ahead-answer.ensures.heard c.keep.ensures.kept c.keep.ensures.answer

pub returns-clause-told : goal.returns-clause-told
returns-clause-told g c =
    let same : g.L.Link.talk c.close.new.self.link ≡ g.L.Link.talk c.args.self.now.link = c.close.ensures.talk ∙ c.hear_ahead-answer.ensures.closed (search rules) in
    told_again c.ask_each_anew.result (λ replies came. SpellsAll (SpellsReply c.args.limits) replies.items came) c.args.self.now.first c.close.new.self.first _ _ _ c.args.commands.now
    (c.args.self.now.told _ c.requires.awaited) same (c.close.ensures.first ∙ c.hear_ahead-answer.ensures.first) c.ask_each_anew.ensures.told
