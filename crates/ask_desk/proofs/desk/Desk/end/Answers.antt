use Rattle.std.proofs.Common.{refl, ap, ◌∙◌, false}
use Rattle.ask_desk.proofs.Afters.{after_ended}
use Rattle.ask_desk.proofs.desk.Desk.end.Goals as goal

pub returns-clause-after : goal.returns-clause-after
returns-clause-after c = λ past a.
    let desk = c.args.self.now in
    after_ended past desk (record desk { awaited = c.replace.new.dest; left = 0; reader = c.clear.new.self; is_over = false }) a refl refl
    (ap (λ q. q.items) c.replace.ensures.after ∙ c.new.ensures.items) refl refl refl c.clear.ensures
