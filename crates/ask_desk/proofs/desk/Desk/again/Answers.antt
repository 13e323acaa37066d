use Rattle.std.proofs.Common.{refl, rules}
use Rattle.std.specs.Prelude.{is_ok}
use Rattle.ask_desk.proofs.Afters.{after_again}
use Rattle.ask_desk.proofs.desk.Desk.again.Goals as goal

pub returns-clause-after : goal.returns-clause-after
returns-clause-after c = λ past a.
    let desk = c.args.self.now in
    after_again past desk (record desk { waiting = c.push_back.new.self }) c.args.ask (is_ok c.push_back.result) a
    (record { awaited = refl; left = refl; reader = refl; kept = refl; over = refl }) (search rules) refl c.push_back.ensures.items
