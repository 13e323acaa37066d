use Rattle.std.proofs.Common.{refl, rules}
use Rattle.ask_desk.specs.Asks.{ask_for}
use Rattle.ask_desk.proofs.Afters.{after_nothing, after_asked}
use Rattle.ask_desk.proofs.desk.Desk.ask.Goals as goal

pub returns-then-is_err-clause-after : goal.returns-then-is_err-clause-after
returns-then-is_err-clause-after c = λ past a.
    let desk = c.args.self.now in
    after_nothing past desk (record desk { waiting = c.push_back.new.self }) a (record { awaited = refl; left = refl; reader = refl; kept = refl; over = refl }) refl (search rules)

pub returns-clause-after : goal.returns-clause-after
returns-clause-after c = λ past a.
    let desk = c.args.self.now in
    after_asked past desk (record desk { asked = c.in-Some.asked; waiting = c.push_back.new.self }) (ask_for c.args.owner desk.asked c.args.command c.args.most) a
    (record { awaited = refl; left = refl; reader = refl; kept = refl; over = refl }) (search rules) (search rules)
