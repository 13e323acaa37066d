use Rattle.std.proofs.Common.{List, refl, rules, arith, ap, ◌∙◌, ◌≡◌, ◌++◌, ◌∷◌, []}
use Rattle.std.proofs.lemmas.List.{nil_from_length}
use Rattle.ask_desk.specs.declared.ask.Ask.{Ask}
use Rattle.ask_desk.proofs.Afters.{after_going_on, after_none_written, after_none_waits, after_begun}
use Rattle.ask_desk.proofs.desk.Desk.wrote.Goals as goal

pub returns-then-self-gt0-clause-after : goal.returns-then-self-gt0-clause-after
returns-then-self-gt0-clause-after c = λ past a.
    let desk = c.args.self.now in
    after_going_on past desk (record desk { left = c.saturating_sub-self.result }) c.args.count a c.requires c.if-self-gt0.true (ap (λ n. record desk { left = n }) c.saturating_sub-self.ensures)

pub returns-then-count-eq0-clause-after : goal.returns-then-count-eq0-clause-after
returns-then-count-eq0-clause-after c = λ past a.
    after_none_written past c.args.self.now c.args.count a (omega arith) (omega arith)

pub returns-in-Some-clause-after : goal.returns-in-Some-clause-after
returns-in-Some-clause-after c = λ past a.
    let desk = c.args.self.now in
    after_begun past desk (record desk { waiting = c.pop_front.new.self; awaited = c.push_back_reserved.new.self; left = c.saturating_sub-self-in-Some.result }) c.args.count c.in-Some.ask a c.requires (omega arith) (λ e. omega arith)
    c.in-Some.ensures.items (◌∙◌ {A = List Ask} c.push_back_reserved.ensures.items (ap (λ (l : List Ask). l ++ c.in-Some.ask ∷ []) c.reserve.ensures.items))
    (search rules) refl refl refl refl

pub returns-in_default-clause-after : goal.returns-in_default-clause-after
returns-in_default-clause-after c = λ past a.
    let desk = c.args.self.now in
    let none : c.pop_front.new.self.items ≡ [] = nil_from_length c.pop_front.new.self.items (omega (arith, c.in_default.ensures.cases.1, c.pop_front.new.self.ok.0)) in
    after_none_waits past desk (record desk { waiting = c.pop_front.new.self; awaited = c.reserve.new.self }) c.args.count a
    (record { awaited = c.reserve.ensures.items; left = refl; reader = refl; kept = refl; over = refl }) (omega arith) (λ e. omega arith)
    (c.in_default.ensures.items ∙ none) refl none
