use Rattle.std.proofs.Common.{refl, sym, subst, ◌∙◌, true}
use Rattle.ask_desk.specs.declared.reader.Read.{Read}
use Rattle.ask_desk.specs.declared.fault.DeskFault.TheVariants.{NoMemory}
use Rattle.ask_desk.specs.Reading.{IsStep}
use Rattle.ask_desk.proofs.Hears.{at_err, at_ok, expected, hears_more, hears_whole, hears_skipped, hears_no_more}
use Rattle.ask_desk.proofs.desk.Desk.hear_next.Goals as goal

pub returns-in-Err : goal.returns-in-Err
returns-in-Err c = λ past a.
    let desk = c.args.self.now in
    let due = c.in-Some.due in
    let e = expected past desk a due c.is_some.result c.requires.hearing (sym c.in-Some.is ∙ c.next_due.ensures) c.is_some.ensures in
    hears_no_more past desk (record desk { reader = c.hear.new.self; is_over = true }) a c.args.bytes.now due c.is_some.result c.in-Err.fault e (c.in-Err.ensures a.now.part e.held)
    (record { asked = refl; waiting = refl; left = refl }) refl (λ owner. refl) refl

pub returns-then-is_err : goal.returns-then-is_err
returns-then-is_err c = λ past a.
    let desk = c.args.self.now in
    let due = c.in-Some.due in
    let e = expected past desk a due c.is_some.result c.requires.hearing (sym c.in-Some.is ∙ c.next_due.ensures) c.is_some.ensures in
    hears_no_more past desk (record desk { reader = c.hear.new.self; kept = c.keep.new.kept; is_over = true }) a c.args.bytes.now due c.is_some.result NoMemory e tt
    (record { asked = refl; waiting = refl; left = refl }) refl (at_err c.keep.result c.is_err.result c.is_err.ensures.value c.if-is_err.true c.keep.ensures.err) refl

pub returns-in-More : goal.returns-in-More
returns-in-More c = λ past a.
    let desk = c.args.self.now in
    let due = c.in-Some.due in
    let e = expected past desk a due c.is_some.result c.requires.hearing (sym c.in-Some.is ∙ c.next_due.ensures) c.is_some.ensures in
    let step = subst (λ (r : Read). IsStep c.is_some.result due.most a.now.part c.args.bytes.now (record { count = c.in-Ok.step.count; read = r }) c.hear.new.self) c.in-More.is (c.in-Ok.ensures a.now.part e.held) in
    hears_more past desk (record desk { reader = c.hear.new.self }) a c.args.bytes.now due c.is_some.result c.in-Ok.step.count c.requires.hearing c.is_some.ensures e step
    (record { asked = refl; waiting = refl; left = refl }) refl refl refl

pub returns-else-is_err : goal.returns-else-is_err
returns-else-is_err c = λ past a.
    let desk = c.args.self.now in
    let due = c.in-Some.due in
    let e = expected past desk a due c.is_some.result c.requires.hearing (sym c.in-Some.is ∙ c.next_due.ensures) c.is_some.ensures in
    let step = subst (λ (r : Read). IsStep c.is_some.result due.most a.now.part c.args.bytes.now (record { count = c.in-Ok.step.count; read = r }) c.hear.new.self) c.in-Whole.is (c.in-Ok.ensures a.now.part e.held) in
    hears_whole past desk (record desk { reader = c.hear.new.self; kept = c.keep.new.kept; awaited = c.pop_front.new.self }) a c.args.bytes.now due c.is_some.result c.in-Ok.step.count c.in-Whole.reply c.requires.hearing e step
    (record { asked = refl; waiting = refl; left = refl }) c.pop_front.ensures.rest (at_ok c.keep.result c.is_err.result c.is_err.ensures.value c.if-is_err.false c.keep.ensures.ok) refl

pub returns-in-Skipped : goal.returns-in-Skipped
returns-in-Skipped c = λ past a.
    let desk = c.args.self.now in
    let due = c.in-Some.due in
    let e = expected past desk a due c.is_some.result c.requires.hearing (sym c.in-Some.is ∙ c.next_due.ensures) c.is_some.ensures in
    let step = subst (λ (r : Read). IsStep c.is_some.result due.most a.now.part c.args.bytes.now (record { count = c.in-Ok.step.count; read = r }) c.hear.new.self) c.in-Skipped.is (c.in-Ok.ensures a.now.part e.held) in
    hears_skipped past desk (record desk { reader = c.hear.new.self; awaited = c.pop_front-in-Skipped.new.self }) a c.args.bytes.now due c.is_some.result c.in-Ok.step.count c.requires.hearing c.is_some.ensures e step
    (record { asked = refl; waiting = refl; left = refl }) c.pop_front-in-Skipped.ensures.rest refl refl
