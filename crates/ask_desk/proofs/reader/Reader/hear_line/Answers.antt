use Rattle.std.proofs.Common.{sym, subst, arith, rules, ◌≡◌, ◌++◌, take, Option, ℕ, lit<}
use Rattle.std.proofs.lemmas.Grind.{common_steps}
use Rattle.ask_desk.specs.CameIn.{reply_limits}
use Rattle.ask_desk.specs.Reading.{IsHeldAs}
use Rattle.ask_desk.proofs.LineSteps.{line_too_long, line_of_bulk, line_more, line_whole, line_wrong}
use Rattle.ask_desk.proofs.reader.Reader.hear_line.Goals as goal

pub returns-then-len-most : goal.returns-then-len-most
returns-then-len-most c = λ keeps part h.
    let self = c.args.self.now in
    let now = c.extend_from_slice.new.self.items in
    let is : now ≡ self.line.items ++ take c.line_part-count.result c.args.bytes.now = grind (arith, common_steps) in
    let sound = rw c.deref.ensures.value at c.in-Some.ensures.sound in
    line_too_long self.line.items self.content.items part c.args.bytes.now now c.line_part-count.result c.args.most c.in-Some.len c.in-Some.start h is sound.1 c.if-len-most.true

pub returns-in-Some : goal.returns-in-Some
returns-in-Some c = λ keeps part h.
    let self = c.args.self.now in
    let now = c.extend_from_slice.new.self.items in
    let is : now ≡ self.line.items ++ take c.line_part-count.result c.args.bytes.now = grind (arith, common_steps) in
    let sound = rw c.deref.ensures.value at c.in-Some.ensures.sound in
    let step =
    line_of_bulk keeps self.line.items self.content.items part c.args.bytes.now now c.truncate.new.self.items c.line_part-count.result c.args.most c.in-Some.len c.in-Some.start c.saturating_sub.result h is sound.1 sound.0 c.if-len-most.false
    c.truncate.ensures.items (search rules) in
    record { some = step.0.some; within = step.0.within; leads = step.1 }

pub returns-in-Ok-None : goal.returns-in-Ok-None
returns-in-Ok-None c = λ keeps part h.
    let self = c.args.self.now in
    let now = c.extend_from_slice.new.self.items in
    let is : now ≡ self.line.items ++ take c.line_part-count.result c.args.bytes.now = grind (arith, common_steps) in
    let reads = rw c.deref.ensures.value at c.read_bulk_line.ensures.whole in
    let begun = rw c.deref-2.ensures.value at (rw c.in-Ok-None.field-0-is at c.in-Ok-None.ensures.sound) in
    let new = record self { line = c.extend_from_slice.new.self } in
    record {
      some = c.line_part-count.ensures.some c.requires.some;
      within = c.line_part-count.ensures.within;
      leads = subst (λ (w : Option ℕ). IsHeldAs w keeps c.args.most new (part ++ take c.line_part-count.result c.args.bytes.now)) (sym c.requires.line)
          (line_more self.line.items self.content.items part c.args.bytes.now now c.line_part-count.result c.read_bulk_line.result h is reads c.in_default.is begun);
    }

pub returns-in-Ok-Some : goal.returns-in-Ok-Some
returns-in-Ok-Some c = λ keeps part h.
    let self = c.args.self.now in
    let now = c.extend_from_slice.new.self.items in
    let is : now ≡ self.line.items ++ take c.line_part-count.result c.args.bytes.now = grind (arith, common_steps) in
    let reads = rw c.deref.ensures.value at c.read_bulk_line.ensures.whole in
    let read = rw c.deref-2.ensures.value at (rw c.in-Ok-Some.field-0-is at c.in-Ok-Some.ensures.sound) in
    let step =
    line_whole self.line.items self.content.items part c.args.bytes.now now c.line_part-count.result c.args.most c.in-Ok-Some.len c.saturating_sub-in-Ok-Some.result c.read_bulk_line.result c.in-Ok-Some.reply
    (λ one two front back other rest here there e. (c.one_reply.ensures reply_limits one two front back other rest (lit< tt) here there e).1) h is reads c.in_default.is read.0 read.1 (search rules) in
    record {
      some = step.0.some;
      within = step.0.within;
      leads = (step.1, record { wants = c.requires.line; none = c.clear.ensures.items; none_kept = h.none });
    }

pub returns-in-Err-Wrong : goal.returns-in-Err-Wrong
returns-in-Err-Wrong c = λ keeps part h.
    let self = c.args.self.now in
    let now = c.extend_from_slice.new.self.items in
    let is : now ≡ self.line.items ++ take c.line_part-count.result c.args.bytes.now = grind (arith, common_steps) in
    let wrong = rw c.deref-2.ensures.value at (rw c.in-Err-Wrong.field-0-is at c.in-Err-Wrong.ensures.sound) in
    line_wrong self.line.items self.content.items part c.args.bytes.now now c.line_part-count.result c.in-Err-Wrong.field-0-1 h is wrong
