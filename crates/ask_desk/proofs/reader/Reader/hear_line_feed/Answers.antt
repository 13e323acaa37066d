use Rattle.std.proofs.Common.{sym, subst, arith, rules, ◌++◌, take, Option, ℕ, List, Bool}
use Rattle.ask_desk.specs.declared.reader.Read.{Read}
use Rattle.ask_desk.specs.Reading.{IsHeldAs, IsOfBulk, IsStepTo, content_read}
use Rattle.ask_desk.proofs.Contents.{take_first, whole_step}
use Rattle.ask_desk.proofs.reader.Reader.hear_line_feed.Goals as goal

pub returns : goal.returns
returns c = λ most part h.
    let self = c.args.self.now in
    let keeps = c.args.keeps in
    let held = subst (λ (w : Option ℕ). IsHeldAs w keeps most self part) c.requires.wants h in
    let closed = subst (λ (b : Bool). IsOfBulk keeps most c.args.len self.line.items self.content.items self.count b part) c.requires.second held in
    let step = whole_step keeps most c.args.len self.line.items self.content.items self.count part c.take_content.new.self closed c.requires.all c.take_content.ensures.blank in
    record {
      some = omega arith;
      within = omega arith;
      leads = subst (λ (r : Read). IsStepTo r keeps most c.take_content.new.self (part ++ take 1 c.args.bytes.now)) (sym c.take_content.ensures.read)
          (subst (λ (l : List ℕ). IsStepTo (content_read keeps self.content.items) keeps most c.take_content.new.self (part ++ l)) (sym (take_first c.args.bytes.now 10 c.requires.some (search rules))) step);
    }
