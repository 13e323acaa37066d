use Rattle.std.proofs.Common.{sym, subst, arith, rules, ◌≤◌, ◌+◌, ◌++◌, take, length, Option, ℕ}
use Rattle.std.proofs.lemmas.List.{length-take-le}
use Rattle.ask_desk.specs.Reading.{IsHeldAs}
use Rattle.ask_desk.proofs.Contents.{content_more}
use Rattle.ask_desk.proofs.reader.Reader.hear_content.Goals as goal

pub returns : goal.returns
returns c = λ most part h.
    let self = c.args.self.now in
    let bytes = c.args.bytes.now in
    let count : ℕ = c.min-count.result in
    let new = record self { count = self.count + count; content = c.keep_content.new.content } in
    let fits : count ≤ length bytes = omega arith in
    let held = subst (λ (w : Option ℕ). IsHeldAs w c.args.keeps most self part) c.requires.wants h in
    record {
      some = omega arith;
      within = fits;
      leads = subst (λ (w : Option ℕ). IsHeldAs w c.args.keeps most new (part ++ take count bytes)) (sym c.requires.wants)
          (content_more c.args.keeps most c.args.len self.line.items self.content.items new.content.items self.count count self.has_return part (take count bytes) held c.requires.more
          (length-take-le count bytes fits) (omega arith) (search rules));
    }
