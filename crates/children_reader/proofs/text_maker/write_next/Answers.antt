use Rattle.std.proofs.Common.{sym, subst, ◌∙◌}
use Rattle.children_reader.specs.TextMakers.{IsTextMadeOn}
use Rattle.children_reader.proofs.Stages.{all_written}
use Rattle.children_reader.proofs.text_maker.write_next.Goals as goal

pub returns-then-is_empty-clause-made : goal.returns-then-is_empty-clause-made
returns-then-is_empty-clause-made c =
    let so = c.requires in
    all_written c.args.json.now c.write_some.new.left.entries so.0 c.write_some.new.text.items (c.is_empty.ensures.0 c.if-is_empty.true) so.1 (c.in_ok-write_some.ensures.written ∙ so.2)

pub returns-clause-made : goal.returns-clause-made
returns-clause-made c =
    let so = c.requires in
    subst (IsTextMadeOn c.args.json.now) (sym c.going.ensures) (so.0, so.1, c.in_ok-write_some.ensures.written ∙ so.2)
