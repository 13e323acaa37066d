use Rattle.std.proofs.Common.{◌≡◌, None, Some, sym, ap, ◌∙◌}
use Rattle.std.specs.List.{find}
use Rattle.std.specs.Option.{option_copied}
use Rattle.http_edge.specs.Judge.{is_length}
use Rattle.http_edge.proofs.JudgeLemmas.{several_lengths, no_length, one_length}
use Rattle.http_edge.proofs.judge.body_length.Goals as goal

pub returns-then-count_lengths-gt1 : goal.returns-then-count_lengths-gt1
returns-then-count_lengths-gt1 c = sym (several_lengths c.args.fields.now (rw (← c.count_lengths.ensures) c.if-count_lengths-gt1.true))

pub returns-in-None : goal.returns-in-None
returns-in-None c =
    let none : find is_length c.args.fields.now ≡ None = sym c.first_length.ensures ∙ ap option_copied c.in-None.is in
    sym (no_length c.args.fields.now none)

pub returns-in-Some : goal.returns-in-Some
returns-in-Some c =
    let some : find is_length c.args.fields.now ≡ Some c.in-Some.field.now = sym c.first_length.ensures ∙ ap option_copied c.in-Some.is in
    c.length_of.ensures ∙ rw c.as_slice.ensures (sym (one_length c.args.fields.now c.in-Some.field.now (rw (← c.count_lengths.ensures) c.if-count_lengths-gt1.false) some))
