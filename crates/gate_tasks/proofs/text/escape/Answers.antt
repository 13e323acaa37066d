use Rattle.std.proofs.Common.{◌∙◌, ◌++◌, ap}
use Rattle.gate_tasks.specs.Text.{escape_of, escaped}
use Rattle.gate_tasks.proofs.Texts.{write_step, write_end}
use Rattle.gate_tasks.proofs.text.escape.Goals as goal

pub loop-plain-preserved : goal.loop-plain-preserved
loop-plain-preserved c =
    ap (λ t. t ++ escaped c.in-Some.after.now) (c.in_ok-push_escape.ensures ∙ ap (λ t. t ++ escape_of c.in-Some.byte) c.in_ok-extend_from_slice.ensures.items)
    ∙ write_step c.loop-plain.text.items c.loop-plain.rest.now c.in-Some.plain.now c.in-Some.after.now _ c.in-Some.byte c.in-Some.ensures c.loop-plain.invariant

pub returns : goal.returns
returns c = c.in_ok-extend_from_slice-2.ensures.items ∙ write_end c.loop-plain.text.items c.loop-plain.rest.now _ c.in_default.ensures c.loop-plain.invariant ∙ ap (λ t. t ++ escaped c.args.bytes.now) c.in_ok-reserve.ensures.items
