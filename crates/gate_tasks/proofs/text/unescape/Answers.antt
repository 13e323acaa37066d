use Rattle.std.proofs.Common.{◌∙◌, ◌++◌, ◌∷◌, [], Some, ap}
use Rattle.std.specs.Option.{option_map}
use Rattle.gate_tasks.specs.Text.{unescaped}
use Rattle.gate_tasks.proofs.Texts.{read_step, read_bad, read_end}
use Rattle.gate_tasks.proofs.text.unescape.Goals as goal

pub returns-in_default-read_escape : goal.returns-in_default-read_escape
returns-in_default-read_escape c = read_bad c.loop-plain.bytes.items c.loop-plain.rest.now c.in-Some.plain.now c.in-Some.behind.now _ c.in-Some.ensures c.in_default-read_escape.ensures.read c.loop-plain.invariant

pub loop-plain-preserved : goal.loop-plain-preserved
loop-plain-preserved c =
    let after = c.in-Some-read_escape.after.now in
    ap (λ bytes. option_map (λ more. bytes ++ more) (unescaped after)) (c.in_ok-push.ensures.items ∙ ap (λ bytes. bytes ++ c.in-Some-read_escape.byte ∷ []) c.in_ok-extend_from_slice.ensures.items)
    ∙ read_step c.loop-plain.bytes.items c.loop-plain.rest.now c.in-Some.plain.now c.in-Some.behind.now after c.in-Some-read_escape.byte _ c.in-Some.ensures c.in-Some-read_escape.ensures.read c.loop-plain.invariant

pub returns : goal.returns
returns c = ap Some (c.from_vec.ensures ∙ c.in_ok-extend_from_slice-2.ensures.items) ∙ read_end c.loop-plain.bytes.items c.loop-plain.rest.now _ c.in_default.ensures c.loop-plain.invariant
