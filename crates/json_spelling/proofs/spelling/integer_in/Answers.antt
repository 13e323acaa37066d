use Rattle.std.proofs.Common.{◌≡◌, drop, true, false, sym, ap, ◌∙◌, arith, option_map, take_all, length-drop}
use Rattle.fast_float.specs.Text.{scan}
use Rattle.serde_json.specs.Find.{as_integer}
use Rattle.serde_json.specs.Read.{number_from}
use Rattle.json_spelling.proofs.OnePass.{signed_number, unsigned_number}
use Rattle.json_spelling.proofs.spelling.integer_in.Goals as goal

pub returns-then-is_negative : goal.returns-then-is_negative
returns-then-is_negative c =
    let s = c.as_bytes-bytes.result.now in
    let parts : c.scan.result ≡ scan (drop 1 s) = c.scan.ensures.parts ∙ ap scan (take_all _ (drop 1 s) (omega (arith, length-drop 1 s))) in
    let whole = ap (number_from true) parts ∙ signed_number s (sym c.if-is_negative.ensures.value) c.args.text.now c.as_bytes-bytes.ensures.value in
    c.negative_in.ensures ∙ ap (option_map as_integer) whole

pub returns-else-is_negative : goal.returns-else-is_negative
returns-else-is_negative c =
    let s = c.as_bytes-bytes.result.now in
    let whole = ap (number_from false) c.scan-else-is_negative.ensures.parts ∙ unsigned_number s (sym c.if-is_negative.ensures.value) c.args.text.now c.as_bytes-bytes.ensures.value in
    c.unsigned_in.ensures ∙ ap (option_map as_integer) whole
