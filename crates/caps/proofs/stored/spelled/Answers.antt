use Rattle.std.proofs.Common.{◌∙◌, ap, length}
use Rattle.std.proofs.lemmas.Result.{err_from_is_err_and}
use Rattle.base32_text.proofs.SpellingLemmas.{one_meaning}
use Rattle.caps.proofs.ParserLemmas.{count_refused}
use Rattle.caps.proofs.stored.spelled.Goals as goal

pub returns-in_err-bytes : goal.returns-in_err-bytes
returns-in_err-bytes g c =
    let p = err_from_is_err_and c.from_residual.result c.from_residual.ensures.1 in
    rw (p.1, p.2) (count_refused _ _ c.args.text.now c.in_err-bytes.ensures.refused)

pub returns-then-len : goal.returns-then-len
returns-then-len g c = λ bytes s long.
    c.if-len.true
    (c.len.ensures ∙ c.in_ok-bytes.bytes.ok.0
    ∙ ap length (one_meaning c.args.text.now c.in_ok-bytes.bytes.items bytes c.in_ok-bytes.ensures.spelled s) ∙ long)
