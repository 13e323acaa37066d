use Rattle.std.proofs.lemmas.Result.{err_from_is_err_and}
use Rattle.caps.proofs.ParserLemmas.{bytes_refused}
use Rattle.caps.proofs.parser.literal.Goals as goal

pub returns-in_err-bytes : goal.returns-in_err-bytes
returns-in_err-bytes c =
    let p = err_from_is_err_and c.from_residual.result c.from_residual.ensures.1 in
    rw (p.1, p.2) (bytes_refused _ c.args.rest.now c.in_err-bytes.ensures.refused)
