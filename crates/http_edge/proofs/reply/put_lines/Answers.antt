use Rattle.http_edge.proofs.KeptLemmas.{kept_more}
use Rattle.http_edge.proofs.reply.put_lines.Goals as goal

pub returns-in_err-put_line-clause-kept : goal.returns-in_err-put_line-clause-kept
returns-in_err-put_line-clause-kept c = kept_more _ _ _ _ c.loop-field.invariant c.in_err-put_line.ensures.kept
