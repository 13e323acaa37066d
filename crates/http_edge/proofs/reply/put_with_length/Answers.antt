use Rattle.http_edge.proofs.KeptLemmas.{kept_more}
use Rattle.http_edge.proofs.reply.put_with_length.Goals as goal

pub returns-in_err-put_lines-clause-kept : goal.returns-in_err-put_lines-clause-kept
returns-in_err-put_lines-clause-kept c = c.in_err-put_lines.ensures.kept

pub returns-in_err-put_length-clause-kept : goal.returns-in_err-put_length-clause-kept
returns-in_err-put_length-clause-kept c = kept_more _ _ _ _ c.in_ok-put_lines.ensures.put c.in_err-put_length.ensures.kept

pub returns-clause-kept : goal.returns-clause-kept
returns-clause-kept c =
    kept_more _ _ _ _ c.in_ok-put_lines.ensures.put (kept_more _ _ _ _ c.in_ok-put_length.ensures.put c.put_lines-2.ensures.kept)
