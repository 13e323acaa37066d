use Rattle.std.proofs.Common.{◌∙◌}
use Rattle.http_edge.proofs.KeptLemmas.{kept_after}
use Rattle.http_edge.proofs.reply.put_all.Goals as goal

pub returns-in_err-extend_from_slice-clause-kept : goal.returns-in_err-extend_from_slice-clause-kept
returns-in_err-extend_from_slice-clause-kept c = kept_after _ _ _ (c.in_err-extend_from_slice.ensures.items ∙ c.loop-part.invariant)

pub returns-clause-kept : goal.returns-clause-kept
returns-clause-kept c = kept_after _ _ _ c.loop-part.invariant
