use Rattle.std.proofs.Common.{ap, subst, ◌∙◌}
use Rattle.std.specs.Prelude.{IsTrue}
use Rattle.merkle.specs.Tree.{root}
use Rattle.merkle.specs.Leads.{Leads}
use Rattle.share_codec.specs.declared.ueb.Ueb.{Ueb}
use Rattle.share_codec.specs.Texts.{digests}
use Rattle.share_codec.specs.Shares.{block_root}
use Rattle.share_codec.proofs.Reading.{led}
use Rattle.share_codec.proofs.read.leaves_lead_to_root.Goals as goal

pub returns : goal.returns
unfolding digests block_root
returns c =
    led c.args.number c.args.parts.now.siblings.now c.root-root.result c.args.share.now.ueb.share_root c.args.share.now.blocks c.as_chunks.result.0.now c.check.result
    c.as_chunks.ensures.front (c.root-root.ensures ∙ ap root c.requires.all)
    (subst (λ (roots : Ueb). (IsTrue c.check.result → Leads roots.share_root c.args.number c.root-root.result c.as_chunks.result.0.now) × (Leads roots.share_root c.args.number c.root-root.result c.as_chunks.result.0.now → IsTrue c.check.result))
    c.ueb.ensures c.check.ensures)
