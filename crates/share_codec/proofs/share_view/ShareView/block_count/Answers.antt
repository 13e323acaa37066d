use Rattle.std.proofs.Common.{length, ap, sym, ◌∙◌}
use Rattle.share_codec.specs.GoodShare.{GoodShare}
use Rattle.share_codec.proofs.Cuts.{length-chunks}
use Rattle.share_codec.proofs.share_view.ShareView.block_count.Goals as goal

pub returns : goal.returns
returns c = sym (length-chunks c.self.inside.block_size c.self.inside.block_count c.self.inside.blocks.now) ∙ ap (λ (g : GoodShare). length g.blocks) c.self.view_is
