use Rattle.std.proofs.Common.{◌≡◌, List, ℕ, map, ap, subst}
use Rattle.std.specs.Prelude.{IfOk}
use Rattle.share_codec.specs.GoodShare.{GoodShare}
use Rattle.share_codec.specs.Tags.{block_hash}
use Rattle.share_codec.proofs.share_view.ShareView.block_hashes.Goals as goal

pub returns : goal.returns
returns c =
    subst (λ (bs : List (List ℕ)). IfOk c.block_hashes.result (λ hashes. hashes.items ≡ map block_hash bs))
    (ap (λ (g : GoodShare). g.blocks) c.self.view_is) c.block_hashes.ensures
