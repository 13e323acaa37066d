use Rattle.chk_file.proofs.Uploads.{one_upload}
use Rattle.chk_file.proofs.laws.uploads_are_told_apart.Goals as goal

pub returns : goal.returns
returns c uses u v apart mine theirs =
    one_upload c.hashes_fix_their_parts.ensures.tagged16 c.netstrings_are_read_back.ensures.parts c.netstrings_are_read_back.ensures.injective
    c.decimals_are_read_back.ensures.digits c.decimals_are_read_back.ensures.injective uses u v apart mine theirs
