use Rattle.chk_file.proofs.Decodes.{padding_is, crypttext_is}
use Rattle.chk_file.proofs.Keys.{Decodes, Padded}
use Rattle.chk_file.proofs.Keys as keys
use Rattle.chk_file.proofs.Worlds.{RowHeld, fit_is_held_at}
use Rattle.chk_file.proofs.laws.fit_is_held.Goals as goal

pub returns : goal.returns
returns c uses w f apart sound =
    let parts = c.segments_are_joined_again.ensures in
    let decodes : Decodes = λ p sharing crypttext long bytes numbers many are some.
    crypttext_is c.true_blocks_decode.ensures parts.file parts.count parts.each parts.segment parts.primary_count parts.primary parts.padded p sharing crypttext long bytes numbers many are some in
    let padded : Padded = λ p sharing crypttext long bytes numbers many are some.
    padding_is c.true_blocks_decode.ensures parts.file parts.count parts.each parts.segment parts.primary_count parts.primary parts.padded p sharing crypttext long bytes numbers many are in
    let row_held : RowHeld = λ uses u marks apart known.
    keys.fit_is_held c.made_shares_meet_their_fields.ensures c.made_shares_are_read_back.ensures c.good_shares_are_made.ensures c.good_shares_are_read.ensures.only c.good_shares_are_read.ensures.found c.toggles_laws.ensures
    c.uploads_are_told_apart.ensures c.keystream_by_place.ensures.length c.parts_agree.ensures.whole uses apart u marks known
    decodes padded c.twice_is_unchanged.ensures c.bytes_stay_bytes.ensures.result c.digests_are_bytes.ensures.tagged16 in
    fit_is_held_at row_held uses w apart sound f
