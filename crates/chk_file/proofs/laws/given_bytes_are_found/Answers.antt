use Rattle.file_shares.specs.Numbers.{params_of}
use Rattle.chk_file.proofs.Decodes.{padding_is, crypttext_is}
use Rattle.chk_file.proofs.Keys.{Decodes, Padded}
use Rattle.chk_file.proofs.Given.{given_is_fit}
use Rattle.chk_file.proofs.Encodes.{found_is_given}
use Rattle.chk_file.proofs.laws.given_bytes_are_found.Goals as goal

pub returns-clause-found : goal.returns-clause-found
returns-clause-found c row f bytes sharing key are given =
    let parts = c.segments_are_joined_again.ensures in
    let decodes : Decodes = λ p sharing crypttext long bytes numbers many are some.
    crypttext_is c.true_blocks_decode.ensures parts.file parts.count parts.each parts.segment parts.primary_count parts.primary parts.padded p sharing crypttext long bytes numbers many are some in
    let padded : Padded = λ p sharing crypttext long bytes numbers many are some.
    padding_is c.true_blocks_decode.ensures parts.file parts.count parts.each parts.segment parts.primary_count parts.primary parts.padded p sharing crypttext long bytes numbers many are in
    given_is_fit c.good_shares_are_read.ensures.found c.good_shares_are_read.ensures.cut decodes padded c.twice_is_unchanged.ensures c.parts_agree.ensures.whole c.keystream_by_place.ensures.length c.bytes_stay_bytes.ensures.result
    (params_of f.k f.n f.size) sharing f.key f.ueb row bytes key are given

pub returns-clause-given : goal.returns-clause-given
returns-clause-given c row f bytes sharing are e =
    let shares = c.good_shares_are_read.ensures in
    let code = c.decoded_blocks_are_the_given.ensures in
    found_is_given shares.found shares.cut code.count code.primary code.given c.segments_are_joined_again.ensures.cut c.twice_is_unchanged.ensures c.parts_agree.ensures.whole c.keystream_by_place.ensures.length
    (params_of f.k f.n f.size) sharing f.key f.ueb row are bytes e
