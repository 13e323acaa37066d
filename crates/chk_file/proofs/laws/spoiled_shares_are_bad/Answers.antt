use Rattle.std.proofs.Common.{}
use Rattle.chk_file.specs.Upload.{params, crypttext_of}
use Rattle.chk_file.proofs.Uploads.{shares_hashed}
use Rattle.chk_file.proofs.Sizes.{size-crypttext, some-size}
use Rattle.chk_file.proofs.Keys.{spoiled_is_bad}
use Rattle.chk_file.proofs.laws.spoiled_shares_are_bad.Goals as goal

pub returns : goal.returns
returns c uses u i place toggles apart is below own within verified =
    spoiled_is_bad c.made_shares_meet_their_fields.ensures c.made_shares_are_read_back.ensures c.good_shares_are_made.ensures c.good_shares_are_read.ensures.only c.good_shares_are_read.ensures.found c.toggles_laws.ensures
    (params u) is.sharing (crypttext_of u) (some-size u is) (size-crypttext c.parts_agree.ensures.whole c.keystream_by_place.ensures.length u) i below
    uses apart (λ one among. own one (shares_hashed u one among)) place toggles within verified
