use Rattle.std.proofs.Common.{◌≡◌, ℕ, List, length, refl, sym, ap, ◌∙◌}
use Rattle.aes_ctr.specs.Crypt.{crypt}
use Rattle.share_codec.specs.Params.{ParamsValue}
use Rattle.share_codec.specs.Segments.{segment_count}
use Rattle.share_codec.specs.GoodShare.{GoodShare}
use Rattle.file_shares.specs.Fit.{crypttext_from}
use Rattle.file_shares.specs.Downloads.{DownloadValue}
use Rattle.file_shares.proofs.Lengths.{length-crypttext}
use Rattle.file_shares.proofs.Sound.{length-crypt}
use Rattle.file_shares.proofs.Segments.{segment_some, none_left}
use Rattle.file_shares.proofs.share_reader.ShareReader.next.Goals as goal

pub returns-then-self-segment_count-clause-given : goal.returns-then-self-segment_count-clause-given
returns-then-self-segment_count-clause-given c =
    let p : ParamsValue = c.self.inside.params in
    let shares : List GoodShare = c.self.inside.shares.value.items in
    let taken = c.self.invariant.0 in
    let code = c.decoded_blocks_are_the_given.ensures in
    let crypttext : List ℕ = crypttext_from p shares in
    let plain : List ℕ = crypt c.self.inside.key crypttext in
    let long : length plain ≡ p.size =
    length-crypt c.parts_agree.ensures.whole c.keystream_by_place.ensures.length c.self.inside.key crypttext
    ∙ length-crypttext code.count code.primary p shares taken c.segments_are_joined_again.ensures.cut in
    let last : c.self.inside.at ≡ segment_count p = c.if-self-segment_count.true ∙ c.segment_count.ensures.count in
    record {
      nothing = sym (ap (λ (d : DownloadValue). d.left) c.self.view_is) ∙ none_left p plain c.self.inside.at (segment_some p taken.sharing.some taken.some) long last;
      same = refl;
    }
