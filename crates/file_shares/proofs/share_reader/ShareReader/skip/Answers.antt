use Rattle.std.proofs.Common.{◌≡◌, ◌<◌, ◌+◌, ◌*◌, ◌/◌, ℕ, List, length, sym, ◌∙◌, subst, arith}
use Rattle.aes_ctr.specs.Crypt.{crypt}
use Rattle.share_codec.specs.Params.{ParamsValue}
use Rattle.share_codec.specs.Segments.{segment_size}
use Rattle.share_codec.specs.GoodShare.{GoodShare}
use Rattle.file_shares.specs.Fit.{crypttext_from}
use Rattle.file_shares.specs.Downloads.{DownloadValue, download_left}
use Rattle.file_shares.proofs.Lengths.{length-crypttext}
use Rattle.file_shares.proofs.Sound.{length-crypt}
use Rattle.file_shares.proofs.Segments.{begins_within, counted_within, passes_within, segment_some}
use Rattle.file_shares.proofs.share_reader.ShareReader.skip.Goals as goal

-- the next segment begins within the file
begins : (c : goal.After-segment_size-each) → (c.self.inside.at + c.args.bytes / c.segment_size-each.result) * segment_size c.self.inside.params < c.self.inside.params.size
begins c =
    let p : ParamsValue = c.self.inside.params in
    let shares : List GoodShare = c.self.inside.shares.value.items in
    let taken = c.self.invariant.0 in
    let code = c.decoded_blocks_are_the_given.ensures in
    let crypttext : List ℕ = crypttext_from p shares in
    let plain : List ℕ = crypt c.self.inside.key crypttext in
    let long : length plain ≡ p.size =
    length-crypt c.parts_agree.ensures.whole c.keystream_by_place.ensures.length c.self.inside.key crypttext
    ∙ length-crypttext code.count code.primary p shares taken c.segments_are_joined_again.ensures.cut in
    let left : c.args.bytes < length (download_left p plain c.self.inside.at).left = subst (λ (d : DownloadValue). c.args.bytes < length d.left) (sym c.self.view_is) c.requires in
    subst (λ (s : ℕ). (c.self.inside.at + c.args.bytes / s) * segment_size p < p.size) (sym c.segment_size-each.ensures.size)
    (passes_within p plain c.self.inside.at c.args.bytes (segment_some p taken.sharing.some taken.some) long left)

pub overflow_add-self : goal.overflow_add-self
overflow_add-self c =
    let p : ParamsValue = c.self.inside.params in
    let taken = c.self.invariant.0 in
    let few = counted_within (c.self.inside.at + c.args.bytes / c.segment_size-each.result) (segment_size p) p.size (segment_some p taken.sharing.some taken.some) (begins c) in
    record { fits = omega (arith, few) }

pub invariant_of-self : goal.invariant_of-self
invariant_of-self c =
    let p : ParamsValue = c.self.inside.params in
    let taken = c.self.invariant.0 in
    let within = begins_within p (c.self.inside.at + c.args.bytes / c.segment_size-each.result) (segment_some p taken.sharing.some taken.some) (begins c.before) in
    (taken, omega (arith, within), c.self.invariant.2, c.self.invariant.3)
