use Rattle.std.proofs.Common.{◌≡◌, ℕ, List, length, true, sym, ap, ◌∙◌}
use Rattle.caps.specs.Fields.{ReadValue}
use Rattle.share_codec.specs.Params.{ParamsValue}
use Rattle.share_codec.specs.Readings.{Reading}
use Rattle.share_codec.specs.Segments.{segment_count}
use Rattle.share_codec.specs.GoodShare.{GoodShare}
use Rattle.file_shares.specs.Fit.{crypttext_from, has_padding}
use Rattle.file_shares.specs.Ahead.{file_params, AreDecoded}
use Rattle.file_shares.proofs.Lengths.{length-crypttext}
use Rattle.file_shares.proofs.root_check.RootCheck.new.Goals as goal

-- all segments that were decoded are the crypttext, and its padding is zeros
all_decoded : (p : ParamsValue) (shares : List GoodShare) (bytes : List ℕ) → AreDecoded p shares (segment_count p) bytes → bytes ≡ crypttext_from p shares
unfolding crypttext_from
all_decoded p shares bytes are = are.bytes

all_padded : (p : ParamsValue) (shares : List GoodShare) (bytes : List ℕ) → AreDecoded p shares (segment_count p) bytes → has_padding p shares ≡ true
unfolding has_padding
all_padded p shares bytes are = are.padding

pub new-crypttext-requires-clause-size : goal.new-crypttext-requires-clause-size
new-crypttext-requires-clause-size c =
    let f : ReadValue = c.args.picked.fields in
    let shares : List GoodShare = c.args.picked.shares.items in
    let code = c.decoded_blocks_are_the_given.ensures in
    ap length (all_decoded (file_params f) shares c.args.bytes.items c.requires)
    ∙ length-crypttext code.count code.primary (file_params f) shares c.args.picked.chosen.taken c.segments_are_joined_again.ensures.cut
    ∙ sym (ap (λ (p : ParamsValue). p.size) c.file_params-params.ensures)

pub invariant_of-result : goal.invariant_of-result
invariant_of-result c =
    let f : ReadValue = c.args.picked.fields in
    let shares : List GoodShare = c.args.picked.shares.items in
    record {
      params = ap (λ (r : Reading). r.params) c.new-crypttext.ensures ∙ c.file_params-params.ensures;
      decoded = ap (λ (r : Reading). r.text) c.new-crypttext.ensures ∙ all_decoded (file_params f) shares c.args.bytes.items c.requires;
      padded = all_padded (file_params f) shares c.args.bytes.items c.requires;
    }
