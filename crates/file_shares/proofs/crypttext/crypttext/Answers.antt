use Rattle.std.proofs.Common.{◌≡◌, sym, ap, ◌∙◌, length}
use Rattle.std.specs.Option.{option_map}
use Rattle.file_shares.specs.Fit.{crypttext_from, has_padding}
use Rattle.file_shares.proofs.Fitting.{found_is}
use Rattle.file_shares.proofs.Lengths.{length-crypttext}
use Rattle.file_shares.proofs.crypttext.crypttext.Goals as goal

pub crypttext_root-requires-clause-size : goal.crypttext_root-requires-clause-size
crypttext_root-requires-clause-size c =
    let p = c.args.params.now in
    let shares = c.args.shares.now in
    let code = c.decoded_blocks_are_the_given.ensures in
    let same : c.in-Some.bytes.items ≡ crypttext_from p shares =
    found_is (has_padding p shares) c.in-Some.bytes.items (crypttext_from p shares) (sym (ap (option_map (λ v. v.items)) c.in-Some.is) ∙ c.in_ok-bytes.ensures) in
    ap length (c.deref.ensures.value ∙ same) ∙ length-crypttext code.count code.primary p shares c.requires c.segments_are_joined_again.ensures.cut
