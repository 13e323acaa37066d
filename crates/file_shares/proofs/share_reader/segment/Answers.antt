use Rattle.std.proofs.Common.{◌≡◌, ◌*◌, ◌++◌, List, ℕ, length, arith, ap, ◌∙◌}
use Rattle.aes_ctr.specs.Crypt.{crypt_from}
use Rattle.share_codec.specs.Params.{ParamsValue}
use Rattle.share_codec.specs.Segments.{segment_size, segment_length}
use Rattle.file_shares.specs.Fit.{segment_from, crypttext_from}
use Rattle.file_shares.proofs.Lengths.{length-segment_from, segments-crypttext}
use Rattle.file_shares.proofs.Segments.{decrypted_at, segment_is, length_within}
use Rattle.file_shares.proofs.share_reader.segment.Goals as goal

pub returns-clause-bytes : goal.returns-clause-bytes
returns-clause-bytes c =
    let p = c.args.params.now in
    let shares = c.args.shares.now in
    let at = c.args.at in
    let code = c.decoded_blocks_are_the_given.ensures in
    let crypttext : List ℕ = crypttext_from p shares in
    let parts = segments-crypttext code.count code.primary p shares c.requires.taken c.segments_are_joined_again.ensures.cut in
    let seg = segment_is p shares at parts (c.segments_are_joined_again.ensures.each p crypttext at c.requires.inside) c.requires.inside in
    let start : at * c.segment_size.result ≡ at * segment_size p = ap (λ n. at * n) c.segment_size.ensures.size in
    let items : c.add_segment.new.bytes.items ≡ segment_from p shares at = c.in_ok-_zeros.ensures.bytes ∙ ap (λ (bs : List ℕ). bs ++ segment_from p shares at) c.in_ok-bytes.ensures.items in
    c.apply_keystream_at.ensures
    ∙ (λ i. crypt_from c.args.key (start i) ((items ∙ seg) i))
    ∙ decrypted_at c.parts_agree.ensures.front c.parts_agree.ensures.back c.parts_agree.ensures.whole c.args.key crypttext (at * segment_size p) (segment_size p)

pub apply_keystream_at-requires : goal.apply_keystream_at-requires
apply_keystream_at-requires c =
    let p = c.args.params.now in
    let shares = c.args.shares.now in
    let at = c.args.at in
    let code = c.decoded_blocks_are_the_given.ensures in
    let items : c.add_segment.new.bytes.items ≡ segment_from p shares at = c.in_ok-_zeros.ensures.bytes ∙ ap (λ (bs : List ℕ). bs ++ segment_from p shares at) c.in_ok-bytes.ensures.items in
    let long : length c.add_segment.new.bytes.items ≡ segment_length p at = ap length items ∙ length-segment_from code.count code.primary p shares c.requires.taken at c.requires.inside in
    let start : at * c.segment_size.result ≡ at * segment_size p = ap (λ n. at * n) c.segment_size.ensures.size in
    let within = length_within p at in
    let begins = c.segment_length.ensures.begins in
    let size = ap (λ (q : ParamsValue). q.size) c.params.view_is in
    let fits = c.params.ranges in
    omega arith

pub returns-clause-some : goal.returns-clause-some
returns-clause-some c =
    let p = c.args.params.now in
    let shares = c.args.shares.now in
    let at = c.args.at in
    let code = c.decoded_blocks_are_the_given.ensures in
    let items : c.add_segment.new.bytes.items ≡ segment_from p shares at = c.in_ok-_zeros.ensures.bytes ∙ ap (λ (bs : List ℕ). bs ++ segment_from p shares at) c.in_ok-bytes.ensures.items in
    let long : length c.apply_keystream_at.result.items ≡ segment_length p at =
    ap length c.apply_keystream_at.ensures ∙ c.keystream_by_place.ensures.length c.args.key (at * c.segment_size.result) c.add_segment.new.bytes.items
    ∙ ap length items ∙ length-segment_from code.count code.primary p shares c.requires.taken at c.requires.inside in
    let some = c.segment_length.ensures.some in
    let is = c.segment_length.ensures.length in
    omega arith
