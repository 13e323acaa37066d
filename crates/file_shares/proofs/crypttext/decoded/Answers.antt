use Rattle.std.proofs.Common.{◌≡◌, ◌<◌, ◌++◌, map, true, false, cond, Some, None, sym, ap, ◌∙◌, arith}
use Rattle.std.specs.List.{concat, list_all, range_with_len}
use Rattle.share_codec.specs.Segments.{segment_count}
use Rattle.file_shares.specs.Fit.{segment_from, has_zeros, has_padding, crypttext_from}
use Rattle.file_shares.proofs.Pieces.{concat_next, all_next, not_all}
use Rattle.file_shares.proofs.crypttext.decoded.Goals as goal

pub returns-then-not-branch : goal.returns-then-not-branch
unfolding has_padding
returns-then-not-branch c =
    let p = c.args.params.now in
    let shares = c.args.shares.now in
    let inside : c.loop-at.at < segment_count p = (let h = c.loop-at-test.true in let g = c.segment_count-at-end.ensures.count in omega arith) in
    let bad : has_padding p shares ≡ false = not_all (has_zeros p shares) (segment_count p) c.loop-at.at inside (sym c.in_ok-add_segment.ensures.zeros ∙ c.if-not-branch.true) in
    sym (ap (λ b. cond b (Some (crypttext_from p shares)) None) bad)

pub loop-at-preserved : goal.loop-at-preserved
loop-at-preserved c =
    let p = c.args.params.now in
    let shares = c.args.shares.now in
    record {
      bytes = c.in_ok-add_segment.ensures.bytes ∙ ap (λ bs. bs ++ segment_from p shares c.loop-at.at) c.loop-at.invariant.bytes ∙ sym (concat_next (segment_from p shares) c.loop-at.at);
      zeros = all_next (has_zeros p shares) c.loop-at.at c.loop-at.invariant.zeros (sym c.in_ok-add_segment.ensures.zeros ∙ c.if-not-branch.false);
    }

pub returns : goal.returns
unfolding has_padding crypttext_from
returns c =
    let p = c.args.params.now in
    let shares = c.args.shares.now in
    let at_end : c.loop-at.at ≡ segment_count p = (let h = c.loop-at-test.false in let g = c.segment_count-at-end.ensures.count in let f = c.loop-at.auto.at-end in omega arith) in
    let all : has_padding p shares ≡ true = ap (λ n. list_all (has_zeros p shares) (range_with_len 0 n)) (sym at_end) ∙ c.loop-at.invariant.zeros in
    ap Some (c.loop-at.invariant.bytes ∙ ap (λ n. concat (map (segment_from p shares) (range_with_len 0 n))) at_end)
    ∙ sym (ap (λ b. cond b (Some (crypttext_from p shares)) None) all)
