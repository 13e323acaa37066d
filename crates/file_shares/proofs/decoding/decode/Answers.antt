use Rattle.std.proofs.Common.{◌++◌, sym, ap, ◌∙◌, arith}
use Rattle.file_shares.specs.Fit.{segment_from, has_zeros}
use Rattle.file_shares.proofs.Pieces.{concat_next, all_next}
use Rattle.file_shares.proofs.decoding.decode.Goals as goal

pub loop-at-preserved : goal.loop-at-preserved
loop-at-preserved c =
    let p = c.args.params.now in
    let shares = c.args.shares.now in
    let before = c.loop-at.invariant in
    record {
      within = (let h = c.loop-at-test.true in let e = c.requires.within in omega arith);
      bytes = c.in_ok-add_segment.ensures.bytes ∙ ap (λ bs. bs ++ segment_from p shares c.loop-at.at) before.bytes ∙ sym (concat_next (segment_from p shares) c.loop-at.at);
      padding = all_next (has_zeros p shares) c.loop-at.at before.padding (sym c.in_ok-add_segment.ensures.zeros ∙ c.if-not-branch.false);
    }
