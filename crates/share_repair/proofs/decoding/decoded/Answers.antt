use Rattle.std.proofs.Common.{◌<◌, ◌++◌, [], length, get_or, sym, ap, ◌∙◌, arith}
use Rattle.share_codec.specs.Segments.{segments, segment_count}
use Rattle.share_repair.proofs.Decodes.{concat_more}
use Rattle.share_repair.proofs.decoding.decoded.Goals as goal

pub loop-at-preserved : goal.loop-at-preserved
loop-at-preserved c =
    let p = c.args.params.now in
    let at = c.loop-at.at in
    let inside : at < segment_count p = (let h = c.loop-at-test.true in let g = c.segment_count-at-end.ensures.count in omega arith) in
    record {
      bytes = λ crypttext good.
          let within : at < length (segments p crypttext) = (let e = c.segments_are_joined_again.ensures.count p crypttext in omega arith) in
          c.in_ok-add_segment.ensures.bytes crypttext good ∙ ap (λ bs. bs ++ get_or (segments p crypttext) at []) (c.loop-at.invariant.bytes crypttext good)
          ∙ sym (concat_more (segments p crypttext) at within);
      apart = λ some. c.in_ok-add_segment.ensures.apart c.if-not-branch.false;
    }

pub returns-clause-apart : goal.returns-clause-apart
returns-clause-apart c = c.loop-at.invariant.apart (let h = c.loop-at-test.false in let g = c.segment_count-at-end.ensures.some in omega arith)
