use Rattle.std.proofs.Common.{◌≡◌, length, ◌∙◌, arith}
use Rattle.share_codec.specs.Segments.{segment_count}
use Rattle.share_codec.proofs.ReadingSteps.{root_of_all}
use Rattle.share_codec.proofs.crypttext_reading.CrypttextReading.root.Goals as goal

pub returns-then-len-segment_count : goal.returns-then-len-segment_count
returns-then-len-segment_count c =
    let it = c.self.inside in
    let all : length it.hashes.items ≡ segment_count it.params = omega (arith, c.len.ensures, c.segment_count.ensures.count, c.if-len-segment_count.true) in
    c.root.ensures ∙ root_of_all it.params it.bytes.items it.hashes.items c.deref.result.now c.args.self.now c.self.view_is c.self.invariant.2 all c.deref.ensures.value
