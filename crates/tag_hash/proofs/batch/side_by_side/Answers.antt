use Rattle.std.proofs.Common.{ℕ, List, ◌++◌, ap, ◌∙◌, arith}
use Rattle.sha2.specs.Sha256.{sha256}
use Rattle.tag_hash.specs.Lanes.{lane_bytes}
use Rattle.tag_hash.specs.Tagged.{tagged, tagged_text}
use Rattle.tag_hash.specs.Use.{double_sha256}
use Rattle.tag_hash.proofs.batch.side_by_side.Goals as goal

pub sha256_each-requires : goal.sha256_each-requires
sha256_each-requires g c = (omega arith, λ j lt. omega (arith, c.as_values.ensures.long j lt))

pub returns : goal.returns
unfolding tagged tagged_text double_sha256
returns g c = λ j lt lane.
    let v = lane_bytes c.args.values.now j in
    let first = c.sha256_each-once.ensures j lt lane ∙ ap (λ (t : List ℕ). sha256 (t ++ v)) c.short_netstring-len.ensures.text in
    c.sha256_each.ensures j lt lane
    ∙ ap sha256 (c.as_values.ensures.each j lt ∙ first)
