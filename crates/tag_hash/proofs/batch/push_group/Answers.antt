use Rattle.std.proofs.Common.{◌≤◌, ◌^◌, List, ℕ, ◌++◌, length, ap, ◌∙◌, arith}
use Rattle.tag_hash.specs.Tagged.{tagged}
use Rattle.tag_hash.proofs.LaneLemmas.{hashed}
use Rattle.tag_hash.proofs.batch.push_group.Goals as goal

pub side_by_side-hashes-requires : goal.side_by_side-hashes-requires
side_by_side-hashes-requires g c = (omega arith, (c.requires.short_tag, c.in_lanes.ensures.short (2 ^ 58) c.requires.short))

pub returns-clause-pushed : goal.returns-clause-pushed
returns-clause-pushed g c =
    let f : List ℕ → List ℕ = tagged c.args.tag.now in
    let few : length c.args.values.now ≤ 8 = c.requires.few.1 in
    c.in_ok-extend_from_slice.ensures.items
    ∙ ap (λ l. c.args.digests.now.items ++ l) (hashed f c.side_by_side-hashes.result c.args.values.now (omega arith)
    (λ j lt. c.side_by_side-hashes.ensures j (omega arith) (omega (arith, c.requires.few.0)) ∙ ap f (c.in_lanes.ensures.own j (omega arith) lt)))
