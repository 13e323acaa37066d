use Rattle.std.proofs.Common.{◌≡◌, ◌++◌, ℕ, List, length, take, ap, ◌∙◌, arith, append_assoc}
use Rattle.std.specs.List.{concat}
use Rattle.std.proofs.Math.Seq.{take-append_seam}
use Rattle.erasure.specs.Code.{place_of}
use Rattle.erasure.specs.Blocks.{block_through}
use Rattle.erasure.specs.Given.{blocks_of}
use Rattle.erasure.proofs.Coding.{places_of, first_blocks}
use Rattle.erasure.proofs.Decoding.{joined_more, length-numbered_of}
use Rattle.erasure.proofs.known.Known.push_each.Goals as goal

pub loop-j-preserved : goal.loop-j-preserved
loop-j-preserved c =
    let places : List ℕ = places_of c.args.self.now in
    let blocks : List (List ℕ) = blocks_of c.args.self.now in
    let old : List ℕ = c.args.bytes.now.items in
    c.in_ok-push_block.ensures.block
    ∙ ap (λ (xs : List ℕ). xs ++ block_through places blocks (place_of c.loop-j.j)) c.loop-j.invariant
    ∙ append_assoc old (concat (first_blocks places blocks c.loop-j.j)) (block_through places blocks (place_of c.loop-j.j))
    ∙ ap (λ (ys : List ℕ). old ++ ys) (joined_more places blocks c.loop-j.j)

pub returns-clause-primary : goal.returns-clause-primary
returns-clause-primary c =
    let given : List (ℕ × List ℕ) = c.args.self.now in
    let last : c.loop-j.j ≡ length given = omega (arith, length-numbered_of c.self.inside.given.now, ap length c.self.view_is) in
    c.loop-j.invariant ∙ ap (λ (n : ℕ). c.args.bytes.now.items ++ concat (first_blocks (places_of given) (blocks_of given) n)) last

pub returns-clause-kept : goal.returns-clause-kept
returns-clause-kept c =
    ap (take (length c.args.bytes.now.items)) c.loop-j.invariant
    ∙ take-append_seam c.args.bytes.now.items (concat (first_blocks (places_of c.args.self.now) (blocks_of c.args.self.now) c.loop-j.j))
