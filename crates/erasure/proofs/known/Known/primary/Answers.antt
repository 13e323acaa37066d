use Rattle.std.proofs.Common.{◌≡◌, ℕ, List, [], ◌∷◌, ◌++◌, Vec, Global, length, map, ap, ◌∙◌, arith}
use Rattle.std.proofs.lemmas.List.{map-append}
use Rattle.erasure.specs.Code.{place_of}
use Rattle.erasure.specs.Blocks.{block_through}
use Rattle.erasure.specs.Given.{blocks_of}
use Rattle.erasure.proofs.Coding.{places_of, first_blocks}
use Rattle.erasure.proofs.Decoding.{first_blocks_more, length-numbered_of}
use Rattle.erasure.proofs.known.Known.primary.Goals as goal

pub loop-j-init : goal.loop-j-init
loop-j-init c = ap (map (λ (b : Vec ℕ Global). b.items)) c.in_ok-primary.ensures.items

pub loop-j-preserved : goal.loop-j-preserved
loop-j-preserved c =
    let given : List (ℕ × List ℕ) = c.args.self.now in
    ap (map (λ (b : Vec ℕ Global). b.items)) c.in_ok-push.ensures.items
    ∙ map-append (λ (b : Vec ℕ Global). b.items) c.loop-j.primary.items (c.push_block.new.bytes ∷ [])
    ∙ first_blocks_more (places_of given) (blocks_of given) c.loop-j.j (map (λ (b : Vec ℕ Global). b.items) c.loop-j.primary.items)
    c.push_block.new.bytes.items c.loop-j.invariant
    (c.in_ok-push_block.ensures.block ∙ ap (λ (xs : List ℕ). xs ++ block_through (places_of given) (blocks_of given) (place_of c.loop-j.j)) c.new-block.ensures.items)

pub returns-clause-primary : goal.returns-clause-primary
returns-clause-primary c =
    let given : List (ℕ × List ℕ) = c.args.self.now in
    let last : c.loop-j.j ≡ length given = omega (arith, length-numbered_of c.self.inside.given.now, ap length c.self.view_is) in
    c.loop-j.invariant ∙ ap (first_blocks (places_of given) (blocks_of given)) last
