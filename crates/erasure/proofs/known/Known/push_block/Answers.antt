use Rattle.std.proofs.Common.{◌≡◌, ◌++◌, ℕ, List, [], Bor, OnOk, length, get_or, slice_index_or, ◌<◌, sym, ap, ◌∙◌, subst, arith}
use Rattle.std.proofs.lemmas.List.{length-map, get_or_read}
use Rattle.erasure.specs.Code.{place_of, AreBytes}
use Rattle.erasure.specs.Blocks.{block_through}
use Rattle.erasure.specs.Given.{numbered_of, blocks_of}
use Rattle.erasure.proofs.Numbered.{length-blocks_of}
use Rattle.erasure.proofs.Combining.{none, content_at, length-contents_of}
use Rattle.erasure.proofs.Coding.{places_of}
use Rattle.erasure.proofs.Decoding.{block_at_hand}
use Rattle.erasure.proofs.known.Known.push_block.Goals as goal

pub returns-in-Some-clause-block : goal.returns-in-Some-clause-block
returns-in-Some-clause-block c =
    let given : List (ℕ × List ℕ) = numbered_of c.self.inside.given.now in
    let known : List (Bor (List ℕ)) = c.self.inside.contents.items in
    let at : ℕ = c.in-Some.at in
    let long : length given ≡ length c.self.inside.given.now = length-map c.self.inside.given.now (λ (b : ℕ × Bor (List ℕ)). (b.0, b.1.now)) in
    let many : length (blocks_of given) ≡ length c.self.inside.given.now = length-blocks_of c.self.inside.given.now in
    let inside : at < length known =
    omega (arith, c.in-Some.ensures.0, length-contents_of known, ap length c.self.invariant.5) in
    let there : slice_index_or (blocks_of given) at [] ≡ (get_or known at none).now =
    ap (λ (bs : List (List ℕ)). slice_index_or bs at []) (sym c.self.invariant.5) ∙ content_at known at none inside in
    let read : (get_or known at none).now ≡ c.index.result.now.now =
    sym (ap (λ (b : Bor (List ℕ)). b.now) (get_or_read known at c.index.result.now inside c.index.ensures none)) in
    let hand : slice_index_or (blocks_of given) at [] ≡ block_through (places_of given) (blocks_of given) (place_of c.args.j) =
    block_at_hand given at c.args.j c.self.invariant.2 c.self.invariant.3 (omega (arith, c.in-Some.ensures.0)) c.in-Some.ensures.1
    (omega arith) (subst AreBytes (sym (there ∙ read)) c.push_copy.ensures.small) in
    let whole : c.index.result.now.now ≡ block_through (places_of c.args.self.now) (blocks_of c.args.self.now) (place_of c.args.j) =
    sym (there ∙ read) ∙ hand ∙ ap (λ (g : List (ℕ × List ℕ)). block_through (places_of g) (blocks_of g) (place_of c.args.j)) c.self.view_is in
    subst (λ (b : List ℕ). OnOk c.push_copy.result (c.push_copy.new.bytes.items ≡ c.args.bytes.now.items ++ b)) whole c.push_copy.ensures.block
