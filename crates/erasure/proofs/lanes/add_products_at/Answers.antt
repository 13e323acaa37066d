use Rattle.std.proofs.Common.{◌≡◌, ◌+◌, ◌≤◌, length, sym, ◌∙◌, arith}
use Rattle.std.specs.Int.Bits.{bit_xor}
use Rattle.std.specs.Simd.Lanes.{zip2, chunk}
use Rattle.std.proofs.lemmas.Simd.{length-zip2, length-chunk, get_or-put_chunk_below, get_or-put_chunk_above}
use Rattle.erasure.proofs.Halves.{put_added}
use Rattle.erasure.proofs.lanes.add_products_at.Goals as goal

pub returns-clause-added : goal.returns-clause-added
returns-clause-added c = λ factor tables.
    put_added factor c.args.at c.args.src.now c.args.dst.now c.products_at-products.result c.products_at-products.ensures.long (omega arith)
    (λ k lt. c.products_at-products.ensures.products factor k tables lt)

pub returns-clause-below : goal.returns-clause-below
returns-clause-below c = λ i lt. get_or-put_chunk_below c.args.at c.args.dst.now _ i 0 lt

pub returns-clause-above : goal.returns-clause-above
returns-clause-above c = λ i le.
    let within : c.args.at + 32 ≤ length c.args.dst.now = omega arith in
    let there = length-chunk c.args.at 32 c.args.dst.now within in
    let long : length (zip2 bit_xor (chunk c.args.at 32 c.args.dst.now) c.products_at-products.result) ≡ 32 =
    length-zip2 bit_xor (chunk c.args.at 32 c.args.dst.now) c.products_at-products.result (there ∙ sym c.products_at-products.ensures.long) ∙ there in
    get_or-put_chunk_above c.args.at c.args.dst.now (zip2 bit_xor (chunk c.args.at 32 c.args.dst.now) c.products_at-products.result) i 0 (omega arith)
