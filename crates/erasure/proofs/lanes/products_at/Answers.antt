use Rattle.std.proofs.Common.{ap, ◌∙◌, w8}
use Rattle.std.specs.Simd.Lanes.{chunk}
use Rattle.std.proofs.lemmas.Simd.{length-chunk, get_or-chunk, chunk-fits}
use Rattle.gf_field.specs.Field.{mul_of}
use Rattle.erasure.proofs.Halves.{low_halves_fit, high_halves_fit, length-products_with, products_with_at}
use Rattle.erasure.proofs.lanes.products_at.Goals as goal

pub swizzle-low_products : goal.swizzle-low_products
swizzle-low_products c = low_halves_fit (chunk c.args.at 32 c.args.src.now) (length-chunk c.args.at 32 c.args.src.now c.requires)

pub swizzle-high_products : goal.swizzle-high_products
swizzle-high_products c =
    high_halves_fit (chunk c.args.at 32 c.args.src.now) (length-chunk c.args.at 32 c.args.src.now c.requires)
    (chunk-fits w8 c.args.at 32 c.args.src.now (λ k. c.type_inv.src k))

pub returns-clause-long : goal.returns-clause-long
returns-clause-long c =
    length-products_with c.args.low c.args.high (chunk c.args.at 32 c.args.src.now) (length-chunk c.args.at 32 c.args.src.now c.requires)

pub returns-clause-products : goal.returns-clause-products
returns-clause-products c = λ factor k tables lt.
    products_with_at c.args.low c.args.high (chunk c.args.at 32 c.args.src.now) (length-chunk c.args.at 32 c.args.src.now c.requires)
    c.is_a_field.ensures.distributive factor k tables (chunk-fits w8 c.args.at 32 c.args.src.now (λ j. c.type_inv.src j)) lt
    ∙ ap (mul_of factor) (get_or-chunk c.args.at 32 c.args.src.now k 0 lt)
