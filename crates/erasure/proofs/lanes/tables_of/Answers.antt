use Rattle.std.proofs.Common.{◌≡◌, ℕ, ◌*◌, ◌%◌, List, map, slice_index, ap, ◌∙◌, arith}
use Rattle.std.specs.List.{range_with_len}
use Rattle.std.proofs.lemmas.List.FromFn.{get_or-map-range_with_len}
use Rattle.gf_field.specs.Field.{mul_of}
use Rattle.erasure.specs.Tables.{AreProducts}
use Rattle.erasure.proofs.lanes.tables_of.Goals as goal

-- the products lie in the order of the numbers below 16
in_order : ((a b : ℕ) → mul_of a b ≡ mul_of b a) → (c step : ℕ) (products : List ℕ)
    → products ≡ map (λ k. mul_of (step * (k % 16)) c) (range_with_len 0 32) → AreProducts c step products
in_order commutes c step products e k lt =
    ap (λ (l : List ℕ). slice_index l k) e
    ∙ get_or-map-range_with_len (λ k. mul_of (step * (k % 16)) c) 0 32 k k 0 lt (omega arith)
    ∙ commutes (step * (k % 16)) c

pub returns : goal.returns
returns c = record {
  low_half = in_order c.is_a_field.ensures.commutative c.args.c 1 c.mul_lanes.result c.mul_lanes.ensures;
  high_half = in_order c.is_a_field.ensures.commutative c.args.c 16 c.mul_lanes-2.result c.mul_lanes-2.ensures;
}
