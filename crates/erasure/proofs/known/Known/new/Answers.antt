use Rattle.std.proofs.Common.{◌≡◌, ℕ, get_or, slice_index, ◌<◌, refl, ap, ◌∙◌, arith}
use Rattle.erasure.specs.Given.{contents_of, numbered_of, numbers_of}
use Rattle.erasure.proofs.Numbered.{nothing, number_at, length-numbers_of}
use Rattle.erasure.proofs.Decoding.{places_more, blocks_more}
use Rattle.erasure.proofs.known.Known.new.Goals as goal

pub loop-number-init : goal.loop-number-init
loop-number-init c = record { placed = c.in_ok-places.ensures.items; known = ap contents_of c.in_ok-contents.ensures.items }

pub place-requires : goal.place-requires
place-requires c =
    let n : ℕ = c.loop-number.number-index in
    let e : slice_index (numbers_of (numbered_of c.args.given.now)) n ≡ (get_or c.args.given.now n nothing).0 = number_at c.args.given.now n nothing c.loop-number-test.true in
    let small : slice_index (numbers_of (numbered_of c.args.given.now)) n < 256 =
    c.requires.numbers.small n 0 (omega (arith, c.loop-number-test.true, length-numbers_of c.args.given.now)) in
    omega (arith, e, small)

pub loop-number-preserved : goal.loop-number-preserved
loop-number-preserved c = record {
  placed = c.in_ok-push.ensures.items
      ∙ places_more c.args.given.now c.loop-number.number-index nothing c.loop-number.places.items c.place.result c.loop-number-test.true
      c.loop-number.invariant.placed c.place.ensures;
  known = ap contents_of c.in_ok-push-2.ensures.items
      ∙ blocks_more c.args.given.now c.loop-number.number-index nothing c.loop-number.contents.items
      (get_or c.args.given.now c.loop-number.number-index nothing).1 c.loop-number-test.true c.loop-number.invariant.known refl;
}
