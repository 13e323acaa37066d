use Rattle.std.proofs.Common.{ℕ, List, sym, refl, arith, get_or, ◌∙◌}
use Rattle.erasure.specs.Blocks.{size_of}
use Rattle.erasure.specs.Given.{contents_of}
use Rattle.erasure.proofs.Combining.{none, summed_start, summed_next, summed_end, content_at, one_length_at, length-contents_of}
use Rattle.erasure.proofs.interpolation.add_blocks.Goals as goal

pub loop-j-init : goal.loop-j-init
loop-j-init c =
    summed_start c.args.places.now (contents_of c.args.blocks.now) c.args.x (size_of (contents_of c.args.blocks.now)) c.args.sum.now refl c.requires.zeros

pub mul_add-requires : goal.mul_add-requires
mul_add-requires c =
    c.loop-j.invariant.long ∙ sym (one_length_at c.args.blocks.now c.loop-j.j _ c.requires.one_length c.loop-j-test.true)

pub loop-j-preserved : goal.loop-j-preserved
loop-j-preserved c =
    let block : List ℕ = (get_or c.args.blocks.now c.loop-j.j none).now in
    summed_next c.args.places.now (contents_of c.args.blocks.now) c.args.x c.loop-j.j c.loop-j.sum c.mul_add.new.dst block c.weight.result
    c.loop-j.invariant (omega (arith, length-contents_of c.args.blocks.now)) c.mul_add.auto.dst c.weight.ensures
    (content_at c.args.blocks.now c.loop-j.j none c.loop-j-test.true) c.mul_add.ensures

pub returns : goal.returns
returns c =
    summed_end c.args.places.now (contents_of c.args.blocks.now) c.args.x c.loop-j.j c.loop-j.sum c.loop-j.invariant
    (omega (arith, c.requires.as_many))
