use Rattle.std.proofs.Common.{ℕ, ◌/◌, ◌%◌, slice_index, refl}
use Rattle.aes_ctr.specs.Planes.{byte_of, sliced}
use Rattle.aes_ctr.proofs.transposition.planes_of.Goals as goal

pub returns : goal.returns
unfolding sliced byte_of
returns c = λ s e.
    let f : ℕ → ℕ = λ i. slice_index (s (i / 16)) (i % 16) in
    let p0 = c.plane_of.ensures f e in
    let p1 = c.plane_of-2.ensures f e in
    let p2 = c.plane_of-3.ensures f e in
    let p3 = c.plane_of-4.ensures f e in
    let p4 = c.plane_of-5.ensures f e in
    let p5 = c.plane_of-6.ensures f e in
    let p6 = c.plane_of-7.ensures f e in
    let p7 = c.plane_of-8.ensures f e in
    rw (p0, p1, p2, p3, p4, p5, p6, p7) refl
