use Rattle.std.proofs.Common.{ℕ, ◌/◌, ◌^◌, refl, ap, bit_xor, lit<}
use Rattle.sha2.specs.Sha256.{small_sigma0}
use Rattle.tag_hash.proofs.Rotations.{four_same, nested_two, rotated}
use Rattle.tag_hash.proofs.words.U32x4Words.lower_sigma0.Goals as goal

pub returns : goal.returns
returns c = λ f e.
    let first = c.rotated.ensures f e in
    let last = c.rotated-2.ensures (λ j. bit_xor (f j) (rotated 11 (f j))) (rw (first, e) refl) in
    rw (last, e) (four_same f _ (λ j. small_sigma0 (f j)) c.args.self c.fits-self.1 e
    (λ k lt. ap (λ (s : ℕ). bit_xor s (f k / 2 ^ 3)) (nested_two 7 11 (f k) (lit< tt) lt)))
