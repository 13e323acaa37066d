use Rattle.std.proofs.Common.{ℕ, ◌∙◌, refl, bit_xor, lit<}
use Rattle.sha2.specs.Sha256.{big_sigma0}
use Rattle.tag_hash.proofs.Rotations.{four_same, nested_three, rotated}
use Rattle.tag_hash.proofs.words.U32x4Words.upper_sigma0.Goals as goal

pub returns : goal.returns
returns c = λ f e.
    let inner : ℕ → ℕ = λ j. bit_xor (f j) (rotated 9 (f j)) in
    let first = c.rotated.ensures f e in
    let middle = c.rotated-2.ensures inner (rw (first, e) refl) in
    let last = c.rotated-3.ensures (λ j. bit_xor (f j) (rotated 11 (inner j))) (rw (middle, e) refl) in
    last ∙ four_same f _ (λ j. big_sigma0 (f j)) c.args.self c.fits-self.1 e (λ k lt. nested_three 2 11 9 (f k) (lit< tt) lt)
