use Rattle.std.proofs.Common.{ℕ, ◌∙◌, refl, bit_xor, lit<}
use Rattle.sha2.specs.Sha256.{big_sigma1}
use Rattle.tag_hash.proofs.Rotations.{eight_same, nested_three, rotated}
use Rattle.tag_hash.proofs.words.U32x8Words.upper_sigma1.Goals as goal

pub returns : goal.returns
returns c = λ f e.
    let inner : ℕ → ℕ = λ j. bit_xor (f j) (rotated 14 (f j)) in
    let first = c.rotated.ensures f e in
    let middle = c.rotated-2.ensures inner (rw (first, e) refl) in
    let last = c.rotated-3.ensures (λ j. bit_xor (f j) (rotated 5 (inner j))) (rw (middle, e) refl) in
    last ∙ eight_same f _ (λ j. big_sigma1 (f j)) c.args.self c.fits-self.1 e (λ k lt. nested_three 6 5 14 (f k) (lit< tt) lt)
