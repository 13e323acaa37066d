use Rattle.std.proofs.Common.{◌≡◌, ◌<◌, ◌≤◌, ◌↔◌, ℕ, List, Bor, Err, IsErrOf, All, true, false, length, take, refl, sym, ap, ◌∙◌, subst, arith}
use Rattle.erasure.specs.declared.fault.CodeFault.TheVariants.{UnequalLength}
use Rattle.erasure.specs.Given.{numbered_of, numbers_of, blocks_of, AreDistinct, AreNumbers, Repeats, HaveOneLength, HasAnotherLength}
use Rattle.erasure.proofs.Numbered.{are_numbers, distinct_or_repeats, one_length_or_another}
use Rattle.erasure.proofs.code.Code.decodable.Goals as goal

pub returns-clause-taken : goal.returns-clause-taken
returns-clause-taken c =
    let same : c.self.inside.k ≡ c.args.self.now.k = ap (λ s. s.k) c.self.view_is in
    let total : c.self.inside.n ≡ c.args.self.now.n = ap (λ s. s.n) c.self.view_is in
    let given : List (ℕ × Bor (List ℕ)) = take c.self.inside.k c.args.blocks.now in
    let below : All (λ (b : ℕ × Bor (List ℕ)). b.0 < c.args.self.now.n) given =
    subst (λ (k : ℕ). All (λ (b : ℕ × Bor (List ℕ)). b.0 < c.args.self.now.n) (take k c.args.blocks.now)) (sym same) c.requires in
    subst (λ (k : ℕ). (0 < k) × (k ≤ 256) × (k ≤ length c.args.blocks.now) × AreNumbers (numbers_of (numbered_of (take k c.args.blocks.now))) × HaveOneLength (blocks_of (numbered_of (take k c.args.blocks.now))))
    same (
      omega (arith, c.self.invariant),
      omega (arith, c.self.invariant),
      c.if-blocks-k.false,
      are_numbers given (λ i d lt. let h = below i d lt in omega (arith, c.self.invariant)) (λ r. let no : false ≡ true = sym c.if-repeats.false ∙ c.repeats.ensures.1 r in cc),
      one_length_or_another (blocks_of (numbered_of given)) (λ r. let no : false ≡ true = sym c.if-has_another_length.false ∙ c.has_another_length.ensures.1 r in cc),
    )

pub returns-then-repeats-clause-unequal : goal.returns-then-repeats-clause-unequal
returns-then-repeats-clause-unequal c = (
  λ h. cc,
  λ p. (let r = subst (λ (k : ℕ). Repeats (numbers_of (numbered_of (take k c.args.blocks.now)))) (ap (λ s. s.k) c.self.view_is) (c.repeats.ensures.0 c.if-repeats.true) in
      absurd (p.1 r.0 r.1 0 r.2 r.3 r.4)),
)

pub returns-then-has_another_length-clause-unequal : goal.returns-then-has_another_length-clause-unequal
returns-then-has_another_length-clause-unequal c =
    subst (λ (k : ℕ). IsErrOf {T = Bor (List (ℕ × Bor (List ℕ)))} (Err UnequalLength) UnequalLength
    ↔ ((k ≤ length c.args.blocks.now) × AreDistinct (numbers_of (numbered_of (take k c.args.blocks.now))) × HasAnotherLength (blocks_of (numbered_of (take k c.args.blocks.now)))))
    (ap (λ s. s.k) c.self.view_is) (
      λ _. (
        c.if-blocks-k.false,
        distinct_or_repeats (numbers_of (numbered_of (take c.self.inside.k c.args.blocks.now))) (λ r. let no : false ≡ true = sym c.if-repeats.false ∙ c.repeats.ensures.1 r in cc),
        c.has_another_length.ensures.0 c.if-has_another_length.true,
      ),
      λ _. refl,
    )
