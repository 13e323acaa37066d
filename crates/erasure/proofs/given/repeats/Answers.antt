use Rattle.std.proofs.Common.{◌≡◌, ℕ, ◌+◌, refl, true, false, ◌<◌, length, get_or, slice_index, slice_set, List, ap, subst, ◌∙◌, arith}
use Rattle.erasure.specs.Given.{numbered_of, numbers_of}
use Rattle.erasure.proofs.Numbered.{nothing, Marks, marks_start, marks_found, marks_next, marks_end, number_at, length-numbers_of}
use Rattle.erasure.proofs.given.repeats.Goals as goal

pub loop-number-init : goal.loop-number-init
loop-number-init c = marks_start (numbers_of (numbered_of c.args.given.now))

pub returns-then-seen-number : goal.returns-then-seen-number
returns-then-seen-number c =
    let n : ℕ = c.loop-number.number-index in
    let numbers : List ℕ = numbers_of (numbered_of c.args.given.now) in
    let long : n < length numbers = omega (arith, length-numbers_of c.args.given.now) in
    let e : slice_index numbers n ≡ (get_or c.args.given.now n nothing).0 = number_at c.args.given.now n nothing c.loop-number-test.true in (
      λ _. marks_found numbers c.loop-number.seen n c.loop-number.invariant long
          (ap (λ (v : ℕ). get_or c.loop-number.seen v false) e ∙ c.if-seen-number.true),
      λ _. refl,
    )

pub loop-number-preserved : goal.loop-number-preserved
loop-number-preserved c =
    let n : ℕ = c.loop-number.number-index in
    let numbers : List ℕ = numbers_of (numbered_of c.args.given.now) in
    let e : slice_index numbers n ≡ (get_or c.args.given.now n nothing).0 = number_at c.args.given.now n nothing c.loop-number-test.true in
    let small : slice_index numbers n < 256 = omega (arith, e, c.requires n nothing c.loop-number-test.true) in
    let next = marks_next numbers c.loop-number.seen n c.loop-number.invariant small
    (ap (λ (v : ℕ). get_or c.loop-number.seen v false) e ∙ c.if-seen-number.false) in
    subst (λ (v : ℕ). Marks numbers (slice_set c.loop-number.seen v true) (n + 1)) e next

pub returns : goal.returns
returns c =
    let numbers : List ℕ = numbers_of (numbered_of c.args.given.now) in (
      λ h. let no : false ≡ true = h in cc,
      λ r. absurd (marks_end numbers c.loop-number.seen c.loop-number.number-index c.loop-number.invariant
          (omega (arith, length-numbers_of c.args.given.now)) r),
    )
