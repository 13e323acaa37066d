use Rattle.std.proofs.Common.{ℕ, ◌≡◌, ◌≤◌, length, take, ◌∙◌, arith}
use Rattle.std.proofs.lemmas.List.{get_or-take, length-take-le}
use Rattle.std.proofs.lemmas.List.FromFn.{fill_by_all}
use Rattle.erasure.specs.Code.{place_of}
use Rattle.erasure.proofs.interpolation.places_of_first.Goals as goal

pub returns : goal.returns
returns c =
    let k : ℕ = c.args.k in
    let last : c.loop-j.j ≡ k = omega (arith, c.loop-j.auto.j-end, c.loop-j-test.false) in
    let inside : k ≤ length c.loop-j.places = omega (arith, c.requires, c.loop-j.invariant.long) in
    fill_by_all place_of (take k c.loop-j.places) k 0 (length-take-le k c.loop-j.places inside)
    (λ i lt. get_or-take k c.loop-j.places i 0 lt ∙ c.loop-j.invariant.made i (omega (arith, lt, last)))
