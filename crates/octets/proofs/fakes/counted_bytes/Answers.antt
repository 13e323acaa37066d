use Rattle.std.proofs.Common.{◌≡◌, length, ◌++◌, ◌∷◌, [], ◌%◌, ap, sym, ◌∙◌, arith}
use Rattle.std.proofs.lemmas.List.FromFn.{length-map-range_with_len, map-range_with_len_more}
use Rattle.octets.specs.Counted.{counted}
use Rattle.octets.proofs.fakes.counted_bytes.Goals as goal

pub loop-i-init : goal.loop-i-init
unfolding counted
loop-i-init c = c.in_ok-bytes.ensures.items

pub loop-i-preserved : goal.loop-i-preserved
unfolding counted
loop-i-preserved c =
    c.in_ok-push.ensures.items
    ∙ ap (λ bytes. bytes ++ (c.loop-i.i % 251) ∷ []) c.loop-i.invariant
    ∙ sym (map-range_with_len_more (λ i. i % 251) 0 c.loop-i.i c.loop-i.i (omega arith))

pub returns-clause-len : goal.returns-clause-len
unfolding counted
returns-clause-len c =
    let pushed : length c.loop-i.bytes.items ≡ c.loop-i.i =
    ap length c.loop-i.invariant ∙ length-map-range_with_len (λ i. i % 251) 0 c.loop-i.i in
    omega (arith, pushed, c.loop-i-test.false, c.loop-i.auto.i-end)
