use Rattle.std.proofs.Common.{◌≡◌, ℕ, ◌^◌, ◌≤◌, List, ◌++◌, length, sym, ap, subst, ◌∙◌, arith}
use Rattle.merkle.specs.Height.{height}
use Rattle.merkle.specs.Chain.{chain, tree_chain}
use Rattle.merkle.specs.Filled.{filled}
use Rattle.merkle.proofs.Levels.{height_fits, height_least, pow_monotone}
use Rattle.merkle.proofs.FilledLemmas.{padded_is}
use Rattle.merkle.proofs.chains.chain.Goals as goal

pub push_chain-requires-clause-within : goal.push_chain-requires-clause-within
push_chain-requires-clause-within c = subst (λ h. length c.args.leaves.now ≤ 2 ^ h) (sym c.height-height.ensures) (height_fits (length c.args.leaves.now))

pub push_chain-requires-clause-room : goal.push_chain-requires-clause-room
push_chain-requires-clause-room c =
    let low : height (length c.args.leaves.now) ≤ 64 = height_least (length c.args.leaves.now) 64 (omega arith) in
    let room = pow_monotone c.height-height.result 64 (omega (arith, c.height-height.ensures)) in
    omega arith

pub push_chain-requires-clause-inside : goal.push_chain-requires-clause-inside
push_chain-requires-clause-inside c =
    let within : length c.args.leaves.now ≤ 2 ^ c.height-height.result = subst (λ h. length c.args.leaves.now ≤ 2 ^ h) (sym c.height-height.ensures) (height_fits (length c.args.leaves.now)) in
    omega arith

whole : (xs : List (List ℕ)) (h place : ℕ) → h ≡ height (length xs) → tree_chain h (filled xs 0 h) place ≡ chain xs place
unfolding chain
whole xs h place is = ap (λ d. tree_chain d (filled xs 0 d) place) is ∙ ap (λ t. tree_chain (height (length xs)) t place) (sym (padded_is xs))

pub returns : goal.returns
returns c =
    c.in_ok-push_chain.ensures ∙ ap (λ t. t ++ tree_chain c.height-height.result (filled c.args.leaves.now 0 c.height-height.result) c.args.place) c.in_ok-hashes.ensures.items
    ∙ whole c.args.leaves.now c.height-height.result c.args.place c.height-height.ensures
