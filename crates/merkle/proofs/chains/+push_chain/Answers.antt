use Rattle.std.proofs.Common.{◌≡◌, ℕ, ◌+◌, ◌-◌, ◌^◌, ◌<◌, ◌≤◌, List, [], ◌∷◌, ◌++◌, length, take, drop, sym, ap, subst, ◌∙◌, arith}
use Rattle.std.proofs.lemmas.List.{append_assoc}
use Rattle.merkle.specs.Chain.{tree_chain}
use Rattle.merkle.specs.Tree.{tree_root}
use Rattle.merkle.specs.Filled.{filled}
use Rattle.merkle.proofs.Levels.{low, half_room}
use Rattle.merkle.proofs.FilledLemmas.{tree_chain-left, tree_chain-right, left_within, right_within}
use Rattle.merkle.proofs.chains.+push_chain.Goals as goal

pub leaf_count-half-requires : goal.leaf_count-half-requires
leaf_count-half-requires t c = let most = low c.args.height (omega arith) in let some = c.if-height-eq0.false in omega arith

left_part : (half : ℕ) (xs part : List (List ℕ)) (h : ℕ) → half ≡ 2 ^ h → part ≡ take half xs → part ≡ take (2 ^ h) xs
left_part half xs part h size is = is ∙ ap (λ n. take n xs) size

right_part : (half : ℕ) (xs part : List (List ℕ)) (h : ℕ) → half ≡ 2 ^ h → part ≡ drop half xs → part ≡ drop (2 ^ h) xs
right_part half xs part h size is = is ∙ ap (λ n. drop n xs) size

pub push_chain-requires : goal.push_chain-requires
push_chain-requires t c =
    let twice = half_room c.args.height c.if-height-eq0.false in
    let left = left_part c.leaf_count-half.result c.args.leaves.now c.halves.result.0.now (c.args.height - 1) c.leaf_count-half.ensures c.halves.ensures.left in
    (omega (arith, c.decreases), (subst (λ part. length part ≤ 2 ^ (c.args.height - 1)) (sym left) (left_within c.args.leaves.now (c.args.height - 1)), (omega arith, omega (arith, c.leaf_count-half.ensures))))

pub overflow_add-first : goal.overflow_add-first
overflow_add-first t c = let twice = half_room c.args.height c.if-height-eq0.false in omega arith

pub subtree_root-requires-clause-within : goal.subtree_root-requires-clause-within
subtree_root-requires-clause-within t c =
    let right = right_part c.leaf_count-half.result c.args.leaves.now c.halves.result.1.now (c.args.height - 1) c.leaf_count-half.ensures c.halves.ensures.right in
    subst (λ part. length part ≤ 2 ^ (c.args.height - 1)) (sym right) (right_within c.args.leaves.now c.args.height c.if-height-eq0.false c.requires.within)

pub subtree_root-requires-clause-room : goal.subtree_root-requires-clause-room
subtree_root-requires-clause-room t c = let twice = half_room c.args.height c.if-height-eq0.false in omega arith

pub push_chain-requires-else-place-half : goal.push_chain-requires-else-place-half
push_chain-requires-else-place-half t c =
    let twice = half_room c.args.height c.if-height-eq0.false in
    let right = right_part c.leaf_count-half.result c.args.leaves.now c.halves.result.1.now (c.args.height - 1) c.leaf_count-half.ensures c.halves.ensures.right in
    (omega (arith, c.decreases), (subst (λ part. length part ≤ 2 ^ (c.args.height - 1)) (sym right) (right_within c.args.leaves.now c.args.height c.if-height-eq0.false c.requires.within), (omega arith, omega arith)))

-- the chain in one half is there, and the root of the other half is pushed
pushed : (before after now more whole : List (List ℕ)) (one : List ℕ) → after ≡ now ++ one ∷ [] → now ≡ before ++ more → more ++ one ∷ [] ≡ whole → after ≡ before ++ whole
pushed before after now more whole one last front is =
    last ∙ ap (λ t. t ++ one ∷ []) front ∙ append_assoc before more (one ∷ []) ∙ ap (λ t. before ++ t) is

pub returns-in_ok-push : goal.returns-in_ok-push
returns-in_ok-push t c =
    let xs = c.args.leaves.now in
    let d = c.args.height - 1 in
    let left = left_part c.leaf_count-half.result xs c.halves.result.0.now d c.leaf_count-half.ensures c.halves.ensures.left in
    let right = right_part c.leaf_count-half.result xs c.halves.result.1.now d c.leaf_count-half.ensures c.halves.ensures.right in
    let inside : c.args.place < 2 ^ d = omega (arith, c.leaf_count-half.ensures) in
    pushed c.args.hashes.now.items c.push.new.self.items c.push_chain.new.hashes.items
    (tree_chain d (filled c.halves.result.0.now c.args.first d) c.args.place)
    (tree_chain c.args.height (filled xs c.args.first c.args.height) c.args.place)
    c.subtree_root.result
    c.in_ok-push.ensures.items
    c.in_ok-push_chain.ensures
    (ap (λ h. tree_chain d (filled c.halves.result.0.now c.args.first d) c.args.place ++ h ∷ []) c.subtree_root.ensures
    ∙ (λ i. tree_chain d (filled (left i) c.args.first d) c.args.place ++ tree_root d (filled (right i) (c.args.first + c.leaf_count-half.ensures i) d) ∷ [])
    ∙ tree_chain-left xs c.args.first c.args.height c.args.place c.if-height-eq0.false c.requires.within inside)

pub returns-in_ok-push-2 : goal.returns-in_ok-push-2
returns-in_ok-push-2 t c =
    let xs = c.args.leaves.now in
    let d = c.args.height - 1 in
    let left = left_part c.leaf_count-half.result xs c.halves.result.0.now d c.leaf_count-half.ensures c.halves.ensures.left in
    let right = right_part c.leaf_count-half.result xs c.halves.result.1.now d c.leaf_count-half.ensures c.halves.ensures.right in
    let past : 2 ^ d ≤ c.args.place = omega (arith, c.leaf_count-half.ensures) in
    pushed c.args.hashes.now.items c.push-else-place-half.new.self.items c.push_chain-else-place-half.new.hashes.items
    (tree_chain d (filled c.halves.result.1.now (c.args.first + c.leaf_count-half.result) d) (c.args.place - c.leaf_count-half.result))
    (tree_chain c.args.height (filled xs c.args.first c.args.height) c.args.place)
    c.subtree_root-else-place-half.result
    c.in_ok-push-2.ensures.items
    c.in_ok-push_chain-2.ensures
    (ap (λ h. tree_chain d (filled c.halves.result.1.now (c.args.first + c.leaf_count-half.result) d) (c.args.place - c.leaf_count-half.result) ++ h ∷ []) c.subtree_root-else-place-half.ensures
    ∙ (λ i. tree_chain d (filled (right i) (c.args.first + c.leaf_count-half.ensures i) d) (c.args.place - c.leaf_count-half.ensures i) ++ tree_root d (filled (left i) c.args.first d) ∷ [])
    ∙ tree_chain-right xs c.args.first c.args.height c.args.place c.if-height-eq0.false c.requires.within past)
