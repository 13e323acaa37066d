use Rattle.std.proofs.Common.{◌≡◌, ℕ, ◌+◌, ◌-◌, ◌^◌, ◌≤◌, List, [], ◌∷◌, ◌++◌, length, take, drop, sym, ap, subst, ◌∙◌, arith}
use Rattle.std.proofs.lemmas.List.{append_assoc}
use Rattle.merkle.specs.Node.{node}
use Rattle.merkle.specs.Tree.{tree_root}
use Rattle.merkle.specs.Nodes.{tree_nodes}
use Rattle.merkle.specs.Filled.{filled}
use Rattle.merkle.proofs.Levels.{low, half_room}
use Rattle.merkle.proofs.FilledLemmas.{tree_root-filled, left_within, right_within}
use Rattle.merkle.proofs.NodeLists.{tree_nodes-filled}
use Rattle.merkle.proofs.kept.+push_nodes.Goals as goal

pub leaf_count-half-requires : goal.leaf_count-half-requires
leaf_count-half-requires t c = let most = low c.args.height (omega arith) in let some = c.if-height-eq0.false in omega arith

left_part : (half : ℕ) (xs part : List (List ℕ)) (h : ℕ) → half ≡ 2 ^ h → part ≡ take half xs → part ≡ take (2 ^ h) xs
left_part half xs part h size is = is ∙ ap (λ n. take n xs) size

right_part : (half : ℕ) (xs part : List (List ℕ)) (h : ℕ) → half ≡ 2 ^ h → part ≡ drop half xs → part ≡ drop (2 ^ h) xs
right_part half xs part h size is = is ∙ ap (λ n. drop n xs) size

pub push_nodes-requires : goal.push_nodes-requires
push_nodes-requires t c =
    let twice = half_room c.args.height c.if-height-eq0.false in
    let left = left_part c.leaf_count-half.result c.args.leaves.now c.halves.result.0.now (c.args.height - 1) c.leaf_count-half.ensures c.halves.ensures.left in
    (omega (arith, c.decreases), (subst (λ part. length part ≤ 2 ^ (c.args.height - 1)) (sym left) (left_within c.args.leaves.now (c.args.height - 1)), omega arith))

pub overflow_add-first : goal.overflow_add-first
overflow_add-first t c = let twice = half_room c.args.height c.if-height-eq0.false in omega arith

pub push_nodes-requires-2 : goal.push_nodes-requires-2
push_nodes-requires-2 t c =
    let twice = half_room c.args.height c.if-height-eq0.false in
    let right = right_part c.leaf_count-half.result c.args.leaves.now c.halves.result.1.now (c.args.height - 1) c.leaf_count-half.ensures c.halves.ensures.right in
    (omega (arith, c.decreases), (subst (λ part. length part ≤ 2 ^ (c.args.height - 1)) (sym right) (right_within c.args.leaves.now c.args.height c.if-height-eq0.false c.requires.within), omega arith))

pub returns-clause-top : goal.returns-clause-top
returns-clause-top t c =
    let xs = c.args.leaves.now in
    let d = c.args.height - 1 in
    let left = left_part c.leaf_count-half.result xs c.halves.result.0.now d c.leaf_count-half.ensures c.halves.ensures.left in
    let right = right_part c.leaf_count-half.result xs c.halves.result.1.now d c.leaf_count-half.ensures c.halves.ensures.right in
    c.node-top.ensures
    ∙ (λ i. node (c.in_ok-left_top.ensures.top i) (c.in_ok-right_top.ensures.top i))
    ∙ (λ i. node (tree_root d (filled (left i) c.args.first d)) (tree_root d (filled (right i) (c.args.first + c.leaf_count-half.ensures i) d)))
    ∙ tree_root-filled xs c.args.first c.args.height c.if-height-eq0.false c.requires.within

-- the nodes of both halves, and the root behind them
gathered : (before one two after a b whole : List (List ℕ)) (top : List ℕ) → one ≡ before ++ a → two ≡ one ++ b → after ≡ two ++ top ∷ [] → a ++ (b ++ top ∷ []) ≡ whole → after ≡ before ++ whole
gathered before one two after a b whole top first second third is =
    third ∙ ap (λ t. t ++ top ∷ []) (second ∙ ap (λ t. t ++ b) first) ∙ regroup ∙ ap (λ t. before ++ t) is
  where
    regroup : ((before ++ a) ++ b) ++ top ∷ [] ≡ before ++ (a ++ (b ++ top ∷ []))
    regroup = simp append_assoc

pub returns-clause-nodes : goal.returns-clause-nodes
returns-clause-nodes t c =
    let xs = c.args.leaves.now in
    let d = c.args.height - 1 in
    let left = left_part c.leaf_count-half.result xs c.halves.result.0.now d c.leaf_count-half.ensures c.halves.ensures.left in
    let right = right_part c.leaf_count-half.result xs c.halves.result.1.now d c.leaf_count-half.ensures c.halves.ensures.right in
    let top = returns-clause-top t c in
    gathered c.args.nodes.now.items c.push_nodes.new.nodes.items c.push_nodes-2.new.nodes.items c.push-2.new.self.items
    (tree_nodes d (filled c.halves.result.0.now c.args.first d))
    (tree_nodes d (filled c.halves.result.1.now (c.args.first + c.leaf_count-half.result) d))
    (tree_nodes c.args.height (filled xs c.args.first c.args.height))
    c.node-top.result
    c.in_ok-left_top.ensures.nodes c.in_ok-right_top.ensures.nodes c.in_ok-push-2.ensures.items
    ((λ i. tree_nodes d (filled (left i) c.args.first d) ++ (tree_nodes d (filled (right i) (c.args.first + c.leaf_count-half.ensures i) d) ++ top i ∷ []))
    ∙ tree_nodes-filled xs c.args.first c.args.height c.if-height-eq0.false c.requires.within)
