use Rattle.std.proofs.Common.{◌≡◌, ℕ, ◌+◌, ◌^◌, ◌<◌, List, [], ◌++◌, length, sym, ap, subst, ◌∙◌, arith}
use Rattle.merkle.specs.Height.{height}
use Rattle.merkle.specs.Nodes.{tree_nodes}
use Rattle.merkle.specs.Tree.{padded}
use Rattle.merkle.specs.Chain.{chain, tree_chain}
use Rattle.merkle.proofs.Chained.{inside_tree}
use Rattle.merkle.proofs.NodeLists.{length-tree_nodes, kept_low}
use Rattle.merkle.proofs.kept.Tree.chain.Goals as goal

-- the nodes, by the height that was computed
nodes_are : (xs nodes slice : List (List ℕ)) (h count : ℕ) → count ≡ length xs → h ≡ height count → nodes ≡ tree_nodes (height (length xs)) (padded xs) → slice ≡ nodes → slice ≡ tree_nodes h (padded xs)
nodes_are xs nodes slice h count counted is kept same = same ∙ kept ∙ ap (λ d. tree_nodes d (padded xs)) (sym (is ∙ ap height counted))

sized : (xs slice : List (List ℕ)) (h : ℕ) → slice ≡ tree_nodes h (padded xs) → length slice + 1 ≡ 2 ^ (h + 1)
sized xs slice h is = ap (λ t. length t + 1) is ∙ length-tree_nodes h (padded xs)

pub push_beside-requires-clause-sized : goal.push_beside-requires-clause-sized
push_beside-requires-clause-sized c =
    let count : c.len.result ≡ length c.self.inside.leaves.items = omega arith in
    sized c.self.inside.leaves.items c.as_slice.result.now c.height-height.result
    (nodes_are c.self.inside.leaves.items c.self.inside.nodes.items c.as_slice.result.now c.height-height.result c.len.result count c.height-height.ensures c.self.invariant c.as_slice.ensures.value)

pub push_beside-requires-clause-low : goal.push_beside-requires-clause-low
push_beside-requires-clause-low c = kept_low c.height-height.result (length c.as_slice.result.now) (push_beside-requires-clause-sized c) c.as_slice.type_inv.1

pub push_beside-requires-clause-inside : goal.push_beside-requires-clause-inside
push_beside-requires-clause-inside c =
    let count : c.len.result ≡ length c.self.inside.leaves.items = omega arith in
    let view : c.self.inside.leaves.items ≡ c.args.self.now = c.self.view_is in
    let here : c.args.place < length c.self.inside.leaves.items = subst (λ xs. c.args.place < length xs) (sym view) c.requires in
    subst (λ d. c.args.place < 2 ^ d) (sym (c.height-height.ensures ∙ ap height count)) (inside_tree c.self.inside.leaves.items c.args.place here)

whole : (xs before hashes : List (List ℕ)) (h count place : ℕ) → count ≡ length xs → h ≡ height count → before ≡ [] → hashes ≡ before ++ tree_chain h (padded xs) place → hashes ≡ chain xs place
unfolding chain
whole xs before hashes h count place counted is empty made =
    made ∙ (λ i. empty i ++ tree_chain h (padded xs) place) ∙ ap (λ d. tree_chain d (padded xs) place) (is ∙ ap height counted)

pub returns : goal.returns
returns c =
    let view : c.self.inside.leaves.items ≡ c.args.self.now = c.self.view_is in
    let count : c.len.result ≡ length c.self.inside.leaves.items = omega arith in
    let kept = nodes_are c.self.inside.leaves.items c.self.inside.nodes.items c.as_slice.result.now c.height-height.result c.len.result count c.height-height.ensures c.self.invariant c.as_slice.ensures.value in
    whole c.self.inside.leaves.items c.in_ok-hashes.hashes.items c.push_beside.new.hashes.items c.height-height.result c.len.result c.args.place count c.height-height.ensures c.in_ok-hashes.ensures.items
    (c.in_ok-push_beside.ensures (padded c.self.inside.leaves.items) kept)
    ∙ ap (λ xs. chain xs c.args.place) view
