use Rattle.std.proofs.Common.{◌≡◌, ℕ, ◌^◌, ◌≤◌, List, [], ◌++◌, length, sym, ap, subst, ◌∙◌, arith}
use Rattle.merkle.specs.Height.{height}
use Rattle.merkle.specs.Nodes.{tree_nodes}
use Rattle.merkle.specs.Tree.{padded}
use Rattle.merkle.specs.Filled.{filled}
use Rattle.merkle.proofs.Levels.{height_fits, height_least}
use Rattle.merkle.proofs.FilledLemmas.{padded_is}
use Rattle.merkle.proofs.kept.Tree.new.Goals as goal

pub node_count-requires : goal.node_count-requires
node_count-requires c =
    let low = height_least (length c.args.leaves.items) 62 (omega arith) in
    let count : c.len.result ≡ length c.args.leaves.items = omega arith in
    let same = c.height-height.ensures ∙ ap height count in
    omega arith

within : (xs : List (List ℕ)) (h count : ℕ) → count ≡ length xs → h ≡ height count → length xs ≤ 2 ^ h
within xs h count counted is = subst (λ d. length xs ≤ 2 ^ d) (sym (is ∙ ap height counted)) (height_fits (length xs))

pub push_nodes-requires-clause-within : goal.push_nodes-requires-clause-within
push_nodes-requires-clause-within c =
    let count : c.len.result ≡ length c.args.leaves.items = omega arith in
    subst (λ xs. length xs ≤ 2 ^ c.height-height.result) (sym c.as_slice.ensures.value) (within c.args.leaves.items c.height-height.result c.len.result count c.height-height.ensures)

whole : (xs slice before nodes : List (List ℕ)) (h count : ℕ) → count ≡ length xs → h ≡ height count → slice ≡ xs → before ≡ [] → nodes ≡ before ++ tree_nodes h (filled slice 0 h) → nodes ≡ tree_nodes (height (length xs)) (padded xs)
whole xs slice before nodes h count counted is same empty made =
    made ∙ (λ i. empty i ++ tree_nodes h (filled (same i) 0 h))
    ∙ ap (λ d. tree_nodes d (filled xs 0 d)) (is ∙ ap height counted)
    ∙ ap (tree_nodes (height (length xs))) (sym (padded_is xs))

pub invariant_of-result : goal.invariant_of-result
invariant_of-result c =
    let count : c.len.result ≡ length c.args.leaves.items = omega arith in
    whole c.args.leaves.items c.as_slice.result.now c.in_ok-nodes.nodes.items c.push_nodes.new.nodes.items c.height-height.result c.len.result count c.height-height.ensures c.as_slice.ensures.value c.in_ok-nodes.ensures.items c.in_ok-push_nodes.ensures.nodes
