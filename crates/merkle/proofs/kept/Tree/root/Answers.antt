use Rattle.std.proofs.Common.{◌≡◌, ℕ, ◌+◌, ◌-◌, ◌^◌, List, length, get_or, ap, ◌∙◌, arith}
use Rattle.merkle.specs.Height.{height}
use Rattle.merkle.specs.Nodes.{tree_nodes}
use Rattle.merkle.specs.Tree.{padded, root}
use Rattle.merkle.proofs.NodeLists.{length-tree_nodes, last_of}
use Rattle.merkle.proofs.kept.Tree.root.Goals as goal

whole : (xs nodes : List (List ℕ)) (count : ℕ) (top : List ℕ) → count ≡ length nodes → nodes ≡ tree_nodes (height (length xs)) (padded xs) → top ≡ get_or nodes (count - 1) top → top ≡ root xs
unfolding root
whole xs nodes count top counted is found =
    let h = height (length xs) in
    let size : count + 1 ≡ 2 ^ (h + 1) = ap (λ n. n + 1) (counted ∙ ap length is) ∙ length-tree_nodes h (padded xs) in
    found ∙ last_of nodes (padded xs) count h top is size

pub returns : goal.returns
returns c =
    let view : c.self.inside.leaves.items ≡ c.args.self.now = c.self.view_is in
    let count : c.len.result ≡ length c.self.inside.nodes.items = omega arith in
    whole c.self.inside.leaves.items c.self.inside.nodes.items c.len.result c.index.result.now count c.self.invariant c.index.ensures ∙ ap root view
