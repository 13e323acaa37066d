use Rattle.std.proofs.Common.{◌≡◌, ℕ, ◌-◌, ◌^◌, ◌<◌, ◌≤◌, List, [], ◌∷◌, ◌++◌, take, drop, get_or, ap, ◌∙◌, arith}
use Rattle.std.proofs.lemmas.List.{append_assoc}
use Rattle.merkle.specs.Chain.{tree_chain}
use Rattle.merkle.proofs.NodeLists.{left_of, right_of, last_of, chain_from_left, chain_from_right}
use Rattle.merkle.proofs.kept.+push_beside.Goals as goal

-- the chain in one half is there, and the root of the other half is pushed
pushed : (before after now more whole : List (List ℕ)) (one : List ℕ) → after ≡ now ++ one ∷ [] → now ≡ before ++ more → more ++ one ∷ [] ≡ whole → after ≡ before ++ whole
pushed before after now more whole one last front is =
    last ∙ ap (λ t. t ++ one ∷ []) front ∙ append_assoc before more (one ∷ []) ∙ ap (λ t. before ++ t) is

pub returns-in_ok-push : goal.returns-in_ok-push
returns-in_ok-push t c = λ leaves is.
    let d = c.args.height - 1 in
    let some = c.if-height-eq0.false in
    let left = left_of c.args.nodes.now leaves c.parts.result.0.now c.node_count-count.result c.args.height some is c.node_count-count.ensures c.parts.ensures.left in
    let right = right_of c.args.nodes.now leaves c.parts.result.1.now c.node_count-count.result c.args.height some is c.node_count-count.ensures c.parts.ensures.right in
    let inside : c.args.place < 2 ^ d = omega (arith, c.leaf_count-half.ensures) in
    let beside = last_of c.parts.result.1.now (drop (2 ^ d) leaves) c.node_count-count.result d [] right c.node_count-count.ensures in
    pushed c.args.hashes.now.items c.push.new.self.items c.push_beside.new.hashes.items
    (tree_chain d (take (2 ^ d) leaves) c.args.place) (tree_chain c.args.height leaves c.args.place)
    (get_or c.parts.result.1.now (c.node_count-count.result - 1) [])
    c.in_ok-push.ensures.items
    (c.in_ok-push_beside.ensures (take (2 ^ d) leaves) left)
    (ap (λ h. tree_chain d (take (2 ^ d) leaves) c.args.place ++ h ∷ []) beside ∙ chain_from_left leaves c.args.height c.args.place some inside)

pub returns-in_ok-push-2 : goal.returns-in_ok-push-2
returns-in_ok-push-2 t c = λ leaves is.
    let d = c.args.height - 1 in
    let some = c.if-height-eq0.false in
    let left = left_of c.args.nodes.now leaves c.parts.result.0.now c.node_count-count.result c.args.height some is c.node_count-count.ensures c.parts.ensures.left in
    let right = right_of c.args.nodes.now leaves c.parts.result.1.now c.node_count-count.result c.args.height some is c.node_count-count.ensures c.parts.ensures.right in
    let past : 2 ^ d ≤ c.args.place = omega (arith, c.leaf_count-half.ensures) in
    let beside = last_of c.parts.result.0.now (take (2 ^ d) leaves) c.node_count-count.result d [] left c.node_count-count.ensures in
    pushed c.args.hashes.now.items c.push-else-place-half.new.self.items c.push_beside-else-place-half.new.hashes.items
    (tree_chain d (drop (2 ^ d) leaves) (c.args.place - c.leaf_count-half.result)) (tree_chain c.args.height leaves c.args.place)
    (get_or c.parts.result.0.now (c.node_count-count.result - 1) [])
    c.in_ok-push-2.ensures.items
    (c.in_ok-push_beside-2.ensures (drop (2 ^ d) leaves) right)
    ((λ i. tree_chain d (drop (2 ^ d) leaves) (c.args.place - c.leaf_count-half.ensures i) ++ beside i ∷ []) ∙ chain_from_right leaves c.args.height c.args.place some past)
