-- The chains of a list of leaves.
use Rattle.std.proofs.Common.{◌≡◌, ℕ, ◌^◌, ◌<◌, List, [], length, map, get_or, sym, ap, subst, ◌∙◌, arith}
use Rattle.std.specs.Prelude.{Contains}
use Rattle.std.proofs.Math.ListN.{get_or-append}
use Rattle.std.proofs.lemmas.List.Elements.{Contains-append_right}
use Rattle.tag_hash.specs.Collisions.{Includes}
use Rattle.merkle.specs.Height.{height}
use Rattle.merkle.specs.Node.{empty_leaf, empty_leaf_use}
use Rattle.merkle.specs.Tree.{root, root_uses, padded, padding, tree_uses}
use Rattle.merkle.specs.Chain.{chain, tree_chain}
use Rattle.merkle.specs.Leads.{Leads, led_to, leads_uses}
use Rattle.merkle.proofs.Levels.{height_fits}
use Rattle.merkle.proofs.Paths.{length-tree_chain, tree_chain_leads, tree_chain_uses}

pub length-chain : (xs : List (List ℕ)) (place : ℕ) → length (chain xs place) ≡ height (length xs)
unfolding chain
length-chain xs place = length-tree_chain (height (length xs)) (padded xs) place

pub inside_tree : (xs : List (List ℕ)) (place : ℕ) → place < length xs → place < 2 ^ height (length xs)
inside_tree xs place inside = let fits = height_fits (length xs) in omega arith

-- padding leaves the leaves where they are
pub leaf_padded : (xs : List (List ℕ)) (place : ℕ) → place < length xs → get_or (padded xs) place [] ≡ get_or xs place []
unfolding padded
leaf_padded xs place inside = get_or-append xs (map empty_leaf (padding xs)) [] place inside

pub chain_leads : (xs : List (List ℕ)) (place : ℕ) → place < length xs → Leads (root xs) place (get_or xs place []) (chain xs place)
unfolding Leads root chain
chain_leads xs place inside =
    let h = height (length xs) in (
      subst (λ n. place < 2 ^ n) (sym (length-tree_chain h (padded xs) place)) (inside_tree xs place inside),
      ap (λ leaf. led_to place leaf (tree_chain h (padded xs) place)) (sym (leaf_padded xs place inside)) ∙ tree_chain_leads h (padded xs) place (inside_tree xs place inside),
    )

pub chain_uses : (xs : List (List ℕ)) (place : ℕ) → place < length xs → Includes (root_uses xs) (leads_uses place (get_or xs place []) (chain xs place))
unfolding root_uses chain
chain_uses xs place inside one among =
    let h = height (length xs) in
    Contains-append_right (map empty_leaf_use (padding xs)) (tree_uses h (padded xs)) one
    (tree_chain_uses h (padded xs) place (inside_tree xs place inside) one
    (subst (λ leaf. Contains (leads_uses place leaf (tree_chain h (padded xs) place)) one) (sym (leaf_padded xs place inside)) among))
