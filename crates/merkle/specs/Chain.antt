-- The chain of a leaf: what stands beside its path to the root, from the leaf up.
use Rattle.std.specs.Prelude.{ℕ, zero, suc, ◌-◌, ◌^◌, List, [], ◌∷◌, ◌++◌, length, take, drop, nat_lt, if◌then◌else◌}
use Rattle.merkle.specs.Height.{height}
use Rattle.merkle.specs.Tree.{tree_root, padded}

-- among 2 ^ h leaves: the chain in the half where the leaf stands, then the root of the other half
abbrev pub tree_chain : ℕ → List (List ℕ) → ℕ → List (List ℕ)
tree_chain zero leaves place = []
tree_chain (suc h) leaves place =
    if nat_lt place (2 ^ h)
    then tree_chain h (take (2 ^ h) leaves) place ++ tree_root h (drop (2 ^ h) leaves) ∷ []
    else tree_chain h (drop (2 ^ h) leaves) (place - 2 ^ h) ++ tree_root h (take (2 ^ h) leaves) ∷ []

-- in the tree of any number of leaves
unfoldable pub chain : List (List ℕ) → ℕ → List (List ℕ)
chain leaves place = tree_chain (height (length leaves)) (padded leaves) place
