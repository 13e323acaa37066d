-- Where a leaf leads by a chain, and the uses of the hash on the way.
use Rattle.std.specs.Prelude.{◌≡◌, ℕ, ◌/◌, ◌%◌, ◌^◌, ◌<◌, List, [], ◌∷◌, length, ◌==◌, if◌then◌else◌}
use Rattle.tag_hash.specs.Use.{Use}
use Rattle.merkle.specs.Node.{node, node_use}

-- the node over a hash at a place and the one beside it: at an even place the hash is the left one
abbrev pub parent : ℕ → List ℕ → List ℕ → List ℕ
parent place hash beside = if place % 2 == 0 then node hash beside else node beside hash

abbrev pub parent_use : ℕ → List ℕ → List ℕ → Use
parent_use place hash beside = if place % 2 == 0 then node_use hash beside else node_use beside hash

-- the hash that ends the path from a leaf at a place, with the chain's hashes beside it
abbrev pub led_to : ℕ → List ℕ → List (List ℕ) → List ℕ
led_to place leaf [] = leaf
led_to place leaf (beside ∷ chain) = led_to (place / 2) (parent place leaf beside) chain

abbrev pub leads_uses : ℕ → List ℕ → List (List ℕ) → List Use
leads_uses place leaf [] = []
leads_uses place leaf (beside ∷ chain) = parent_use place leaf beside ∷ leads_uses (place / 2) (parent place leaf beside) chain

-- in a tree as high as the chain is long the leaf stands at this place and leads to this root
unfoldable pub Leads : List ℕ → ℕ → List ℕ → List (List ℕ) → Type 0
Leads root place leaf chain = (place < 2 ^ length chain) × (led_to place leaf chain ≡ root)
