-- Members of lists, and nodes that do not collide.
use Rattle.std.proofs.Common.{◌≡◌, ◌⊎◌, inl, inr, ℕ, zero, suc, List, [], ◌∷◌, refl, arith, ⊎_elim}
use Rattle.std.specs.Prelude.{Contains}
use Rattle.std.proofs.lemmas.List.Elements.{Contains-append_right}
use Rattle.tag_hash.specs.Use.{Use}
use Rattle.tag_hash.specs.Collisions.{NoCollision}
use Rattle.tag_hash.proofs.HashLemmas.{pair_parts}
use Rattle.merkle.specs.Node.{node, node_use, node_tag}

pub Contains-here : {X : Type 0} (x : X) (xs : List X) → Contains (x ∷ xs) x
Contains-here x xs = (0, grind arith, refl)

pub Contains-there : {X : Type 0} (y : X) (xs : List X) (x : X) → Contains xs x → Contains (y ∷ xs) x
Contains-there y xs x there = Contains-append_right (y ∷ []) xs x there

pub Contains-cons_cases : {X : Type 0} (y : X) (xs : List X) (x : X) → Contains (y ∷ xs) x → Contains xs x ⊎ (y ≡ x)
Contains-cons_cases y xs x (zero, below, is) = inr is
Contains-cons_cases y xs x (suc k, below, is) = inl (k, grind arith, is)

Contains-nothing : {X : Type 0} {P : Type 0} {x : X} → Contains [] x → P
Contains-nothing (k, below, is) = absurd (grind arith)

pub Contains-one : {X : Type 0} (y x : X) → Contains (y ∷ []) x → y ≡ x
Contains-one y x among = ⊎_elim (λ more. Contains-nothing more) (λ same. same) (Contains-cons_cases y [] x among)

-- a node fixes what it is over
pub node_parts : (uses : List Use) (a b c d : List ℕ) → NoCollision uses → Contains uses (node_use a b) → Contains uses (node_use c d) → node a b ≡ node c d → (a ≡ c) × (b ≡ d)
unfolding node node_use
node_parts uses a b c d apart here there e = let parts = pair_parts uses node_tag node_tag a c b d apart here there e in (parts.1, parts.2)
