-- Paths from a leaf up, and the chains of a tree.
use Rattle.std.proofs.Common.{◌≡◌, ℕ, zero, suc, ◌+◌, ◌-◌, ◌/◌, ◌%◌, ◌^◌, ◌<◌, ◌≤◌, List, [], ◌∷◌, ◌++◌, length, take, drop, get_or, true, false, refl, sym, ap, subst, ◌∙◌, arith, length-append, ⊎_elim}
use Rattle.std.specs.Prelude.{nat_lt, ◌==◌, if◌then◌else◌, Contains}
use Rattle.std.proofs.Math.Nat.{div-div-eq-div-mul, pow-succ', div-eq_of_lt, div-one, div-eq_of_lt-le}
use Rattle.std.proofs.lemmas.List.{get_or-take, get_or-drop}
use Rattle.std.proofs.lemmas.List.Elements.{Contains-append_left, Contains-append_right, Contains-append_cases}
use Rattle.tag_hash.specs.Use.{Use}
use Rattle.merkle.specs.Node.{node, node_use}
use Rattle.merkle.specs.Tree.{tree_root, tree_uses}
use Rattle.merkle.specs.Chain.{tree_chain}
use Rattle.merkle.specs.Leads.{led_to, leads_uses, parent, parent_use}
use Rattle.merkle.proofs.Levels.{true_or_false, below_is, not_below_is, double}
use Rattle.merkle.proofs.Members.{Contains-here, Contains-there, Contains-one}

level_up : (place n : ℕ) → place / 2 / 2 ^ n ≡ place / 2 ^ suc n
level_up place n = div-div-eq-div-mul place 2 (2 ^ n) ∙ ap (λ m. place / m) (sym (pow-succ' 2 n))

-- the last of a chain stands on top
pub led_to-append : (place : ℕ) (leaf : List ℕ) (chain : List (List ℕ)) (last : List ℕ) → led_to place leaf (chain ++ last ∷ []) ≡ parent (place / 2 ^ length chain) (led_to place leaf chain) last
led_to-append place leaf [] last = ap (λ n. parent n leaf last) (sym (div-one place))
led_to-append place leaf (beside ∷ chain) last =
    led_to-append (place / 2) (parent place leaf beside) chain last
    ∙ ap (λ n. parent n (led_to (place / 2) (parent place leaf beside) chain) last) (level_up place (length chain))

pub leads_uses-append : (place : ℕ) (leaf : List ℕ) (chain : List (List ℕ)) (last : List ℕ) → leads_uses place leaf (chain ++ last ∷ []) ≡ leads_uses place leaf chain ++ parent_use (place / 2 ^ length chain) (led_to place leaf chain) last ∷ []
leads_uses-append place leaf [] last = ap (λ n. parent_use n leaf last ∷ []) (sym (div-one place))
leads_uses-append place leaf (beside ∷ chain) last =
    ap (λ t. parent_use place leaf beside ∷ t)
    (leads_uses-append (place / 2) (parent place leaf beside) chain last
    ∙ ap (λ n. leads_uses (place / 2) (parent place leaf beside) chain ++ parent_use n (led_to (place / 2) (parent place leaf beside) chain) last ∷ []) (level_up place (length chain)))

half_of : (n place : ℕ) → (2 ^ suc n + place) / 2 ≡ 2 ^ n + place / 2
half_of n place = let twice = double n in omega arith

side_of : (n place : ℕ) → (2 ^ suc n + place) % 2 ≡ place % 2
side_of n place = let twice = double n in omega arith

same_side : (n place : ℕ) (leaf beside : List ℕ) → parent (2 ^ suc n + place) leaf beside ≡ parent place leaf beside
same_side n place leaf beside = ap (λ m. if m == 0 then node leaf beside else node beside leaf) (side_of n place)

same_side_use : (n place : ℕ) (leaf beside : List ℕ) → parent_use (2 ^ suc n + place) leaf beside ≡ parent_use place leaf beside
same_side_use n place leaf beside = ap (λ m. if m == 0 then node_use leaf beside else node_use beside leaf) (side_of n place)

-- what a place has above the chain's height does not count
pub led_to-high : (place : ℕ) (leaf : List ℕ) (chain : List (List ℕ)) → led_to (2 ^ length chain + place) leaf chain ≡ led_to place leaf chain
led_to-high place leaf [] = refl
led_to-high place leaf (beside ∷ chain) =
    (λ i. led_to (half_of (length chain) place i) (same_side (length chain) place leaf beside i) chain)
    ∙ led_to-high (place / 2) (parent place leaf beside) chain

pub leads_uses-high : (place : ℕ) (leaf : List ℕ) (chain : List (List ℕ)) → leads_uses (2 ^ length chain + place) leaf chain ≡ leads_uses place leaf chain
leads_uses-high place leaf [] = refl
leads_uses-high place leaf (beside ∷ chain) =
    (λ i. same_side_use (length chain) place leaf beside i ∷ leads_uses (half_of (length chain) place i) (same_side (length chain) place leaf beside i) chain)
    ∙ ap (λ t. parent_use place leaf beside ∷ t) (leads_uses-high (place / 2) (parent place leaf beside) chain)

-- ---- the chain of a place

chain_left : (h : ℕ) (xs : List (List ℕ)) (place : ℕ) → nat_lt place (2 ^ h) ≡ true → tree_chain (suc h) xs place ≡ tree_chain h (take (2 ^ h) xs) place ++ tree_root h (drop (2 ^ h) xs) ∷ []
chain_left h xs place test = ap (λ b. if b then tree_chain h (take (2 ^ h) xs) place ++ tree_root h (drop (2 ^ h) xs) ∷ [] else tree_chain h (drop (2 ^ h) xs) (place - 2 ^ h) ++ tree_root h (take (2 ^ h) xs) ∷ []) test

chain_right : (h : ℕ) (xs : List (List ℕ)) (place : ℕ) → nat_lt place (2 ^ h) ≡ false → tree_chain (suc h) xs place ≡ tree_chain h (drop (2 ^ h) xs) (place - 2 ^ h) ++ tree_root h (take (2 ^ h) xs) ∷ []
chain_right h xs place test = ap (λ b. if b then tree_chain h (take (2 ^ h) xs) place ++ tree_root h (drop (2 ^ h) xs) ∷ [] else tree_chain h (drop (2 ^ h) xs) (place - 2 ^ h) ++ tree_root h (take (2 ^ h) xs) ∷ []) test

pub length-tree_chain : (h : ℕ) (xs : List (List ℕ)) (place : ℕ) → length (tree_chain h xs place) ≡ h
length-tree_chain zero xs place = refl
length-tree_chain (suc h) xs place = true_or_false (nat_lt place (2 ^ h)) _
    (λ test. ap length (chain_left h xs place test) ∙ omega (arith, length-append (tree_chain h (take (2 ^ h) xs) place) (tree_root h (drop (2 ^ h) xs) ∷ []), length-tree_chain h (take (2 ^ h) xs) place))
    (λ test. ap length (chain_right h xs place test) ∙ omega (arith, length-append (tree_chain h (drop (2 ^ h) xs) (place - 2 ^ h)) (tree_root h (take (2 ^ h) xs) ∷ []), length-tree_chain h (drop (2 ^ h) xs) (place - 2 ^ h)))

-- the place of a leaf of the right half, and its side
right_place : (h place : ℕ) → 2 ^ h ≤ place → place ≡ 2 ^ h + (place - 2 ^ h)
right_place h place past = omega arith

right_side : (h place : ℕ) → 2 ^ h ≤ place → place < 2 ^ suc h → place / 2 ^ h ≡ 1
right_side h place past inside = let twice = double h in div-eq_of_lt-le (2 ^ h) (omega arith) (omega arith)

leaf_left : (h : ℕ) (xs : List (List ℕ)) (place : ℕ) → place < 2 ^ h → get_or (take (2 ^ h) xs) place [] ≡ get_or xs place []
leaf_left h xs place inside = get_or-take (2 ^ h) xs place [] inside

leaf_right : (h : ℕ) (xs : List (List ℕ)) (place : ℕ) → 2 ^ h ≤ place → get_or (drop (2 ^ h) xs) (place - 2 ^ h) [] ≡ get_or xs place []
leaf_right h xs place past = get_or-drop (2 ^ h) xs (place - 2 ^ h) [] ∙ ap (λ n. get_or xs n []) (sym (right_place h place past))

-- one level: where the leaf leads in its half, and the root of the other half beside that
module _ (h : ℕ) (xs : List (List ℕ)) (place : ℕ) where
  path_left : nat_lt place (2 ^ h) ≡ true → led_to place (get_or xs place []) (tree_chain (suc h) xs place) ≡ node (led_to place (get_or (take (2 ^ h) xs) place []) (tree_chain h (take (2 ^ h) xs) place)) (tree_root h (drop (2 ^ h) xs))
  path_left test =
      let chain = tree_chain h (take (2 ^ h) xs) place in
      let inside = below_is place (2 ^ h) test in
      let side : place / 2 ^ length chain ≡ 0 = ap (λ n. place / 2 ^ n) (length-tree_chain h (take (2 ^ h) xs) place) ∙ div-eq_of_lt inside in
      (λ i. led_to place (sym (leaf_left h xs place inside) i) (chain_left h xs place test i))
      ∙ led_to-append place (get_or (take (2 ^ h) xs) place []) chain (tree_root h (drop (2 ^ h) xs))
      ∙ ap (λ n. parent n (led_to place (get_or (take (2 ^ h) xs) place []) chain) (tree_root h (drop (2 ^ h) xs))) side

  uses_left : nat_lt place (2 ^ h) ≡ true → leads_uses place (get_or xs place []) (tree_chain (suc h) xs place) ≡ leads_uses place (get_or (take (2 ^ h) xs) place []) (tree_chain h (take (2 ^ h) xs) place) ++ node_use (led_to place (get_or (take (2 ^ h) xs) place []) (tree_chain h (take (2 ^ h) xs) place)) (tree_root h (drop (2 ^ h) xs)) ∷ []
  uses_left test =
      let chain = tree_chain h (take (2 ^ h) xs) place in
      let inside = below_is place (2 ^ h) test in
      let side : place / 2 ^ length chain ≡ 0 = ap (λ n. place / 2 ^ n) (length-tree_chain h (take (2 ^ h) xs) place) ∙ div-eq_of_lt inside in
      (λ i. leads_uses place (sym (leaf_left h xs place inside) i) (chain_left h xs place test i))
      ∙ leads_uses-append place (get_or (take (2 ^ h) xs) place []) chain (tree_root h (drop (2 ^ h) xs))
      ∙ ap (λ n. leads_uses place (get_or (take (2 ^ h) xs) place []) chain ++ parent_use n (led_to place (get_or (take (2 ^ h) xs) place []) chain) (tree_root h (drop (2 ^ h) xs)) ∷ []) side

  -- the place, in the right half
  high : 2 ^ h ≤ place → place ≡ 2 ^ length (tree_chain h (drop (2 ^ h) xs) (place - 2 ^ h)) + (place - 2 ^ h)
  high past = right_place h place past ∙ ap (λ n. 2 ^ n + (place - 2 ^ h)) (sym (length-tree_chain h (drop (2 ^ h) xs) (place - 2 ^ h)))

  led_right : 2 ^ h ≤ place → led_to place (get_or xs place []) (tree_chain h (drop (2 ^ h) xs) (place - 2 ^ h)) ≡ led_to (place - 2 ^ h) (get_or (drop (2 ^ h) xs) (place - 2 ^ h) []) (tree_chain h (drop (2 ^ h) xs) (place - 2 ^ h))
  led_right past =
      let chain = tree_chain h (drop (2 ^ h) xs) (place - 2 ^ h) in
      (λ i. led_to (high past i) (sym (leaf_right h xs place past) i) chain)
      ∙ led_to-high (place - 2 ^ h) (get_or (drop (2 ^ h) xs) (place - 2 ^ h) []) chain

  used_right : 2 ^ h ≤ place → leads_uses place (get_or xs place []) (tree_chain h (drop (2 ^ h) xs) (place - 2 ^ h)) ≡ leads_uses (place - 2 ^ h) (get_or (drop (2 ^ h) xs) (place - 2 ^ h) []) (tree_chain h (drop (2 ^ h) xs) (place - 2 ^ h))
  used_right past =
      let chain = tree_chain h (drop (2 ^ h) xs) (place - 2 ^ h) in
      (λ i. leads_uses (high past i) (sym (leaf_right h xs place past) i) chain)
      ∙ leads_uses-high (place - 2 ^ h) (get_or (drop (2 ^ h) xs) (place - 2 ^ h) []) chain

  path_right : place < 2 ^ suc h → nat_lt place (2 ^ h) ≡ false → led_to place (get_or xs place []) (tree_chain (suc h) xs place) ≡ node (tree_root h (take (2 ^ h) xs)) (led_to (place - 2 ^ h) (get_or (drop (2 ^ h) xs) (place - 2 ^ h) []) (tree_chain h (drop (2 ^ h) xs) (place - 2 ^ h)))
  path_right inside test =
      let chain = tree_chain h (drop (2 ^ h) xs) (place - 2 ^ h) in
      let past = not_below_is place (2 ^ h) test in
      let side : place / 2 ^ length chain ≡ 1 = ap (λ n. place / 2 ^ n) (length-tree_chain h (drop (2 ^ h) xs) (place - 2 ^ h)) ∙ right_side h place past inside in
      ap (led_to place (get_or xs place [])) (chain_right h xs place test)
      ∙ led_to-append place (get_or xs place []) chain (tree_root h (take (2 ^ h) xs))
      ∙ (λ i. parent (side i) (led_right past i) (tree_root h (take (2 ^ h) xs)))

  uses_right : place < 2 ^ suc h → nat_lt place (2 ^ h) ≡ false → leads_uses place (get_or xs place []) (tree_chain (suc h) xs place) ≡ leads_uses (place - 2 ^ h) (get_or (drop (2 ^ h) xs) (place - 2 ^ h) []) (tree_chain h (drop (2 ^ h) xs) (place - 2 ^ h)) ++ node_use (tree_root h (take (2 ^ h) xs)) (led_to (place - 2 ^ h) (get_or (drop (2 ^ h) xs) (place - 2 ^ h) []) (tree_chain h (drop (2 ^ h) xs) (place - 2 ^ h))) ∷ []
  uses_right inside test =
      let chain = tree_chain h (drop (2 ^ h) xs) (place - 2 ^ h) in
      let past = not_below_is place (2 ^ h) test in
      let side : place / 2 ^ length chain ≡ 1 = ap (λ n. place / 2 ^ n) (length-tree_chain h (drop (2 ^ h) xs) (place - 2 ^ h)) ∙ right_side h place past inside in
      ap (leads_uses place (get_or xs place [])) (chain_right h xs place test)
      ∙ leads_uses-append place (get_or xs place []) chain (tree_root h (take (2 ^ h) xs))
      ∙ (λ i. used_right past i ++ parent_use (side i) (led_right past i) (tree_root h (take (2 ^ h) xs)) ∷ [])

right_inside : (h place : ℕ) → place < 2 ^ suc h → 2 ^ h ≤ place → place - 2 ^ h < 2 ^ h
right_inside h place inside past = let twice = double h in omega arith

-- a leaf leads by its own chain to the root
pub tree_chain_leads : (h : ℕ) (xs : List (List ℕ)) (place : ℕ) → place < 2 ^ h → led_to place (get_or xs place []) (tree_chain h xs place) ≡ tree_root h xs
tree_chain_leads zero xs place inside = ap (λ n. get_or xs n []) (let none : place ≡ 0 = omega arith in none)
tree_chain_leads (suc h) xs place inside = true_or_false (nat_lt place (2 ^ h)) _
    (λ test. path_left h xs place test ∙ ap (λ l. node l (tree_root h (drop (2 ^ h) xs))) (tree_chain_leads h (take (2 ^ h) xs) place (below_is place (2 ^ h) test)))
    (λ test. path_right h xs place inside test ∙ ap (λ r. node (tree_root h (take (2 ^ h) xs)) r) (tree_chain_leads h (drop (2 ^ h) xs) (place - 2 ^ h) (right_inside h place inside (not_below_is place (2 ^ h) test))))

-- and what it hashes is hashed for the root
pub tree_chain_uses : (h : ℕ) (xs : List (List ℕ)) (place : ℕ) → place < 2 ^ h → (one : Use) → Contains (leads_uses place (get_or xs place []) (tree_chain h xs place)) one → Contains (tree_uses h xs) one
tree_chain_uses zero xs place inside one among = among
tree_chain_uses (suc h) xs place inside one among =
    let left = take (2 ^ h) xs in
    let right = drop (2 ^ h) xs in
    let top = node_use (tree_root h left) (tree_root h right) in
    true_or_false (nat_lt place (2 ^ h)) _
    (λ test.
    let here = below_is place (2 ^ h) test in
    let within = subst (λ t. Contains t one) (uses_left h xs place test) among in
    ⊎_elim
    (λ below. Contains-there top (tree_uses h left ++ tree_uses h right) one (Contains-append_left (tree_uses h left) (tree_uses h right) one (tree_chain_uses h left place here one below)))
    (λ above. subst (λ u. Contains (top ∷ (tree_uses h left ++ tree_uses h right)) u) (ap (λ l. node_use l (tree_root h right)) (sym (tree_chain_leads h left place here)) ∙ Contains-one _ one above) (Contains-here top (tree_uses h left ++ tree_uses h right)))
    (Contains-append_cases (leads_uses place (get_or left place []) (tree_chain h left place)) _ one within))
    (λ test.
    let there = right_inside h place inside (not_below_is place (2 ^ h) test) in
    let within = subst (λ t. Contains t one) (uses_right h xs place inside test) among in
    ⊎_elim
    (λ below. Contains-there top (tree_uses h left ++ tree_uses h right) one (Contains-append_right (tree_uses h left) (tree_uses h right) one (tree_chain_uses h right (place - 2 ^ h) there one below)))
    (λ above. subst (λ u. Contains (top ∷ (tree_uses h left ++ tree_uses h right)) u) (ap (λ r. node_use (tree_root h left) r) (sym (tree_chain_leads h right (place - 2 ^ h) there)) ∙ Contains-one _ one above) (Contains-here top (tree_uses h left ++ tree_uses h right)))
    (Contains-append_cases (leads_uses (place - 2 ^ h) (get_or right (place - 2 ^ h) []) (tree_chain h right (place - 2 ^ h))) _ one within))
