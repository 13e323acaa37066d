-- Where no two of a tree's uses collide, its root fixes its leaves, and a chain that leads to it is one alone.
use Rattle.std.proofs.Common.{◌≡◌, ℕ, zero, suc, ◌+◌, ◌/◌, ◌%◌, ◌^◌, ◌<◌, List, [], ◌∷◌, ◌++◌, length, take, drop, map, get_or, Bool, true, false, refl, sym, ap, subst, ◌∙◌, arith, length-take, length-drop}
use Rattle.std.specs.Prelude.{◌==◌, if◌then◌else◌, Contains}
use Rattle.std.proofs.lemmas.List.{take-append-drop}
use Rattle.std.proofs.lemmas.List.Elements.{Contains-append_left, Contains-append_right}
use Rattle.tag_hash.specs.Use.{Use}
use Rattle.tag_hash.specs.Collisions.{NoCollision, Includes}
use Rattle.merkle.specs.Height.{height}
use Rattle.merkle.specs.Node.{node, node_use, empty_leaf, empty_leaf_use}
use Rattle.merkle.specs.Tree.{root, root_uses, padded, padding, tree_root, tree_uses}
use Rattle.merkle.specs.Chain.{chain}
use Rattle.merkle.specs.Leads.{Leads, led_to, leads_uses, parent, parent_use}
use Rattle.merkle.proofs.Levels.{double}
use Rattle.merkle.proofs.Members.{node_parts, Contains-here, Contains-there}
use Rattle.merkle.proofs.FilledLemmas.{length-padded}
use Rattle.merkle.proofs.Chained.{length-chain, chain_leads, chain_uses}

-- a front of one length is one front
same_front : (a b c d : List (List ℕ)) → length a ≡ length c → a ++ b ≡ c ++ d → a ≡ c
same_front [] b [] d long e = refl
same_front [] b (y ∷ c) d long e = absurd (omega (arith, long))
same_front (x ∷ a) b [] d long e = absurd (omega (arith, long))
same_front (x ∷ a) b (y ∷ c) d long e =
    let one : x ≡ y = ap (λ l. get_or l 0 []) e in
    let more = same_front a b c d (omega (arith, long)) (ap (λ l. drop 1 l) e) in
    (λ i. one i ∷ more i)

length-half : (n : ℕ) (xs : List (List ℕ)) → length xs ≡ n + n → length (take n xs) ≡ n
length-half n xs e = let h = length-take n xs in omega arith

length-rest : (n : ℕ) (xs : List (List ℕ)) → length xs ≡ n + n → length (drop n xs) ≡ n
length-rest n xs e = let h = length-drop n xs in omega arith

single : (xs ys : List (List ℕ)) → length xs ≡ 1 → length ys ≡ 1 → get_or xs 0 [] ≡ get_or ys 0 [] → xs ≡ ys
single [] ys long other e = absurd (omega arith)
single (x ∷ []) [] long other e = absurd (omega arith)
single (x ∷ []) (y ∷ []) long other e = ap (λ z. z ∷ []) e
single (x ∷ []) (y ∷ z ∷ ys) long other e = absurd (omega arith)
single (x ∷ w ∷ xs) ys long other e = absurd (omega arith)

module _ (uses : List Use) (apart : NoCollision uses) where
  tree_root_injective : (h : ℕ) (xs ys : List (List ℕ)) → length xs ≡ 2 ^ h → length ys ≡ 2 ^ h → Includes uses (tree_uses h xs) → Includes uses (tree_uses h ys) → tree_root h xs ≡ tree_root h ys → xs ≡ ys
  tree_root_injective zero xs ys long other mine theirs e = single xs ys long other e
  tree_root_injective (suc h) xs ys long other mine theirs e =
      let half = 2 ^ h in
      let twice : 2 ^ suc h ≡ half + half = double h in
      let here = tree_uses h (take half xs) in
      let there = tree_uses h (take half ys) in
      let halves = node_parts uses (tree_root h (take half xs)) (tree_root h (drop half xs)) (tree_root h (take half ys)) (tree_root h (drop half ys)) apart
      (mine _ (Contains-here (node_use (tree_root h (take half xs)) (tree_root h (drop half xs))) (here ++ tree_uses h (drop half xs))))
      (theirs _ (Contains-here (node_use (tree_root h (take half ys)) (tree_root h (drop half ys))) (there ++ tree_uses h (drop half ys)))) e in
      let front : take half xs ≡ take half ys =
      tree_root_injective h (take half xs) (take half ys) (length-half half xs (long ∙ twice)) (length-half half ys (other ∙ twice))
      (λ u among. mine u (Contains-there _ (here ++ tree_uses h (drop half xs)) u (Contains-append_left here (tree_uses h (drop half xs)) u among)))
      (λ u among. theirs u (Contains-there _ (there ++ tree_uses h (drop half ys)) u (Contains-append_left there (tree_uses h (drop half ys)) u among))) halves.0 in
      let back : drop half xs ≡ drop half ys =
      tree_root_injective h (drop half xs) (drop half ys) (length-rest half xs (long ∙ twice)) (length-rest half ys (other ∙ twice))
      (λ u among. mine u (Contains-there _ (here ++ tree_uses h (drop half xs)) u (Contains-append_right here (tree_uses h (drop half xs)) u among)))
      (λ u among. theirs u (Contains-there _ (there ++ tree_uses h (drop half ys)) u (Contains-append_right there (tree_uses h (drop half ys)) u among))) halves.1 in
      sym (take-append-drop half xs) ∙ (λ i. front i ++ back i) ∙ take-append-drop half ys

  one_side : (left : Bool) (x c y d : List ℕ) → Contains uses (if left then node_use x c else node_use c x) → Contains uses (if left then node_use y d else node_use d y) → (if left then node x c else node c x) ≡ (if left then node y d else node d y) → (x ≡ y) × (c ≡ d)
  one_side true x c y d here there e = node_parts uses x c y d apart here there e
  one_side false x c y d here there e = let h = node_parts uses c x d y apart here there e in (h.1, h.0)

  -- two leaves at one place that lead to one hash by chains of one length
  led_to_injective : (place : ℕ) (x y : List ℕ) (cs ds : List (List ℕ)) → length cs ≡ length ds → Includes uses (leads_uses place x cs) → Includes uses (leads_uses place y ds) → led_to place x cs ≡ led_to place y ds → (x ≡ y) × (cs ≡ ds)
  led_to_injective place x y [] [] long mine theirs e = (e, refl)
  led_to_injective place x y [] (d ∷ ds) long mine theirs e = absurd (omega arith)
  led_to_injective place x y (c ∷ cs) [] long mine theirs e = absurd (omega arith)
  led_to_injective place x y (c ∷ cs) (d ∷ ds) long mine theirs e =
      let above = led_to_injective (place / 2) (parent place x c) (parent place y d) cs ds (omega arith)
      (λ u among. mine u (Contains-there (parent_use place x c) (leads_uses (place / 2) (parent place x c) cs) u among))
      (λ u among. theirs u (Contains-there (parent_use place y d) (leads_uses (place / 2) (parent place y d) ds) u among)) e in
      let both = one_side (place % 2 == 0) x c y d
      (mine (parent_use place x c) (Contains-here (parent_use place x c) (leads_uses (place / 2) (parent place x c) cs)))
      (theirs (parent_use place y d) (Contains-here (parent_use place y d) (leads_uses (place / 2) (parent place y d) ds))) above.0 in
      (both.0, λ i. both.1 i ∷ above.1 i)

node_uses_of : (uses : List Use) (xs : List (List ℕ)) → Includes uses (root_uses xs) → Includes uses (tree_uses (height (length xs)) (padded xs))
unfolding root_uses
node_uses_of uses xs among one here = among one (Contains-append_right (map empty_leaf_use (padding xs)) (tree_uses (height (length xs)) (padded xs)) one here)

same_height : (xs ys : List (List ℕ)) → length xs ≡ length ys → height (length xs) ≡ height (length ys)
same_height xs ys long = ap height long

padded_injective : (xs ys : List (List ℕ)) → length xs ≡ length ys → padded xs ≡ padded ys → xs ≡ ys
unfolding padded
padded_injective xs ys long e = same_front xs (map empty_leaf (padding xs)) ys (map empty_leaf (padding ys)) long e

pub root_injective : (uses : List Use) (xs ys : List (List ℕ)) → NoCollision uses → Includes uses (root_uses xs) → Includes uses (root_uses ys) → length xs ≡ length ys → root xs ≡ root ys → xs ≡ ys
unfolding root
root_injective uses xs ys apart mine theirs long e =
    let same : height (length ys) ≡ height (length xs) = ap height (sym long) in
    padded_injective xs ys long
    (tree_root_injective uses apart (height (length xs)) (padded xs) (padded ys)
    (length-padded xs) (length-padded ys ∙ ap (λ h. 2 ^ h) same)
    (node_uses_of uses xs mine)
    (subst (λ h. Includes uses (tree_uses h (padded ys))) same (node_uses_of uses ys theirs))
    (e ∙ ap (λ h. tree_root h (padded ys)) same))

pub chain_unique : (uses : List Use) (xs : List (List ℕ)) (place : ℕ) (leaf : List ℕ) (hashes : List (List ℕ)) → NoCollision uses → Includes uses (root_uses xs) → Includes uses (leads_uses place leaf hashes)
    → place < length xs → length hashes ≡ height (length xs) → Leads (root xs) place leaf hashes → (leaf ≡ get_or xs place []) × (hashes ≡ chain xs place)
unfolding Leads
chain_unique uses xs place leaf hashes apart mine theirs inside long leads =
    led_to_injective uses apart place leaf (get_or xs place []) hashes (chain xs place) (long ∙ sym (length-chain xs place)) theirs
    (λ one among. mine one (chain_uses xs place inside one among))
    (leads.1 ∙ sym (chain_leads xs place inside).1)
