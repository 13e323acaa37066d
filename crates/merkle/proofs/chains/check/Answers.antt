use Rattle.std.proofs.Common.{◌≡◌, ℕ, suc, ◌+◌, ◌*◌, ◌/◌, ◌^◌, ◌<◌, ◌≤◌, ◌≢◌, List, [], length, drop, get_or, Bool, true, false, refl, sym, ap, subst, ◌∙◌, arith}
use Rattle.std.specs.Prelude.{nat_eq, IsTrue, ◌↔◌}
use Rattle.std.proofs.Math.Nat.{div-div-eq-div-mul, pow-suc, div-eq_of_lt, div-one, mod-add-div, mod-lt}
use Rattle.std.proofs.Math.Seq.{drop-cons}
use Rattle.std.proofs.lemmas.Bool.Decides.{nat_tests}
use Rattle.std.proofs.lemmas.List.{drop_all}
use Rattle.std.specs.Cmp.Lexicographic.{pointwise, same_text, other_text}
use Rattle.merkle.specs.Leads.{Leads, led_to, parent}
use Rattle.merkle.proofs.Levels.{pow_positive, true_or_false}
use Rattle.merkle.proofs.chains.check.Goals as goal

pub loop-beside-init : goal.loop-beside-init
loop-beside-init c = record { leads = refl; above = sym (div-one c.args.place) }

-- one step up
step_up : (rest i : ℕ) (hash above : List ℕ) (chain : List (List ℕ)) → i < length chain → above ≡ parent rest hash (get_or chain i []) → led_to rest hash (drop i chain) ≡ led_to (rest / 2) above (drop (i + 1) chain)
step_up rest i hash above chain inside is =
    let next : suc i ≡ i + 1 = omega arith in
    ap (led_to rest hash) (drop-cons chain i [] inside)
    ∙ (λ j. led_to (rest / 2) (sym is j) (drop (next j) chain))

halved : (place rest i : ℕ) → rest ≡ place / 2 ^ i → rest / 2 ≡ place / 2 ^ (i + 1)
halved place rest i is =
    ap (λ n. n / 2) is ∙ div-div-eq-div-mul place (2 ^ i) 2
    ∙ ap (λ n. place / n) (sym (pow-suc 2 i)) ∙ ap (λ n. place / 2 ^ n) (let e : suc i ≡ i + 1 = omega arith in e)

pub loop-beside-preserved : goal.loop-beside-preserved
loop-beside-preserved c = record {
  leads = c.loop-beside.invariant.leads ∙ step_up c.loop-beside.rest c.loop-beside.beside-index c.loop-beside.hash c.parent-hash.result c.args.chain.now c.loop-beside-test.true c.parent-hash.ensures;
  above = halved c.args.place c.loop-beside.rest c.loop-beside.beside-index c.loop-beside.invariant.above;
}

-- at the end of the chain
ended : (place rest i : ℕ) (leaf hash : List ℕ) (chain : List (List ℕ)) → length chain ≤ i → led_to place leaf chain ≡ led_to rest hash (drop i chain) → led_to place leaf chain ≡ hash
ended place rest i leaf hash chain past leads = leads ∙ ap (led_to rest hash) (drop_all i chain past)

in_tree : (place m : ℕ) → 0 < m → 0 ≡ place / m → place < m
in_tree place m some none = let parts = mod-add-div place m in let less = mod-lt place some in omega (arith, ap (λ n. m * n) none)

led_there : (root leaf hash : List ℕ) (place rest i : ℕ) (chain : List (List ℕ)) (b : Bool) → i ≡ length chain → led_to place leaf chain ≡ hash → rest ≡ place / 2 ^ i → rest ≡ 0 → b ≡ pointwise nat_eq hash root → IsTrue b ↔ Leads root place leaf chain
unfolding Leads
led_there root leaf hash place rest i chain b end leads above none test = (
  (λ yes. (subst (λ n. place < 2 ^ n) end (in_tree place (2 ^ i) (pow_positive i) (sym none ∙ above)), leads ∙ same_text hash root (sym yes ∙ test))),
  (λ there. true_or_false b _ (λ yes. yes) (λ other. absurd (other_text hash root (sym other ∙ test) (sym leads ∙ there.1)))),
)

led_away : (root leaf : List ℕ) (place rest i : ℕ) (chain : List (List ℕ)) (b : Bool) → i ≡ length chain → rest ≡ place / 2 ^ i → rest ≢ 0 → b ≡ false → IsTrue b ↔ Leads root place leaf chain
unfolding Leads
led_away root leaf place rest i chain b end above some test = (
  (λ yes. absurd (let wrong : true ≡ false = sym yes ∙ test in cc)),
  (λ there. absurd (some (above ∙ div-eq_of_lt (subst (λ n. place < 2 ^ n) (sym end) there.0)))),
)

pub returns-then-rest-eq0 : goal.returns-then-rest-eq0
returns-then-rest-eq0 c =
    let end : c.loop-beside.beside-index ≡ length c.args.chain.now = omega arith in
    led_there c.args.root.now c.args.leaf.now c.loop-beside.hash c.args.place c.loop-beside.rest c.loop-beside.beside-index c.args.chain.now c.eq.result end
    (ended c.args.place c.loop-beside.rest c.loop-beside.beside-index c.args.leaf.now c.loop-beside.hash c.args.chain.now c.loop-beside-test.false c.loop-beside.invariant.leads)
    c.loop-beside.invariant.above c.if-rest-eq0.true c.eq.ensures

pub returns-else-rest-eq0 : goal.returns-else-rest-eq0
returns-else-rest-eq0 c =
    let end : c.loop-beside.beside-index ≡ length c.args.chain.now = omega arith in
    led_away c.args.root.now c.args.leaf.now c.args.place c.loop-beside.rest c.loop-beside.beside-index c.args.chain.now (nat_eq c.loop-beside.rest 0) end
    c.loop-beside.invariant.above c.if-rest-eq0.false (unequal c.loop-beside.rest 0 c.if-rest-eq0.false)
  where
    unequal : (a b : ℕ) → a ≢ b → nat_eq a b ≡ false
    unequal a b other = grind (arith, nat_tests)
