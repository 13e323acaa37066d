-- A cut at the first `-` is one at the place of the first `-`.
use Rattle.std.proofs.Common.{◌≡◌, ◌≢◌, ℕ, suc, ◌+◌, ◌==◌, nat_lt, true, false, cond, List, ◌∷◌, ◌++◌, length, take, drop, get_or, Option, Some, None, All, MatchOption, Bor, ap, sym, ◌∙◌, subst, arith}
use Rattle.std.specs.List.{position, position_or_len}
use Rattle.std.proofs.lemmas.Bool.{lt-ltb}
use Rattle.std.proofs.lemmas.Bool.Decides.{nat_tests}
use Rattle.std.proofs.lemmas.List.{get_or_append_left, length-append}
use Rattle.std.proofs.Math.Seq.{get_or-append_seam, take-append_seam, drop-append-add}
use Rattle.std.proofs.lemmas.List.Sums.{position_or_len_is}
use Rattle.octets.specs.Cut.{IsCutAt}

not_dash : (byte : ℕ) → byte ≢ 45 → (byte == 45) ≡ false
not_dash byte other = grind (arith, nat_tests)

no_dash : (set : List ℕ) → All (λ b. b ≢ 45) set → position (λ b. b == 45) set ≡ None
no_dash set all =
    let last : position_or_len (λ b. b == 45) set ≡ length set =
    position_or_len_is (λ b. b == 45) set (length set) 0 (omega arith) (λ k l. not_dash (get_or set k 0) (all k 0 l)) (λ l. absurd (omega arith)) in
    let past : nat_lt (length set) (length set) ≡ false = grind (arith, nat_tests) in
    ap (λ i. cond (nat_lt i (length set)) (Some i) None) last ∙ ap (λ b. cond b (Some (length set)) None) past

-- the place of the first `-` where the text is cut at it
abbrev DashAt : List ℕ → List ℕ → List ℕ → Type 0
DashAt set front back = (place : ℕ) × (position (λ b. b == 45) set ≡ Some place) × (front ≡ take place set) × (back ≡ drop (place + 1) set)

dash_joined : (front back : List ℕ) → All (λ b. b ≢ 45) front → DashAt (front ++ 45 ∷ back) front back
dash_joined front back before =
    let set = front ++ 45 ∷ back in
    let long : length set ≡ length front + suc (length back) = length-append front (45 ∷ back) in
    let place : position_or_len (λ b. b == 45) set ≡ length front =
    position_or_len_is (λ b. b == 45) set (length front) 0 (omega arith)
    (λ k l. ap (λ b. b == 45) (get_or_append_left front (45 ∷ back) 0 k l) ∙ not_dash (get_or front k 0) (before k 0 l))
    (λ l. ap (λ b. b == 45) (get_or-append_seam front 45 back 0)) in
    let within : nat_lt (length front) (length set) ≡ true = lt-ltb (length front) (length set) (omega arith) in (
      length front,
      ap (λ i. cond (nat_lt i (length set)) (Some i) None) place ∙ ap (λ b. cond b (Some (length front)) None) within,
      sym (take-append_seam front (45 ∷ back)),
      sym (drop-append-add front (45 ∷ back) 1),
    )

pub dash_cut : (set : List ℕ) (o : Option (Bor (List ℕ) × Bor (List ℕ))) → MatchOption o (All (λ b. b ≢ 45) set) (λ p. IsCutAt 45 set p.0.now p.1.now)
    → MatchOption o (position (λ b. b == 45) set ≡ None) (λ p. DashAt set p.0.now p.1.now)
dash_cut set None all = no_dash set all
dash_cut set (Some p) cut = subst (λ whole. DashAt whole p.0.now p.1.now) (sym cut.parts) (dash_joined p.0.now p.1.now cut.before)
