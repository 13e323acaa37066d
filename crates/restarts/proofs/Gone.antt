-- What stands after shares were lost.
use Rattle.std.proofs.Common.{◌≡◌, ℕ, zero, suc, ◌<◌, ◌≤◌, Bool, true, false, cond, ◌&&◌, List, [], ◌∷◌, Option, Some, None, is_none, refl, sym, ap, subst, ◌∙◌, arith, inl, inr, eqb-true, eq-eqb}
use Rattle.std.specs.Prelude.{◌⊎◌, ◌==◌, nat_lt}
use Rattle.std.specs.List.{AllByRecursion}
use Rattle.std.specs.Ordering.{eq_by_cmp}
use Rattle.std.specs.Cmp.{eq_by_cmp_equiv}
use Rattle.std.proofs.lemmas.Bool.{and_parts, ltb-true, ltb-false}
use Rattle.std.proofs.lemmas.Map.Views.{tells_apart}
use Rattle.share_store.specs.Shares.{ShareKey, key_cmp}
use Rattle.share_store.specs.MapLaws.{key_cmp_total, key_cmp_exact}
use Rattle.grid.specs.Standing.{Standing}
use Rattle.grid.specs.Placement.{server_of}
use Rattle.grid.specs.Changes.{without}
use Rattle.restarts.specs.CutOff.{SharePlace}

-- without these shares
abbrev pub gone : List SharePlace → Standing → Standing
gone [] before = before
gone (p ∷ ps) before = gone ps (without p.0 p.1 before)

abbrev pub hits : SharePlace → ℕ → ShareKey → Bool
hits p s q = s == p.0 && eq_by_cmp key_cmp q p.1

pub hits_is : (p : SharePlace) (s : ℕ) (q : ShareKey) → hits p s q ≡ true → (s ≡ p.0) × (q ≡ p.1)
hits_is p s q h =
    let parts = and_parts (s == p.0) (eq_by_cmp key_cmp q p.1) h in
    (eqb-true s p.0 parts.0, tells_apart key_cmp_exact q p.1 parts.1)

pub hits_itself : (p : SharePlace) → hits p p.0 p.1 ≡ true
hits_itself p = ap (λ b. b && eq_by_cmp key_cmp p.1 p.1) (eq-eqb p.0 p.0 refl) ∙ (eq_by_cmp_equiv key_cmp_total).refl p.1

abbrev pub NoHit : List SharePlace → ℕ → ShareKey → Type 0
NoHit ps s q = AllByRecursion (λ p. hits p s q ≡ false) ps

abbrev pub SomeHit : List SharePlace → ℕ → ShareKey → Type 0
SomeHit [] s q = ⊥
SomeHit (p ∷ ps) s q = (hits p s q ≡ true) ⊎ SomeHit ps s q

pub not_hit : (ps : List SharePlace) (before : Standing) (s : ℕ) (q : ShareKey) → NoHit ps s q → gone ps before s q ≡ before s q
not_hit [] before s q none = refl
not_hit (p ∷ ps) before s q none = not_hit ps (without p.0 p.1 before) s q none.1 ∙ ap (λ b. cond b None (before s q)) none.0

stays_gone : (ps : List SharePlace) (before : Standing) (s : ℕ) (q : ShareKey) → before s q ≡ None → gone ps before s q ≡ None
stays_gone [] before s q is = is
stays_gone (p ∷ ps) before s q is = stays_gone ps (without p.0 p.1 before) s q (by_case (hits p s q))
  where
    by_case : (b : Bool) → cond b None (before s q) ≡ None
    by_case true = refl
    by_case false = is

pub hit : (ps : List SharePlace) (before : Standing) (s : ℕ) (q : ShareKey) → SomeHit ps s q → gone ps before s q ≡ None
hit [] before s q some = absurd some
hit (p ∷ ps) before s q (inl here) = stays_gone ps (without p.0 p.1 before) s q (ap (λ b. cond b None (before s q)) here)
hit (p ∷ ps) before s q (inr later) = hit ps (without p.0 p.1 before) s q later

-- ---- the shares of one upload that don't stand

module _ (servers : ℕ) (index : List ℕ) (c : Standing) where
  abbrev pub place_of : ℕ → SharePlace
  place_of i = (server_of servers index i, (index, i))

  abbrev pub stands_none : ℕ → Bool
  stands_none i = is_none (c (server_of servers index i) (index, i))

  abbrev pub cut : ℕ → List SharePlace
  cut zero = []
  cut (suc i) = cond (stands_none i) (place_of i ∷ cut i) (cut i)

  none_is : (i : ℕ) → stands_none i ≡ true → c (server_of servers index i) (index, i) ≡ None
  none_is i is = by_case (c (server_of servers index i) (index, i)) is
    where
      by_case : (o : Option (List ℕ)) → is_none o ≡ true → o ≡ None
      by_case None e = refl
      by_case (Some b) e = cc

  -- each of them has a property
  all_cut : (P : SharePlace → Type 0) (n : ℕ) → ((i : ℕ) → i < n → c (server_of servers index i) (index, i) ≡ None → P (place_of i)) → AllByRecursion P (cut n)
  all_cut P zero each = tt
  all_cut P (suc i) each = by_case (stands_none i) refl (all_cut P i (λ j lt none. each j (omega arith) none))
    where
      by_case : (b : Bool) → stands_none i ≡ b → AllByRecursion P (cut i) → AllByRecursion P (cond b (place_of i ∷ cut i) (cut i))
      by_case true is rest = (each i (omega arith) (none_is i is), rest)
      by_case false is rest = rest

  pub cut_among : (P : SharePlace → Type 0) (n : ℕ) → ((i : ℕ) → i < n → c (server_of servers index i) (index, i) ≡ None → P (place_of i)) → AllByRecursion P (cut n)
  cut_among P n each = all_cut P n each

  pub cut_hits : (n i : ℕ) → i < n → c (server_of servers index i) (index, i) ≡ None → SomeHit (cut n) (server_of servers index i) (index, i)
  cut_hits zero i lt none = absurd (omega arith)
  cut_hits (suc m) i lt none = by_case (λ below. cut_hits m i below none) (stands_none m) refl
    where
      here : i ≡ m → hits (place_of m) (server_of servers index i) (index, i) ≡ true
      here is = subst (λ j. hits (place_of j) (server_of servers index i) (index, i) ≡ true) is (hits_itself (place_of i))

      last : (b : Bool) → nat_lt i m ≡ b → (i < m) ⊎ (i ≡ m)
      last true is = inl (ltb-true i m is)
      last false is = let far : m ≤ i = ltb-false i m is in inr (omega arith)

      by_case : (i < m → SomeHit (cut m) (server_of servers index i) (index, i)) → (b : Bool) → stands_none m ≡ b → SomeHit (cond b (place_of m ∷ cut m) (cut m)) (server_of servers index i) (index, i)
      by_case later true is = elim (last (nat_lt i m) refl) [ inl below ↦ inr (later below) | inr same ↦ inl (here same) ]
      by_case later false is = elim (last (nat_lt i m) refl) [
        | inl below ↦ later below
        | inr same ↦ let so : stands_none i ≡ true = ap is_none none in let not_so : stands_none i ≡ false = subst (λ j. stands_none j ≡ false) (sym same) is in cc
      ]
