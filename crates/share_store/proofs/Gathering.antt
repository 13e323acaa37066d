-- The shares under a storage index, one after the other.
use Rattle.std.proofs.Common.{◌≡◌, ◌⊎◌, inl, inr, ◌<◌, ◌≤◌, ◌+◌, ℕ, zero, suc, Bool, true, false, cond, ◌&&◌, List, [], ◌∷◌, ◌++◌, map, take, Some, slice_get, nat_eq, refl, sym, ap, subst, ◌∙◌, arith}
use Rattle.std.proofs.lemmas.Bool.{eqb-true}
use Rattle.std.specs.Cmp.Lexicographic.{pointwise}
use Rattle.std.specs.FinMap.{get, entries}
use Rattle.share_store.specs.Shares.{Shares, ShareEntry}
use Rattle.share_store.specs.Numbers.{of_index}
use Rattle.share_store.proofs.Nth.{found_at}

left : (a b : Bool) → a && b ≡ true → a ≡ true
left true b h = refl
left false b h = h

right : (a b : Bool) → a && b ≡ true → b ≡ true
right true b h = h
right false b h = cc

-- bytes that pass the test are the same
pub same_bytes : (xs ys : List ℕ) → pointwise nat_eq xs ys ≡ true → xs ≡ ys
same_bytes [] [] h = refl
same_bytes [] (y ∷ ys) h = cc
same_bytes (x ∷ xs) [] h = cc
same_bytes (x ∷ xs) (y ∷ ys) h = λ i. eqb-true x y (left _ _ h) i ∷ same_bytes xs ys (right (nat_eq x y) _ h) i

-- a share of one index is one of the store, under that index
record IsOfIndex (index : List ℕ) (es : List ShareEntry) (e : ShareEntry) : Type 0 where
  pub place : ℕ
  pub at : slice_get es place ≡ Some e
  pub under : e.0.0 ≡ index

of_index_at : (index : List ℕ) (es : List ShareEntry) (i : ℕ) (e : ShareEntry) → slice_get (of_index index es) i ≡ Some e → IsOfIndex index es e
of_index_at index [] i e at = cc
of_index_at index (x ∷ es) i e at = by_case (pointwise nat_eq x.0.0 index) refl i at (λ k there. let h = of_index_at index es k e there in record { place = suc h.place; at = h.at; under = h.under })
  where
    by_case : (b : Bool) → pointwise nat_eq x.0.0 index ≡ b → (i : ℕ) → slice_get (cond b (x ∷ of_index index es) (of_index index es)) i ≡ Some e → ((k : ℕ) → slice_get (of_index index es) k ≡ Some e → IsOfIndex index (x ∷ es) e) → IsOfIndex index (x ∷ es) e
    by_case true is zero h more = let same : x ≡ e = cc in record { place = 0; at = ap Some same; under = ap (λ (y : ShareEntry). y.0.0) (sym same) ∙ same_bytes x.0.0 index is }
    by_case true is (suc i) h more = more i h
    by_case false is i h more = more i h

-- a share with its number
abbrev pub numbered : ShareEntry → ℕ × List ℕ
numbered e = (e.0.1, e.1)

-- it stands there
pub stands_at : (shares : Shares) (index : List ℕ) (i : ℕ) (s : ℕ × List ℕ) → slice_get (map numbered (of_index index (entries shares))) i ≡ Some s → get shares (index, s.0) ≡ Some s.1
stands_at shares index i s at = by_entry (of_index index (entries shares)) i at (λ k e there.
    let of_it = of_index_at index (entries shares) k e there in
    subst (λ (j : List ℕ). get shares (j, e.0.1) ≡ Some e.1) of_it.under (found_at shares of_it.place e.0 e.1 of_it.at))
  where
    by_entry : (es : List ShareEntry) (i : ℕ) → slice_get (map numbered es) i ≡ Some s → ((k : ℕ) (e : ShareEntry) → slice_get es k ≡ Some e → get shares (index, e.0.1) ≡ Some e.1) → get shares (index, s.0) ≡ Some s.1
    by_entry [] i none stands = cc
    by_entry (x ∷ es) zero is stands = let same : numbered x ≡ s = cc in subst (λ (t : ℕ × List ℕ). get shares (index, t.0) ≡ Some t.1) same (stands 0 x refl)
    by_entry (x ∷ es) (suc i) is stands = by_entry es i is (λ k e there. stands (suc k) e there)

-- one more share was looked at
pub one_more : (ss : List (ℕ × List ℕ)) (i : ℕ) (s : ℕ × List ℕ) → slice_get ss i ≡ Some s → take (i + 1) ss ≡ take i ss ++ s ∷ []
one_more [] i s at = cc
one_more (x ∷ ss) zero s at = let same : x ≡ s = cc in ap (λ (t : ℕ × List ℕ). t ∷ []) same
one_more (x ∷ ss) (suc i) s at = let e : suc i + 1 ≡ suc (i + 1) = omega arith in ap (λ n. take n (x ∷ ss)) e ∙ ap (λ (l : List (ℕ × List ℕ)). x ∷ l) (one_more ss i s at)

-- the share of a number
pub share_of_number : (ss : List (ℕ × List ℕ)) (i n : ℕ) → slice_get (map (λ (s : ℕ × List ℕ). s.0) ss) i ≡ Some n → (s : ℕ × List ℕ) × (slice_get ss i ≡ Some s) × (s.0 ≡ n)
share_of_number [] i n at = cc
share_of_number (x ∷ ss) zero n at = (x, refl, cc)
share_of_number (x ∷ ss) (suc i) n at = share_of_number ss i n at

-- a count that doesn't fall stays or rises
pub by_calm : (a b : ℕ) → a ≤ b → (a < b → ⊥) → b ≡ a
by_calm a b le never = grind arith

pub by_rise : (a b : ℕ) → a ≤ b → (b ≡ a → ⊥) → a < b
by_rise a b le never = grind arith

pub rises_or_stays : (a b : ℕ) → a ≤ b → (Q : Type 0) → (a < b → Q) → (b ≡ a → Q) → Q
rises_or_stays a b le Q rose calm = by_case (grind arith)
  where
    by_case : (b ≡ a) ⊎ (a < b) → Q
    by_case (inl e) = calm e
    by_case (inr lt) = rose lt
