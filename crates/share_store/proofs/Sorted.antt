-- Lists of entries in the order of their keys.
use Rattle.std.proofs.Common.{◌≡◌, ℕ, zero, suc, Bool, true, false, cond, ◌&&◌, List, [], ◌∷◌, Some, None, slice_get, refl, sym, ap, subst, ◌∙◌}
use Rattle.std.specs.declared.cmp.Ordering.{Ordering}
use Rattle.std.specs.declared.cmp.Ordering.TheVariants.{Less, Equal, Greater}
use Rattle.std.specs.Ordering.{is_lt, is_eq, eq_by_cmp, ordering_reverse}
use Rattle.std.specs.Cmp.{IsTotalOrder, tied_itself}
use Rattle.std.specs.FinMap.{find, is_sorted}
use Rattle.std.specs.FinMap.Entries.{below_all}

left : (a b : Bool) → a && b ≡ true → a ≡ true
left true b h = refl
left false b h = h

right : (a b : Bool) → a && b ≡ true → b ≡ true
right true b h = h
right false b h = cc

pub both : (a b : Bool) → a ≡ true → b ≡ true → a && b ≡ true
both a b p q = rw p q

less : (r : Ordering) → is_lt r ≡ true → r ≡ Less
less Less h = refl
less Equal h = cc
less Greater h = cc

pub equal : (r : Ordering) → is_eq r ≡ true → r ≡ Equal
equal Less h = cc
equal Equal h = refl
equal Greater h = cc

module _ {K X : Type 0} {R : K → K → Ordering} (o : IsTotalOrder R) where
  -- a key below all is below each
  below_at : (x : K) (es : List (K × X)) → below_all R x es ≡ true → (i : ℕ) (e : K × X) → slice_get es i ≡ Some e → R x e.0 ≡ Less
  below_at x [] h i e at = cc
  below_at x (f ∷ es) h zero e at = let same : f ≡ e = cc in subst (λ (y : K × X). R x y.0 ≡ Less) same (less _ (left _ _ h))
  below_at x (f ∷ es) h (suc i) e at = below_at x es (right (is_lt (R x f.0)) _ h) i e at

  -- a key below each, or one that ties with such a key, isn't found
  pub find_below : (x q : K) (es : List (K × X)) → eq_by_cmp R q x ≡ true → below_all R x es ≡ true → find R q es ≡ None
  find_below x q [] t h = refl
  find_below x q (e ∷ es) t h =
      let is : R q e.0 ≡ Less = o.congr q x e.0 (equal _ t) ∙ less _ (left _ _ h) in
      ap (λ r. cond (is_eq r) (Some e.1) (find R q es)) is ∙ find_below x q es t (right (is_lt (R x e.0)) _ h)

  -- a key is found where it stands
  pub find_at : (es : List (K × X)) (k : K) (v : X) (i : ℕ) → slice_get es i ≡ Some (k, v) → is_sorted R es ≡ true → find R k es ≡ Some v
  find_at [] k v i at h = cc
  find_at (e ∷ es) k v zero at h =
      let same : e ≡ (k, v) = cc in
      subst (λ (f : K × X). find R k (f ∷ es) ≡ Some v) (sym same) (ap (λ r. cond (is_eq r) (Some v) (find R k es)) (tied_itself o k))
  find_at (e ∷ es) k v (suc i) at h =
      let here : R k e.0 ≡ Greater = o.antisymm k e.0 ∙ ap ordering_reverse (below_at e.0 es (left _ _ h) i (k, v) at) in
      ap (λ r. cond (is_eq r) (Some e.1) (find R k es)) here ∙ find_at es k v i at (right (below_all R e.0 es) _ h)
