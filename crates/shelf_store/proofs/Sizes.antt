-- Shares that are as long as others, and changes of them.
use Rattle.std.proofs.Common.{◌≡◌, ℕ, zero, suc, Bool, true, false, cond, List, [], ◌∷◌, map, length, Option, Some, None, is_some, refl, sym, ap, ◌∙◌, nat_eq}
use Rattle.std.specs.Prelude.{slice_get, filter}
use Rattle.std.specs.Option.{option_map}
use Rattle.std.specs.Ordering.{eq_by_cmp}
use Rattle.std.specs.Cmp.Lexicographic.{pointwise}
use Rattle.std.specs.FinMap.{get, contains_key, entries, insert, remove, get-insert, get-remove}
use Rattle.std.proofs.lemmas.Map.Views.{tells_apart}
use Rattle.share_store.specs.Shares.{Shares, ShareKey, ShareEntry, key_cmp}
use Rattle.share_store.specs.Numbers.{of_index, numbers_for}
use Rattle.share_store.specs.MapLaws.{key_cmp_total, key_cmp_exact}
use Rattle.shelf_store.specs.Sizes.{sizes_in, sizes_of}
use Rattle.shelf_store.specs.SizeLaws.{Size, as_long, sizes_as}

-- ---- what else follows

pub is_some-map : {A B : Type 0} (f : A → B) (o : Option A) → is_some (option_map f o) ≡ is_some o
is_some-map f None = refl
is_some-map f (Some x) = refl

pub contains_as : (a b : Shares) → sizes_of a ≡ sizes_of b → (q : ShareKey) → contains_key a q ≡ contains_key b q
contains_as a b is q = sym (is_some-map length (get a q)) ∙ ap is_some (as_long a b is q) ∙ is_some-map length (get b q)

pub none_as : (a b : Shares) → sizes_of a ≡ sizes_of b → (q : ShareKey) → get a q ≡ None → get b q ≡ None
none_as a b is q none = by_case (get b q) (sym (as_long a b is q) ∙ ap (option_map length) none)
  where
    by_case : (o : Option (List ℕ)) → option_map length o ≡ None → o ≡ None
    by_case None long = refl
    by_case (Some x) long = cc

numbers_sized : List ℕ → List Size → List ℕ
numbers_sized index ss = map (λ (s : Size). s.0.1) (filter (λ (s : Size). pointwise nat_eq s.0.0 index) ss)

numbers-sizes : (index : List ℕ) (es : List ShareEntry) → map (λ (e : ShareEntry). e.0.1) (of_index index es) ≡ numbers_sized index (sizes_in es)
unfolding numbers_sized
numbers-sizes index [] = refl
numbers-sizes index (e ∷ es) = by_case (pointwise nat_eq e.0.0 index) (numbers-sizes index es)
  where
    by_case : (b : Bool) → map (λ (f : ShareEntry). f.0.1) (of_index index es) ≡ numbers_sized index (sizes_in es)
        → map (λ (f : ShareEntry). f.0.1) (cond b (e ∷ of_index index es) (of_index index es))
        ≡ map (λ (s : Size). s.0.1) (cond b ((e.0, length e.1) ∷ filter (λ (s : Size). pointwise nat_eq s.0.0 index) (sizes_in es)) (filter (λ (s : Size). pointwise nat_eq s.0.0 index) (sizes_in es)))
    by_case true rest = ap (λ l. e.0.1 ∷ l) rest
    by_case false rest = rest

pub numbers_as : (a b : Shares) → sizes_of a ≡ sizes_of b → (index : List ℕ) → numbers_for a index ≡ numbers_for b index
numbers_as a b is index = numbers-sizes index (entries a) ∙ ap (numbers_sized index) is ∙ sym (numbers-sizes index (entries b))

name-sizes : (es : List ShareEntry) (at : ℕ) → option_map (λ (e : ShareEntry). e.0) (slice_get es at) ≡ option_map (λ (s : Size). s.0) (slice_get (sizes_in es) at)
name-sizes [] at = refl
name-sizes (e ∷ es) zero = refl
name-sizes (e ∷ es) (suc at) = name-sizes es at

pub names_as : (a b : Shares) → sizes_of a ≡ sizes_of b → (at : ℕ) → option_map (λ (e : ShareEntry). e.0) (slice_get (entries a) at) ≡ option_map (λ (e : ShareEntry). e.0) (slice_get (entries b) at)
names_as a b is at = name-sizes (entries a) at ∙ ap (λ (l : List Size). option_map (λ (s : Size). s.0) (slice_get l at)) is ∙ sym (name-sizes (entries b) at)

-- ---- after a change

pub put_as : (a b : Shares) (key : ShareKey) (v w : List ℕ) → sizes_of a ≡ sizes_of b → length v ≡ length w → sizes_of (insert a key v) ≡ sizes_of (insert b key w)
put_as a b key v w is long = sizes_as (insert a key v) (insert b key w) (λ q.
    ap (option_map length) (get-insert key_cmp_total a key v q) ∙ by_case q (eq_by_cmp key_cmp q key) ∙ sym (ap (option_map length) (get-insert key_cmp_total b key w q)))
  where
    by_case : (q : ShareKey) (t : Bool) → option_map length (cond t (Some v) (get a q)) ≡ option_map length (cond t (Some w) (get b q))
    by_case q true = ap Some long
    by_case q false = as_long a b is q

pub lost_as : (a b : Shares) (key : ShareKey) → sizes_of a ≡ sizes_of b → sizes_of (remove a key) ≡ sizes_of (remove b key)
lost_as a b key is = sizes_as (remove a key) (remove b key) (λ q.
    ap (option_map length) (get-remove key_cmp_total a key q) ∙ by_case q (eq_by_cmp key_cmp q key) ∙ sym (ap (option_map length) (get-remove key_cmp_total b key q)))
  where
    by_case : (q : ShareKey) (t : Bool) → option_map length (cond t None (get a q)) ≡ option_map length (cond t None (get b q))
    by_case q true = refl
    by_case q false = as_long a b is q

-- other bytes, as many
pub changed_as : (m : Shares) (key : ShareKey) (v w : List ℕ) → get m key ≡ Some v → length w ≡ length v → sizes_of (insert m key w) ≡ sizes_of m
changed_as m key v w found long = sizes_as (insert m key w) m (λ q. ap (option_map length) (get-insert key_cmp_total m key w q) ∙ by_case q (eq_by_cmp key_cmp q key) refl)
  where
    by_case : (q : ShareKey) (t : Bool) → eq_by_cmp key_cmp q key ≡ t → option_map length (cond t (Some w) (get m q)) ≡ option_map length (get m q)
    by_case q true is = ap Some long ∙ sym (ap (option_map length) (ap (get m) (tells_apart key_cmp_exact q key is) ∙ found))
    by_case q false is = refl
