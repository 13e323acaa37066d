-- How many bytes the shares of a store have after a change.
use Rattle.std.proofs.Common.{◌≡◌, ℕ, ◌+◌, Bool, true, false, cond, List, [], ◌∷◌, length, Option, Some, None, is_some, unwrap_or, refl, sym, ap, ◌∙◌, arith}
use Rattle.std.proofs.lemmas.List.Sums.{sum_by-cons}
use Rattle.std.proofs.lemmas.Map.Views.{tells_apart}
use Rattle.std.specs.Ordering.{eq_by_cmp, is_eq}
use Rattle.std.specs.Cmp.{eq_by_cmp_equiv}
use Rattle.std.specs.declared.cmp.Ordering.{Ordering}
use Rattle.std.specs.declared.cmp.Ordering.TheVariants.{Less, Equal, Greater}
use Rattle.std.specs.FinMap.{empty, len-entries, len-empty, find, get, entries, insert, remove, get-entries, entries-insert, get-insert, get-remove, same_map}
use Rattle.std.specs.FinMap.Entries.{put, by_order}
use Rattle.share_store.specs.Shares.{Shares, ShareKey, ShareEntry, bytes_in, bytes_of, key_cmp}
use Rattle.share_store.specs.Put.{put_once}
use Rattle.share_store.specs.Toggle.{toggled, bytes_at, has_byte, with_toggle}
use Rattle.share_store.specs.MapLaws.{key_cmp_total, key_cmp_exact}
use Rattle.share_store.proofs.Toggling.{length-toggled}

cons : (e : ShareEntry) (es : List ShareEntry) → bytes_in (e ∷ es) ≡ length e.1 + bytes_in es
cons e es = sum_by-cons (λ (f : ShareEntry). length f.1) e es

-- an entry of a new key adds its bytes
new_entry : (key : ShareKey) (bytes : List ℕ) (es : List ShareEntry) → find key_cmp key es ≡ None → bytes_in (put key_cmp key bytes es) ≡ bytes_in es + length bytes
new_entry key bytes [] none = omega (arith, cons (key, bytes) [])
new_entry key bytes (e ∷ es) none = by_case (key_cmp key e.0) none (new_entry key bytes es)
  where
    by_case : (o : Ordering) → cond (is_eq o) (Some e.1) (find key_cmp key es) ≡ None → (find key_cmp key es ≡ None → bytes_in (put key_cmp key bytes es) ≡ bytes_in es + length bytes)
        → bytes_in (by_order o ((key, bytes) ∷ e ∷ es) ((e.0, bytes) ∷ es) (e ∷ put key_cmp key bytes es)) ≡ bytes_in (e ∷ es) + length bytes
    by_case Less h more = omega (arith, cons (key, bytes) (e ∷ es))
    by_case Equal h more = cc
    by_case Greater h more = omega (arith, cons e (put key_cmp key bytes es), cons e es, more h)

-- a share that none stood for adds its bytes
pub inserted : (m : Shares) (key : ShareKey) (bytes : List ℕ) → get m key ≡ None → bytes_of (insert m key bytes) ≡ bytes_of m + length bytes
inserted m key bytes none = ap bytes_in (entries-insert key_cmp_total m key bytes) ∙ new_entry key bytes (entries m) (sym (get-entries m key) ∙ none)

pub bytes-put_once : (m : Shares) (key : ShareKey) (bytes : List ℕ) → bytes_of (put_once m key bytes) ≡ bytes_of m + (cond (is_some (get m key)) 0 (length bytes))
bytes-put_once m key bytes = by_case (get m key) refl
  where
    by_case : (o : Option (List ℕ)) → get m key ≡ o → bytes_of (cond (is_some o) m (insert m key bytes)) ≡ bytes_of m + (cond (is_some o) 0 (length bytes))
    by_case None is = inserted m key bytes is
    by_case (Some x) is = omega arith

module _ (m : Shares) (key : ShareKey) where
  none_left : get (remove m key) key ≡ None
  none_left = get-remove key_cmp_total m key key ∙ ap (λ b. cond b None (get m key)) ((eq_by_cmp_equiv key_cmp_total).refl key)

  -- put again after it was lost
  again : (bytes : List ℕ) → insert (remove m key) key bytes ≡ insert m key bytes
  again bytes = same_map key_cmp_total key_cmp_exact _ _ (λ q.
      get-insert key_cmp_total (remove m key) key bytes q
      ∙ ap (cond (eq_by_cmp key_cmp q key) (Some bytes)) (get-remove key_cmp_total m key q)
      ∙ twice (eq_by_cmp key_cmp q key) (Some bytes) (get m q)
      ∙ sym (get-insert key_cmp_total m key bytes q))
    where
      twice : (b : Bool) (x y : Option (List ℕ)) → cond b x (cond b None y) ≡ cond b x y
      twice true x y = refl
      twice false x y = refl

  pub bytes-remove : bytes_of (remove m key) + length (bytes_at m key) ≡ bytes_of m
  bytes-remove = by_case (get m key) refl
    where
      gone : (q : ShareKey) (b : Bool) → (b ≡ true → get m q ≡ None) → cond b None (get m q) ≡ get m q
      gone q true none = sym (none refl)
      gone q false none = refl

      kept : (q : ShareKey) (v : List ℕ) (b : Bool) → (b ≡ true → get m q ≡ Some v) → cond b (Some v) (get m q) ≡ get m q
      kept q v true some = sym (some refl)
      kept q v false some = refl

      by_case : (o : Option (List ℕ)) → get m key ≡ o → bytes_of (remove m key) + length (unwrap_or o []) ≡ bytes_of m
      by_case None is =
          let same : remove m key ≡ m = same_map key_cmp_total key_cmp_exact _ _ (λ q.
          get-remove key_cmp_total m key q ∙ gone q (eq_by_cmp key_cmp q key) (λ t. ap (get m) (tells_apart key_cmp_exact q key t) ∙ is)) in
          omega (arith, ap bytes_of same)
      by_case (Some v) is =
          let same : insert (remove m key) key v ≡ m = again v ∙ same_map key_cmp_total key_cmp_exact _ _ (λ q.
          get-insert key_cmp_total m key v q ∙ kept q v (eq_by_cmp key_cmp q key) (λ t. ap (get m) (tells_apart key_cmp_exact q key t) ∙ is)) in
          sym (inserted (remove m key) key v none_left) ∙ ap bytes_of same

  pub bytes-with_toggle : (place : ℕ) → bytes_of (with_toggle m key place) ≡ bytes_of m
  bytes-with_toggle place = by_case (has_byte m key place)
    where
      by_case : (b : Bool) → bytes_of (cond b (insert m key (toggled (bytes_at m key) place)) m) ≡ bytes_of m
      by_case false = refl
      by_case true =
          ap bytes_of (sym (again (toggled (bytes_at m key) place)))
          ∙ inserted (remove m key) key (toggled (bytes_at m key) place) none_left
          ∙ ap (λ n. bytes_of (remove m key) + n) (length-toggled (bytes_at m key) place)
          ∙ bytes-remove

pub bytes-empty : bytes_of empty ≡ 0
bytes-empty = ap bytes_in (nothing (entries {R = key_cmp} empty) (sym (len-entries empty) ∙ len-empty key_cmp (List ℕ)))
  where
    nothing : (es : List ShareEntry) → length es ≡ 0 → es ≡ []
    nothing [] e = refl
    nothing (x ∷ es) e = absurd (omega arith)

-- a share that stood for another of its length
pub replaced : (m n : Shares) (key : ShareKey) (v w : List ℕ) → get m key ≡ Some w → length v ≡ length w → n ≡ insert m key v → bytes_of n ≡ bytes_of m
replaced m n key v w found long is =
    let put : bytes_of n ≡ bytes_of (remove m key) + length v = ap bytes_of (is ∙ sym (again m key v)) ∙ inserted (remove m key) key v (none_left m key) in
    let left : bytes_of (remove m key) + length (bytes_at m key) ≡ bytes_of m = bytes-remove m key in
    let same : length (bytes_at m key) ≡ length w = ap (λ o. length (unwrap_or o [])) found in
    omega arith

-- what is left after a loss
pub left_after : (m n : Shares) (key : ShareKey) (o : Option (List ℕ)) → o ≡ get m key → n ≡ remove m key → bytes_of n + length (unwrap_or o []) ≡ bytes_of m
left_after m n key o found is = ap (λ l. bytes_of l + length (unwrap_or o [])) is ∙ ap (λ p. bytes_of (remove m key) + length (unwrap_or p [])) found ∙ bytes-remove m key
