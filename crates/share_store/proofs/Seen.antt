-- A view of a store that others change, with one place seen anew.
use Rattle.std.proofs.Common.{◌≡◌, ◌⊎◌, inl, inr, ℕ, Bool, true, false, cond, ◌&&◌, List, [], ◌∷◌, ◌++◌, Option, Some, None, map, filter, refl, sym, ap, subst, ◌∙◌, T}
use Rattle.std.proofs.lemmas.List.{map-append}
use Rattle.std.proofs.lemmas.List.Elements.{filter-append}
use Rattle.std.proofs.lemmas.Map.Views.{tells_apart}
use Rattle.std.specs.Prelude.{nat_eq, nat_lt}
use Rattle.std.specs.Cmp.Lexicographic.{pointwise}
use Rattle.std.specs.declared.cmp.Ordering.{Ordering}
use Rattle.std.specs.declared.cmp.Ordering.TheVariants.{Less, Equal, Greater}
use Rattle.std.specs.Ordering.{is_lt, is_eq, eq_by_cmp}
use Rattle.std.specs.FinMap.{get, entries, entries_sorted, from_sorted, find, is_sorted, get-entries, get-from_sorted, entries-from_sorted}
use Rattle.std.specs.FinMap.Entries.{below_all}
use Rattle.share_store.specs.Shares.{Shares, ShareKey, ShareEntry, key_cmp}
use Rattle.share_store.specs.MapLaws.{key_cmp_total, key_cmp_exact, is_T}
use Rattle.share_store.specs.Numbers.{of_index}
use Rattle.share_store.specs.NumberedShares.{below_limit}
use Rattle.share_store.specs.History.{History}
use Rattle.share_store.specs.Shared.{StoodAmid, IsSeenAmid}
use Rattle.share_store.proofs.Gathering.{numbered, same_bytes}
use Rattle.share_store.proofs.Sorted.{both, equal, find_below}
use Rattle.share_store.proofs.Within.{within_none, within_append}

left : (a b : Bool) → a && b ≡ true → a ≡ true
left true b h = refl
left false b h = h

right : (a b : Bool) → a && b ≡ true → b ≡ true
right true b h = h
right false b h = cc

less : (r : Ordering) → is_lt r ≡ true → r ≡ Less
less Less h = refl
less Equal h = cc
less Greater h = cc

-- the entry of a key, if something stands there
abbrev pub entry_if : ShareKey → Option (List ℕ) → List ShareEntry
entry_if key None = []
entry_if key (Some bytes) = (key, bytes) ∷ []

-- ---- entries with another value, or none, at one key

module _ (key : ShareKey) (was : List ℕ) (now : Option (List ℕ)) (after : List ShareEntry) where
  below_change : (x : ShareKey) (before : List ShareEntry) → below_all key_cmp x (before ++ (key, was) ∷ after) ≡ true → below_all key_cmp x (before ++ (entry_if key now ++ after)) ≡ true
  below_change x [] h = by_case now
    where
      by_case : (o : Option (List ℕ)) → below_all key_cmp x (entry_if key o ++ after) ≡ true
      by_case None = right (is_lt (key_cmp x key)) _ h
      by_case (Some bytes) = h
  below_change x (e ∷ before) h = both _ _ (left _ _ h) (below_change x before (right (is_lt (key_cmp x e.0)) _ h))

  sorted_change : (before : List ShareEntry) → is_sorted key_cmp (before ++ (key, was) ∷ after) ≡ true → is_sorted key_cmp (before ++ (entry_if key now ++ after)) ≡ true
  sorted_change [] h = by_case now
    where
      by_case : (o : Option (List ℕ)) → is_sorted key_cmp (entry_if key o ++ after) ≡ true
      by_case None = right (below_all key_cmp key after) _ h
      by_case (Some bytes) = h
  sorted_change (e ∷ before) h = both _ _ (below_change e.0 before (left _ _ h)) (sorted_change before (right (below_all key_cmp e.0 (before ++ (key, was) ∷ after)) _ h))

  below_key : (x : ShareKey) (before : List ShareEntry) → below_all key_cmp x (before ++ (key, was) ∷ after) ≡ true → key_cmp x key ≡ Less
  below_key x [] h = less _ (left _ _ h)
  below_key x (e ∷ before) h = below_key x before (right (is_lt (key_cmp x e.0)) _ h)

  find_change : (q : ShareKey) (before : List ShareEntry) → is_sorted key_cmp (before ++ (key, was) ∷ after) ≡ true
      → find key_cmp q (before ++ (entry_if key now ++ after)) ≡ cond (eq_by_cmp key_cmp q key) now (find key_cmp q (before ++ (key, was) ∷ after))
  find_change q [] h = by_case now
    where
      twice : (b : Bool) (x y z : Option (List ℕ)) → cond b x z ≡ cond b x (cond b y z)
      twice true x y z = refl
      twice false x y z = refl

      none : (b : Bool) → eq_by_cmp key_cmp q key ≡ b → find key_cmp q after ≡ cond b None (cond b (Some was) (find key_cmp q after))
      none true t = find_below key_cmp_total key q after t (left _ _ h)
      none false t = refl

      by_case : (o : Option (List ℕ)) → find key_cmp q (entry_if key o ++ after) ≡ cond (eq_by_cmp key_cmp q key) o (cond (eq_by_cmp key_cmp q key) (Some was) (find key_cmp q after))
      by_case None = none (eq_by_cmp key_cmp q key) refl
      by_case (Some bytes) = twice (eq_by_cmp key_cmp q key) (Some bytes) (Some was) (find key_cmp q after)
  find_change q (e ∷ before) h = by_case (eq_by_cmp key_cmp q e.0) refl (find_change q before (right (below_all key_cmp e.0 (before ++ (key, was) ∷ after)) _ h))
    where
      rest : Option (List ℕ)
      rest = find key_cmp q (before ++ (key, was) ∷ after)

      by_case : (b : Bool) → eq_by_cmp key_cmp q e.0 ≡ b → find key_cmp q (before ++ (entry_if key now ++ after)) ≡ cond (eq_by_cmp key_cmp q key) now (find key_cmp q (before ++ (key, was) ∷ after))
          → cond b (Some e.1) (find key_cmp q (before ++ (entry_if key now ++ after))) ≡ cond (eq_by_cmp key_cmp q key) now (cond b (Some e.1) (find key_cmp q (before ++ (key, was) ∷ after)))
      by_case true t later =
          let apart : key_cmp q key ≡ Less = key_cmp_total.congr q e.0 key (equal _ t) ∙ below_key e.0 before (left _ _ h) in
          ap (λ r. cond (is_eq r) now (Some e.1)) (sym apart)
      by_case false t later = later

sorted_is : (b : Bool) → T b → b ≡ true
sorted_is true t = refl
sorted_is false t = absurd t

-- a view whose entry at a key is another, or none
abbrev pub seen_anew : List ShareEntry → ShareKey → Option (List ℕ) → List ShareEntry → Shares
seen_anew before key now after = from_sorted (before ++ (entry_if key now ++ after))

module _ (view : Shares) (before : List ShareEntry) (key : ShareKey) (was : List ℕ) (after : List ShareEntry) (now : Option (List ℕ)) (is : entries view ≡ before ++ (key, was) ∷ after) where
  in_order : is_sorted key_cmp (before ++ (key, was) ∷ after) ≡ true
  in_order = sorted_is _ (subst (λ (es : List ShareEntry). T (is_sorted key_cmp es)) is (entries_sorted view))

  pub entries-seen_anew : entries (seen_anew before key now after) ≡ before ++ (entry_if key now ++ after)
  entries-seen_anew = entries-from_sorted key_cmp (before ++ (entry_if key now ++ after)) (is_T _ (sorted_change key was now after before in_order))

  get-seen_anew : (q : ShareKey) → get (seen_anew before key now after) q ≡ cond (eq_by_cmp key_cmp q key) now (get view q)
  get-seen_anew q =
      get-from_sorted key_cmp (before ++ (entry_if key now ++ after)) q (is_T _ (sorted_change key was now after before in_order))
      ∙ find_change key was now after q before in_order
      ∙ ap (λ (es : List ShareEntry). cond (eq_by_cmp key_cmp q key) now (find key_cmp q es)) (sym is)
      ∙ ap (cond (eq_by_cmp key_cmp q key) now) (sym (get-entries view q))

  -- one place is seen anew, and the others as before
  pub still_seen : {old new : History} (c : Shares) → StoodAmid old new c → now ≡ get c key → IsSeenAmid old new view → IsSeenAmid old new (seen_anew before key now after)
  still_seen {old = old} {new = new} c amid same seen q = by_case (eq_by_cmp key_cmp q key) refl
    where
      by_case : (b : Bool) → eq_by_cmp key_cmp q key ≡ b → (d : Shares) × StoodAmid old new d × (get (seen_anew before key now after) q ≡ get d q)
      by_case true t = (c, amid, get-seen_anew q ∙ ap (λ b. cond b now (get view q)) t ∙ same ∙ ap (get c) (sym (tells_apart key_cmp_exact q key t)))
      by_case false t = let at = seen q in (at.0, at.1, get-seen_anew q ∙ ap (λ b. cond b now (get view q)) t ∙ at.2)

-- ---- the shares under one index, below a limit

abbrev pub listed : List ℕ → Option ℕ → List ShareEntry → List (ℕ × List ℕ)
listed index limit es = below_limit (λ (s : ℕ × List ℕ). s.0) limit (map numbered (of_index index es))

listed-append : (index : List ℕ) (limit : Option ℕ) (xs ys : List ShareEntry) → listed index limit (xs ++ ys) ≡ listed index limit xs ++ listed index limit ys
listed-append index limit xs ys =
    ap (λ l. below_limit (λ (s : ℕ × List ℕ). s.0) limit (map numbered l)) (filter-append (λ (e : ShareEntry). pointwise nat_eq e.0.0 index) xs ys)
    ∙ ap (below_limit (λ (s : ℕ × List ℕ). s.0) limit) (map-append numbered (of_index index xs) (of_index index ys))
    ∙ within_append (λ (s : ℕ × List ℕ). s.0) limit (map numbered (of_index index xs)) (map numbered (of_index index ys))

-- an entry that is listed is so with any bytes
record IsListed (index : List ℕ) (limit : Option ℕ) (e : ShareEntry) : Type 0 where
  pub under : e.0.0 ≡ index
  pub each : (bytes : List ℕ) → listed index limit ((e.0, bytes) ∷ []) ≡ (e.0.1, bytes) ∷ []

one : (index : List ℕ) (limit : Option ℕ) (e : ShareEntry) → (listed index limit (e ∷ []) ≡ []) ⊎ IsListed index limit e
one index None e = by_case (pointwise nat_eq e.0.0 index) refl
  where
    by_case : (b : Bool) → pointwise nat_eq e.0.0 index ≡ b → (listed index None (e ∷ []) ≡ []) ⊎ IsListed index None e
    by_case true t = inr (record { under = same_bytes e.0.0 index t; each = λ bytes. ap (λ b. map numbered (cond b ((e.0, bytes) ∷ []) [])) t })
    by_case false t = inl (ap (λ b. map numbered (cond b (e ∷ []) [])) t)
one index (Some l) e = by_case (pointwise nat_eq e.0.0 index) (nat_lt e.0.1 l) refl refl
  where
    by_case : (b c : Bool) → pointwise nat_eq e.0.0 index ≡ b → nat_lt e.0.1 l ≡ c → (listed index (Some l) (e ∷ []) ≡ []) ⊎ IsListed index (Some l) e
    by_case false c t u = inl (ap (λ b. filter (λ (s : ℕ × List ℕ). nat_lt s.0 l) (map numbered (cond b (e ∷ []) []))) t)
    by_case true false t u = inl (ap (λ b. filter (λ (s : ℕ × List ℕ). nat_lt s.0 l) (map numbered (cond b (e ∷ []) []))) t ∙ ap (λ c. cond c (numbered e ∷ []) []) u)
    by_case true true t u = inr (record {
      under = same_bytes e.0.0 index t;
      each = λ bytes. ap (λ b. filter (λ (s : ℕ × List ℕ). nat_lt s.0 l) (map numbered (cond b ((e.0, bytes) ∷ []) []))) t ∙ ap (λ c. cond c ((e.0.1, bytes) ∷ []) []) u;
    })

-- entries before and after the one of a share that is listed
pub record IsSplit (index : List ℕ) (limit : Option ℕ) (es : List ShareEntry) (done : List (ℕ × List ℕ)) (s : ℕ × List ℕ) (rest : List (ℕ × List ℕ)) : Type 0 where
  pub before : List ShareEntry
  pub after : List ShareEntry
  pub is : es ≡ before ++ ((index, s.0), s.1) ∷ after
  pub listed_before : listed index limit before ≡ done
  pub listed_after : listed index limit after ≡ rest
  pub each : (bytes : List ℕ) → listed index limit (((index, s.0), bytes) ∷ []) ≡ (s.0, bytes) ∷ []

pub split : (index : List ℕ) (limit : Option ℕ) (es : List ShareEntry) (done : List (ℕ × List ℕ)) (s : ℕ × List ℕ) (rest : List (ℕ × List ℕ)) → listed index limit es ≡ done ++ s ∷ rest → IsSplit index limit es done s rest
split index limit [] done s rest h = absurd (nothing done (sym (within_none (λ (x : ℕ × List ℕ). x.0) limit) ∙ h))
  where
    nothing : (xs : List (ℕ × List ℕ)) → [] ≡ xs ++ s ∷ rest → ⊥
    nothing [] e = cc
    nothing (x ∷ xs) e = cc
split index limit (e ∷ es) done s rest h = by_case (one index limit e) (λ xs g. split index limit es xs s rest g)
  where
    parts : listed index limit (e ∷ []) ++ listed index limit es ≡ done ++ s ∷ rest
    parts = sym (listed-append index limit (e ∷ []) es) ∙ h

    later : (xs front : List (ℕ × List ℕ)) → listed index limit (e ∷ []) ≡ front → front ++ xs ≡ done → IsSplit index limit es xs s rest → IsSplit index limit (e ∷ es) done s rest
    later xs front first all at = record {
      before = e ∷ at.before;
      after = at.after;
      is = ap (λ (l : List ShareEntry). e ∷ l) at.is;
      listed_before = listed-append index limit (e ∷ []) at.before ∙ ap (λ l. l ++ listed index limit at.before) first ∙ ap (λ l. front ++ l) at.listed_before ∙ all;
      listed_after = at.listed_after;
      each = at.each;
    }

    by_place : IsListed index limit e → (xs : List (ℕ × List ℕ)) → xs ≡ done → ((ys : List (ℕ × List ℕ)) → listed index limit es ≡ ys ++ s ∷ rest → IsSplit index limit es ys s rest) → IsSplit index limit (e ∷ es) done s rest
    by_place there [] none more =
        let all : numbered e ∷ listed index limit es ≡ s ∷ rest = ap (λ l. l ++ listed index limit es) (sym (there.each e.1)) ∙ parts ∙ ap (λ l. l ++ s ∷ rest) (sym none) in
        let here : numbered e ≡ s = cc in
        let then : listed index limit es ≡ rest = cc in
        let key : e.0 ≡ (index, s.0) = λ i. (there.under i, (here i).0) in
        record {
          before = [];
          after = es;
          is = λ i. (key i, (here i).1) ∷ es;
          listed_before = within_none (λ (x : ℕ × List ℕ). x.0) limit ∙ none;
          listed_after = then;
          each = λ bytes. subst (λ (k : ShareKey). listed index limit ((k, bytes) ∷ []) ≡ (k.1, bytes) ∷ []) key (there.each bytes);
        }
    by_place there (x ∷ xs) some more =
        let all : numbered e ∷ listed index limit es ≡ x ∷ (xs ++ s ∷ rest) = ap (λ l. l ++ listed index limit es) (sym (there.each e.1)) ∙ parts ∙ ap (λ l. l ++ s ∷ rest) (sym some) in
        let here : numbered e ≡ x = cc in
        let then : listed index limit es ≡ xs ++ s ∷ rest = cc in
        later xs (x ∷ []) (there.each e.1 ∙ ap (λ (y : ℕ × List ℕ). y ∷ []) here) some (more xs then)

    by_case : (listed index limit (e ∷ []) ≡ []) ⊎ IsListed index limit e → ((ys : List (ℕ × List ℕ)) → listed index limit es ≡ ys ++ s ∷ rest → IsSplit index limit es ys s rest) → IsSplit index limit (e ∷ es) done s rest
    by_case (inl none) more = later done [] none refl (more done (ap (λ l. l ++ listed index limit es) (sym none) ∙ parts))
    by_case (inr there) more = by_place there done refl more

-- what is listed when one share is seen anew
pub listed_anew : {index : List ℕ} {limit : Option ℕ} {es : List ShareEntry} {done : List (ℕ × List ℕ)} {s : ℕ × List ℕ} {rest : List (ℕ × List ℕ)} (at : IsSplit index limit es done s rest) (now : Option (List ℕ))
    → listed index limit (at.before ++ (entry_if (index, s.0) now ++ at.after)) ≡ done ++ (map numbered (entry_if (index, s.0) now) ++ rest)
listed_anew {index = index} {limit = limit} {done = done} {s = s} {rest = rest} at now =
    listed-append index limit at.before (entry_if (index, s.0) now ++ at.after)
    ∙ ap (λ l. l ++ listed index limit (entry_if (index, s.0) now ++ at.after)) at.listed_before
    ∙ ap (λ l. done ++ l) (listed-append index limit (entry_if (index, s.0) now) at.after ∙ ap (λ l. listed index limit (entry_if (index, s.0) now) ++ l) at.listed_after ∙ ap (λ l. l ++ rest) (by_case now))
  where
    by_case : (o : Option (List ℕ)) → listed index limit (entry_if (index, s.0) o) ≡ map numbered (entry_if (index, s.0) o)
    by_case None = within_none (λ (x : ℕ × List ℕ). x.0) limit
    by_case (Some bytes) = at.each bytes
