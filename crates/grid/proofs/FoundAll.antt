-- What is found under a storage index and what stands there.
use Rattle.std.proofs.Common.{◌≡◌, ◌⊎◌, inl, inr, ℕ, zero, suc, ◌+◌, ◌<◌, ◌≤◌, List, [], ◌∷◌, ◌++◌, map, Bool, true, false, cond, Option, Some, None, refl, sym, ap, subst, ◌∙◌, arith}
use Rattle.std.specs.Prelude.{◌==◌, ◌&&◌, nat_eq, slice_get, option_and_then, option_to_list, filter, Contains}
use Rattle.std.specs.Option.{option_map, option_map_or}
use Rattle.std.specs.List.{range_with_len, filter_map, cons_option}
use Rattle.std.specs.Ordering.{is_eq, is_lt}
use Rattle.std.specs.declared.cmp.Ordering.{Ordering}
use Rattle.std.specs.declared.cmp.Ordering.TheVariants.{Less, Equal, Greater}
use Rattle.std.specs.Cmp.Lexicographic.{pointwise, bytes_decides}
use Rattle.std.specs.FinMap.{entries, entries_sorted, get, get-entries, find, is_sorted, from_sorted, get-from_sorted, entries-from_sorted, same_map}
use Rattle.std.specs.FinMap.Entries.{below_all, is_sorted-where_key, find-where_key}
use Rattle.std.proofs.lemmas.Bool.{and_parts, and_from, eqb-true, eq-eqb}
use Rattle.std.proofs.lemmas.Cmp.{eq_by_cmp_equiv}
use Rattle.std.proofs.lemmas.List.{map-append}
use Rattle.std.proofs.lemmas.List.Elements.{filter-append, filter_map-append, Contains-append_left, Contains-append_right}
use Rattle.share_store.specs.Shares.{Shares, ShareKey, ShareEntry, key_cmp}
use Rattle.share_store.specs.MapLaws.{key_cmp_total, key_cmp_exact}
use Rattle.share_store.specs.Numbers.{of_index}
use Rattle.grid.specs.Found.{found_in, found_below, entries_at}
use Rattle.grid.specs.Standing.{standing}
use Rattle.grid.proofs.Entries.{same_bytes, is_true}

abbrev Found : Type 0
Found = ℕ × ℕ × List ℕ

abbrev Place : Type 0
Place = ℕ × List ℕ

true_or_false : (b : Bool) (P : Type 0) → (b ≡ true → P) → (b ≡ false → P) → P
true_or_false true P first second = first refl
true_or_false false P first second = second refl

bytes_same : (xs ys : List ℕ) → xs ≡ ys → pointwise nat_eq xs ys ≡ true
bytes_same xs ys = (bytes_decides xs ys).1

-- ---- keys

is_itself : (k : ShareKey) → is_eq (key_cmp k k) ≡ true
is_itself k = (eq_by_cmp_equiv key_cmp_total).refl k

equal : (o : Ordering) → is_eq o ≡ true → o ≡ Equal
equal Less e = cc
equal Equal e = refl
equal Greater e = cc

same_parts : (a b : ShareKey) → a.0 ≡ b.0 → a.1 ≡ b.1 → a ≡ b
same_parts (x, m) (y, n) p q = λ i. (p i, q i)

-- a key is compared by its parts
by_parts : (q k : ShareKey) → is_eq (key_cmp q k) ≡ (pointwise nat_eq k.0 q.0 && (k.1 == q.1))
by_parts q k =
    true_or_false (is_eq (key_cmp q k)) _
    (λ is.
    let same : q ≡ k = key_cmp_exact q k (equal (key_cmp q k) is) in
    is ∙ sym (and_from _ _ (bytes_same k.0 q.0 (ap (λ (x : ShareKey). x.0) (sym same))) (eq-eqb k.1 q.1 (ap (λ (x : ShareKey). x.1) (sym same)))))
    (λ isnt.
    true_or_false (pointwise nat_eq k.0 q.0 && (k.1 == q.1)) _
    (λ both.
    let parts = and_parts (pointwise nat_eq k.0 q.0) (k.1 == q.1) both in
    let same : k ≡ q = same_parts k q (same_bytes k.0 q.0 parts.0) (eqb-true k.1 q.1 parts.1) in
    let is : is_eq (key_cmp q k) ≡ true = subst (λ (x : ShareKey). is_eq (key_cmp q x) ≡ true) (sym same) (is_itself q) in
    absurd (let e : true ≡ false = sym is ∙ isnt in cc))
    (λ neither. isnt ∙ sym neither))

-- ---- the same stands, and the same is found

module _ (m n : Shares) (index : List ℕ) (same : (number : ℕ) → get m (index, number) ≡ get n (index, number)) where
  abbrev under : ShareKey → Bool
  under k = pointwise nat_eq k.0 index

  alike : (q x : ShareKey) → key_cmp q x ≡ Equal → under x ≡ under q
  alike q x e = ap under (sym (key_cmp_exact q x e))

  same_under : (q : ShareKey) (b : Bool) → under q ≡ b → cond b (get m q) None ≡ cond b (get n q) None
  same_under q true is =
      let e : q.0 ≡ index = same_bytes q.0 index is in
      subst (λ (k : List ℕ). get m (k, q.1) ≡ get n (k, q.1)) (sym e) (same q.1)
  same_under q false is = refl

  kept : (s : Shares) (q : ShareKey) → get (from_sorted {R = key_cmp} (of_index index (entries s))) q ≡ cond (under q) (get s q) None
  kept s q =
      get-from_sorted key_cmp (of_index index (entries s)) q (is_sorted-where_key key_cmp under (entries s) (entries_sorted s))
      ∙ find-where_key key_cmp under q (alike q) (entries s)
      ∙ ap (λ (o : Option (List ℕ)). cond (under q) o None) (sym (get-entries s q))

  whole : (s : Shares) → entries (from_sorted {R = key_cmp} (of_index index (entries s))) ≡ of_index index (entries s)
  whole s = entries-from_sorted key_cmp (of_index index (entries s)) (is_sorted-where_key key_cmp under (entries s) (entries_sorted s))

  same_of_index : of_index index (entries m) ≡ of_index index (entries n)
  same_of_index =
      let maps : from_sorted {R = key_cmp} (of_index index (entries m)) ≡ from_sorted {R = key_cmp} (of_index index (entries n)) =
      same_map key_cmp_total key_cmp_exact _ _ (λ q. kept m q ∙ same_under q (under q) refl ∙ sym (kept n q)) in
      sym (whole m) ∙ ap entries maps ∙ whole n

-- a store that has nothing under the index
nothing_under : (m : Shares) (index : List ℕ) → ((number : ℕ) → None ≡ get m (index, number)) → of_index index (entries m) ≡ []
nothing_under m index none =
    let nothing : Shares = from_sorted {R = key_cmp} [] in
    same_of_index m nothing index (λ number. sym (none number) ∙ sym (get-from_sorted key_cmp [] (index, number) tt))
    ∙ ap (of_index index) (entries-from_sorted key_cmp [] tt)

same_found_in : (ms ns : List Shares) (index : List ℕ) (s : ℕ) → ((number : ℕ) → standing ms s (index, number) ≡ standing ns s (index, number)) → found_in s index (entries_at ms s) ≡ found_in s index (entries_at ns s)
same_found_in ms ns index s same = by_case (slice_get ms s) (slice_get ns s) same
  where
    by_case : (o p : Option Shares) → ((number : ℕ) → option_and_then (λ (m : Shares). get m (index, number)) o ≡ option_and_then (λ (m : Shares). get m (index, number)) p)
        → found_in s index (option_map_or entries o []) ≡ found_in s index (option_map_or entries p [])
    by_case None None h = refl
    by_case (Some m) None h = ap (map (λ (e : ShareEntry). (s, e.0.1, e.1))) (nothing_under m index (λ number. sym (h number)))
    by_case None (Some n) h = sym (ap (map (λ (e : ShareEntry). (s, e.0.1, e.1))) (nothing_under n index h))
    by_case (Some m) (Some n) h = ap (map (λ (e : ShareEntry). (s, e.0.1, e.1))) (same_of_index m n index h)

pub same_found : (ms ns : List Shares) (index : List ℕ) (servers : ℕ) → ((s number : ℕ) → standing ms s (index, number) ≡ standing ns s (index, number)) → found_below ms index servers ≡ found_below ns index servers
same_found ms ns index zero same = refl
same_found ms ns index (suc n) same = let before = same_found ms ns index n same in let here = same_found_in ms ns index n (same n) in λ i. before i ++ here i

-- ---- what stands is found

there_in : (server number : ℕ) (index bytes : List ℕ) (es : List ShareEntry) → find key_cmp (index, number) es ≡ Some bytes → Contains {X = Found} (found_in server index es) (server, number, bytes)
there_in server number index bytes [] is = cc
there_in server number index bytes (e ∷ es) is = by_key (is_eq (key_cmp (index, number) e.0)) refl is (λ found. there_in server number index bytes es found)
  where
    later : (b : Bool) → Contains {X = Found} (found_in server index es) (server, number, bytes) → Contains {X = Found} (map (λ (x : ShareEntry). (server, x.0.1, x.1)) (cond b (e ∷ of_index index es) (of_index index es))) (server, number, bytes)
    later true h = Contains-append_right ((server, e.0.1, e.1) ∷ []) (found_in server index es) (server, number, bytes) h
    later false h = h

    here : (b : Bool) → b ≡ true → e.0.1 ≡ number → e.1 ≡ bytes → Contains {X = Found} (map (λ (x : ShareEntry). (server, x.0.1, x.1)) (cond b (e ∷ of_index index es) (of_index index es))) (server, number, bytes)
    here true is n v = (0, grind arith, λ i. (server, n i, v i))
    here false is n v = cc

    by_key : (b : Bool) → is_eq (key_cmp (index, number) e.0) ≡ b → cond b (Some e.1) (find key_cmp (index, number) es) ≡ Some bytes
        → (find key_cmp (index, number) es ≡ Some bytes → Contains {X = Found} (found_in server index es) (server, number, bytes)) → Contains {X = Found} (found_in server index (e ∷ es)) (server, number, bytes)
    by_key true key found more =
        let parts = and_parts (pointwise nat_eq e.0.0 index) (e.0.1 == number) (sym (by_parts (index, number) e.0) ∙ key) in
        here (pointwise nat_eq e.0.0 index) parts.0 (eqb-true e.0.1 number parts.1) (let f : Some e.1 ≡ Some bytes = found in cc)
    by_key false key found more = later (pointwise nat_eq e.0.0 index) (more found)

there_at : (maps : List Shares) (server number : ℕ) (index bytes : List ℕ) → standing maps server (index, number) ≡ Some bytes → Contains {X = Found} (found_in server index (entries_at maps server)) (server, number, bytes)
there_at maps server number index bytes = by_case (slice_get maps server)
  where
    by_case : (o : Option Shares) → option_and_then (λ (m : Shares). get m (index, number)) o ≡ Some bytes → Contains {X = Found} (found_in server index (option_map_or entries o [])) (server, number, bytes)
    by_case None h = cc
    by_case (Some m) h = there_in server number index bytes (entries m) (sym (get-entries m (index, number)) ∙ h)

earlier : (s n : ℕ) → s < suc n → (s ≡ n) ⊎ (s < n)
earlier s n lt = grind arith

pub is_found : (maps : List Shares) (index : List ℕ) (servers s number : ℕ) (bytes : List ℕ) → s < servers → standing maps s (index, number) ≡ Some bytes → Contains {X = Found} (found_below maps index servers) (s, number, bytes)
is_found maps index zero s number bytes lt stands = absurd (omega arith)
is_found maps index (suc n) s number bytes lt stands = by_place (earlier s n lt) (λ before. is_found maps index n s number bytes before stands)
  where
    by_place : (s ≡ n) ⊎ (s < n) → (s < n → Contains {X = Found} (found_below maps index n) (s, number, bytes)) → Contains {X = Found} (found_below maps index (suc n)) (s, number, bytes)
    by_place (inl last) more =
        Contains-append_right (found_below maps index n) (found_in n index (entries_at maps n)) (s, number, bytes)
        (subst (λ k. Contains {X = Found} (found_in k index (entries_at maps k)) (s, number, bytes)) last (there_at maps s number index bytes stands))
    by_place (inr before) more =
        Contains-append_left (found_below maps index n) (found_in n index (entries_at maps n)) (s, number, bytes) (more before)

-- ---- what is found of a number

abbrev place_in : Found → Place
place_in f = (f.0, f.2)

abbrev of_number : ℕ → List Found → List Place
of_number number found = map place_in (filter (λ (f : Found). f.1 == number) found)

of_append : (number : ℕ) (xs ys : List Found) → of_number number (xs ++ ys) ≡ of_number number xs ++ of_number number ys
of_append number xs ys =
    ap (map place_in) (filter-append (λ (f : Found). f.1 == number) xs ys)
    ∙ map-append place_in (filter (λ (f : Found). f.1 == number) xs) (filter (λ (f : Found). f.1 == number) ys)

module _ (number server : ℕ) (index : List ℕ) where
  abbrev hit : ShareKey → Bool
  hit k = pointwise nat_eq k.0 index && (k.1 == number)

  abbrev placed : List ℕ → Place
  placed s = (server, s)

  -- one share more in front
  step : (e : ShareEntry) (es : List ShareEntry) → of_number number (found_in server index (e ∷ es)) ≡ cond (hit e.0) (placed e.1 ∷ []) [] ++ of_number number (found_in server index es)
  step e es = by_index (pointwise nat_eq e.0.0 index)
    where
      by_itself : (b : Bool) → map place_in (cond b ((server, e.0.1, e.1) ∷ filter (λ (f : Found). f.1 == number) (found_in server index es)) (filter (λ (f : Found). f.1 == number) (found_in server index es)))
          ≡ cond b (placed e.1 ∷ []) [] ++ of_number number (found_in server index es)
      by_itself true = refl
      by_itself false = refl

      by_index : (b : Bool) → of_number number (map (λ (x : ShareEntry). (server, x.0.1, x.1)) (cond b (e ∷ of_index index es) (of_index index es)))
          ≡ cond (b && (e.0.1 == number)) (placed e.1 ∷ []) [] ++ of_number number (found_in server index es)
      by_index true = by_itself (e.0.1 == number)
      by_index false = refl

  -- none is after its place
  none_after : (es : List ShareEntry) → below_all key_cmp (index, number) es ≡ true → of_number number (found_in server index es) ≡ []
  none_after [] below = refl
  none_after (e ∷ es) below =
      let parts = and_parts (is_lt (key_cmp (index, number) e.0)) (below_all key_cmp (index, number) es) below in
      let misses : hit e.0 ≡ false = sym (by_parts (index, number) e.0) ∙ not_equal (key_cmp (index, number) e.0) parts.0 in
      step e es ∙ ap (λ b. cond b (placed e.1 ∷ []) [] ++ of_number number (found_in server index es)) misses ∙ none_after es parts.1
    where
      not_equal : (o : Ordering) → is_lt o ≡ true → is_eq o ≡ false
      not_equal Less e = refl
      not_equal Equal e = cc
      not_equal Greater e = refl

  in_store : (es : List ShareEntry) → is_sorted key_cmp es ≡ true → of_number number (found_in server index es) ≡ option_to_list (option_map placed (find key_cmp (index, number) es))
  in_store [] sorted = refl
  in_store (e ∷ es) sorted =
      let parts = and_parts (below_all key_cmp e.0 es) (is_sorted key_cmp es) sorted in
      let q : ShareKey = (index, number) in
      let rest : List Place = of_number number (found_in server index es) in
      step e es
      ∙ true_or_false (is_eq (key_cmp q e.0)) _
      (λ is.
      let same : q ≡ e.0 = key_cmp_exact q e.0 (equal (key_cmp q e.0) is) in
      let after : rest ≡ [] = none_after es (subst (λ (k : ShareKey). below_all key_cmp k es ≡ true) (sym same) parts.0) in
      ap (λ b. cond b (placed e.1 ∷ []) [] ++ rest) (sym (by_parts q e.0) ∙ is)
      ∙ ap (λ ys. placed e.1 ∷ ys) after
      ∙ sym (ap (λ b. option_to_list (option_map placed (cond b (Some e.1) (find key_cmp q es)))) is))
      (λ isnt.
      ap (λ b. cond b (placed e.1 ∷ []) [] ++ rest) (sym (by_parts q e.0) ∙ isnt)
      ∙ in_store es parts.1
      ∙ sym (ap (λ b. option_to_list (option_map placed (cond b (Some e.1) (find key_cmp q es)))) isnt))

module _ (number : ℕ) (maps : List Shares) (index : List ℕ) where
  abbrev there : ℕ → Option Place
  there server = option_map (λ s. (server, s)) (standing maps server (index, number))

  at_server : (n : ℕ) → of_number number (found_in n index (entries_at maps n)) ≡ option_to_list (there n)
  at_server n = by_case (slice_get maps n)
    where
      by_case : (o : Option Shares) → of_number number (found_in n index (option_map_or entries o [])) ≡ option_to_list (option_map (λ s. (n, s)) (option_and_then (λ shares. get shares (index, number)) o))
      by_case None = refl
      by_case (Some m) =
          in_store number n index (entries m) (is_true _ (entries_sorted m))
          ∙ ap (λ (o : Option (List ℕ)). option_to_list (option_map (λ s. (n, s)) o)) (sym (get-entries m (index, number)))

range_more : (a n : ℕ) → range_with_len a (suc n) ≡ range_with_len a n ++ (a + n) ∷ []
range_more a zero = let e : a ≡ a + 0 = omega arith in ap (λ k. k ∷ []) e
range_more a (suc n) =
    let e : (a + 1) + n ≡ a + suc n = omega arith in
    ap (λ ks. a ∷ ks) (range_more (a + 1) n ∙ ap (λ k. range_with_len (a + 1) n ++ k ∷ []) e)

cons_alone : {X : Type 0} (o : Option X) → cons_option o [] ≡ option_to_list o
cons_alone None = refl
cons_alone (Some x) = refl

one_more : {X : Type 0} (f : ℕ → Option X) (n : ℕ) → filter_map f (range_with_len 0 (suc n)) ≡ filter_map f (range_with_len 0 n) ++ option_to_list (f n)
one_more f n =
    let e : 0 + n ≡ n = omega arith in
    ap (filter_map f) (range_more 0 n ∙ ap (λ k. range_with_len 0 n ++ k ∷ []) e) ∙ filter_map-append f (range_with_len 0 n) (n ∷ [])
    ∙ ap (λ ys. filter_map f (range_with_len 0 n) ++ ys) (cons_alone (f n))

pub found_of_number : (maps : List Shares) (index : List ℕ) (servers number : ℕ) → of_number number (found_below maps index servers) ≡ filter_map (there number maps index) (range_with_len 0 servers)
found_of_number maps index zero number = refl
found_of_number maps index (suc n) number =
    of_append number (found_below maps index n) (found_in n index (entries_at maps n))
    ∙ (let more = found_of_number maps index n number in let here = at_server number maps index n in λ i. more i ++ here i)
    ∙ sym (one_more (there number maps index) n)

-- ---- the first of a number

here_or_later : (a s : ℕ) → a ≤ s → (a ≡ s) ⊎ (a + 1 ≤ s)
here_or_later a s from = grind arith

abbrev kept_from : (ℕ → Option (List ℕ)) → ℕ → ℕ → List Place
kept_from g a n = filter_map (λ s. option_map (λ bytes. (s, bytes)) (g s)) (range_with_len a n)

first_kept : (g : ℕ → Option (List ℕ)) (a n : ℕ) (p : Place) → slice_get (kept_from g a n) 0 ≡ Some p → (s : ℕ) → a ≤ s → s < p.0 → g s ≡ None
first_kept g a zero p is s from before = cc
first_kept g a (suc n) p is s from before = by_first (g a) refl is (λ first later. first_kept g (a + 1) n p first s later before)
  where
    by_place : (a ≡ s) ⊎ (a + 1 ≤ s) → g a ≡ None → (a + 1 ≤ s → g s ≡ None) → g s ≡ None
    by_place (inl same) here more = ap g (sym same) ∙ here
    by_place (inr later) here more = more later

    by_first : (o : Option (List ℕ)) → g a ≡ o → slice_get (cons_option (option_map (λ bytes. (a, bytes)) o) (kept_from g (a + 1) n)) 0 ≡ Some p → (slice_get (kept_from g (a + 1) n) 0 ≡ Some p → a + 1 ≤ s → g s ≡ None) → g s ≡ None
    by_first (Some bytes) here first more =
        let pair : Place = (a, bytes) in
        let same : pair ≡ p = cc in
        let at : a ≡ p.0 = ap (λ (x : Place). x.0) same in
        absurd (omega arith)
    by_first None here first more = by_place (here_or_later a s from) here (more first)

first_of_map : (xs : List Found) (f : Found) → slice_get xs 0 ≡ Some f → slice_get (map place_in xs) 0 ≡ Some (place_in f)
first_of_map [] f is = cc
first_of_map (x ∷ xs) f is = let same : x ≡ f = cc in ap (λ (y : Found). Some (place_in y)) same

pub first_found : (maps : List Shares) (index : List ℕ) (servers number s : ℕ) (f : Found) → slice_get (filter (λ f. f.1 == number) (found_below maps index servers)) 0 ≡ Some f → s < f.0 → standing maps s (index, number) ≡ None
first_found maps index servers number s f is before =
    first_kept (λ server. standing maps server (index, number)) 0 servers (place_in f)
    (ap (λ (l : List Place). slice_get l 0) (sym (found_of_number maps index servers number)) ∙ first_of_map (filter (λ f. f.1 == number) (found_below maps index servers)) f is) s (omega arith) before
