-- What holds of the rows of maps.
use Rattle.std.proofs.Common.{◌≡◌, ◌⊎◌, inl, inr, ◌<◌, ◌≤◌, ◌+◌, ◌^◌, ℕ, zero, suc, List, [], ◌∷◌, ◌++◌, length, map, All, Option, Some, None, Bool, true, false, ◌&&◌, ◌==◌, if◌then◌else◌, slice_get, refl, sym, ap, subst, ◌∙◌, arith, append-nil}
use Rattle.std.proofs.lemmas.Bool.{lt-ltb, le-ltb}
use Rattle.std.proofs.lemmas.Bool.Decides.{nat_tests}
use Rattle.std.specs.Option.{option_map_or}
use Rattle.std.specs.declared.cmp.Ordering.{Ordering}
use Rattle.std.specs.declared.cmp.Ordering.TheVariants.{Less, Equal}
use Rattle.std.specs.Ordering.{is_lt, ordering_then, nat_cmp}
use Rattle.std.specs.Cmp.{nat_cmp_is}
use Rattle.std.specs.FinMap.{entries, entries_sorted, is_sorted, same_entries_map}
use Rattle.std.specs.FinMap.Entries.{below_all}
use Rattle.share_store.specs.Shares.{Shares, ShareKey, ShareEntry, key_cmp}
use Rattle.grid.specs.Found.{entries_at}
use Rattle.grid.specs.Rows.{Row, rows_below, rows_of}
use Rattle.grid.specs.RowOrder.{RowKey, row_key, comes_after, in_order}
use Rattle.grid.specs.ImageLaws.{IsInRange, CanBeWritten}
use Rattle.grid.specs.Layout.{front, row_front}
use Rattle.grid.specs.Image.{refused_field, refused_place}
use Rattle.grid.specs.declared.image_layout.Layout.TheVariants.{VersionTwo}
use Rattle.grid.proofs.Entries.{left, right, is_true}

-- ---- in order

both : (a b : Bool) → a ≡ true → b ≡ true → a && b ≡ true
both a b p q = rw (p, q) refl

-- the last key of these rows, or the one before them
last_of : Option RowKey → List Row → Option RowKey
last_of last [] = last
last_of last (row ∷ rows) = last_of (Some (row_key row)) rows

ordered_both : (last : Option RowKey) (xs ys : List Row) → in_order last xs ≡ true → in_order (last_of last xs) ys ≡ true → in_order last (xs ++ ys) ≡ true
unfolding last_of
ordered_both last [] ys p q = q
ordered_both last (x ∷ xs) ys p q = both _ _ (left (comes_after last (row_key x)) _ p) (ordered_both (Some (row_key x)) xs ys (right (comes_after last (row_key x)) _ p) q)

same_server : (n : ℕ) (r : Ordering) → ordering_then (nat_cmp n n) r ≡ r
same_server n r = ap (λ o. ordering_then o r) (sym (nat_cmp_is n n Equal refl))

later_server : (m n : ℕ) (r : Ordering) → m < n → ordering_then (nat_cmp m n) r ≡ Less
later_server m n r lt = ap (λ o. ordering_then o r) (sym (nat_cmp_is m n Less lt))

-- the rows of one server behind a row of it
ordered_behind : (n : ℕ) (key : ShareKey) (es : List ShareEntry) → below_all key_cmp key es ≡ true → is_sorted key_cmp es ≡ true → in_order (Some (n, key)) (map (λ e. (n, e)) es) ≡ true
ordered_behind n key [] below sorted = refl
ordered_behind n key (e ∷ es) below sorted =
    both _ _ (ap is_lt (same_server n (key_cmp key e.0)) ∙ left (is_lt (key_cmp key e.0)) _ below)
    (ordered_behind n e.0 es (left (below_all key_cmp e.0 es) _ sorted) (right (below_all key_cmp e.0 es) _ sorted))

-- a key of an earlier server, or none
abbrev Earlier : Option RowKey → ℕ → Type 0
Earlier None n = Unit {0}
Earlier (Some key) n = key.0 < n

after_earlier : (last : Option RowKey) (n : ℕ) (key : ShareKey) → Earlier last n → comes_after last (n, key) ≡ true
after_earlier None n key early = refl
after_earlier (Some last) n key early = ap is_lt (later_server last.0 n (key_cmp last.1 key) early)

ordered_at : (last : Option RowKey) (n : ℕ) (es : List ShareEntry) → Earlier last n → is_sorted key_cmp es ≡ true → in_order last (map (λ e. (n, e)) es) ≡ true
ordered_at last n [] early sorted = refl
ordered_at last n (e ∷ es) early sorted = both _ _ (after_earlier last n e.0 early) (ordered_behind n e.0 es (left (below_all key_cmp e.0 es) _ sorted) (right (below_all key_cmp e.0 es) _ sorted))

last_both : (last : Option RowKey) (xs ys : List Row) → last_of last (xs ++ ys) ≡ last_of (last_of last xs) ys
unfolding last_of
last_both last [] ys = refl
last_both last (x ∷ xs) ys = last_both (Some (row_key x)) xs ys

earlier_at : (last : Option RowKey) (n : ℕ) (es : List ShareEntry) → Earlier last (suc n) → Earlier (last_of last (map (λ e. (n, e)) es)) (suc n)
unfolding last_of
earlier_at last n [] early = early
earlier_at last n (e ∷ es) early = earlier_at (Some (n, e.0)) n es (omega arith)

earlier_more : (last : Option RowKey) (n : ℕ) → Earlier last n → Earlier last (suc n)
earlier_more None n early = tt
earlier_more (Some key) n early = omega arith

earlier_below : (maps : List Shares) (n : ℕ) → Earlier (last_of None (rows_below maps n)) n
unfolding last_of
earlier_below maps zero = tt
earlier_below maps (suc n) =
    subst (λ l. Earlier l (suc n)) (sym (last_both None (rows_below maps n) (map (λ e. (n, e)) (entries_at maps n))))
    (earlier_at (last_of None (rows_below maps n)) n (entries_at maps n) (earlier_more (last_of None (rows_below maps n)) n (earlier_below maps n)))

sorted_at : (maps : List Shares) (n : ℕ) → is_sorted key_cmp (entries_at maps n) ≡ true
sorted_at maps n = by_map (slice_get maps n)
  where
    by_map : (o : Option Shares) → is_sorted key_cmp (option_map_or entries o []) ≡ true
    by_map None = refl
    by_map (Some m) = is_true _ (entries_sorted m)

ordered_below : (maps : List Shares) (n : ℕ) → in_order None (rows_below maps n) ≡ true
ordered_below maps zero = refl
ordered_below maps (suc n) =
    ordered_both None (rows_below maps n) (map (λ e. (n, e)) (entries_at maps n)) (ordered_below maps n)
    (ordered_at (last_of None (rows_below maps n)) n (entries_at maps n) (earlier_below maps n) (sorted_at maps n))

pub rows_ordered : (maps : List Shares) → in_order None (rows_of maps) ≡ true
rows_ordered maps = ordered_below maps (length maps)

-- ---- each row

abbrev pub AllRows : (Row → Type 0) → List Row → Type 0
AllRows P [] = Unit {0}
AllRows P (row ∷ rows) = P row × AllRows P rows

rows_both : (P : Row → Type 0) (xs ys : List Row) → AllRows P xs → AllRows P ys → AllRows P (xs ++ ys)
rows_both P [] ys p q = q
rows_both P (x ∷ xs) ys p q = (p.0, rows_both P xs ys p.1 q)

rows_impl : (P Q : Row → Type 0) (rows : List Row) → ((row : Row) → P row → Q row) → AllRows P rows → AllRows Q rows
rows_impl P Q [] f p = tt
rows_impl P Q (row ∷ rows) f p = (f row p.0, rows_impl P Q rows f p.1)

pub all_from : (P : Row → Type 0) (rows : List Row) → AllRows P rows → All P rows
all_from P [] p k d lt = absurd (omega arith)
all_from P (row ∷ rows) p zero d lt = p.0
all_from P (row ∷ rows) p (suc k) d lt = all_from P rows p.1 k d (omega arith)

pub rows_from : (P : Row → Type 0) (rows : List Row) → All P rows → AllRows P rows
rows_from P [] all = tt
rows_from P (row ∷ rows) all = (all zero row (omega arith), rows_from P rows (λ k d lt. all (suc k) d (omega arith)))

here_below : (P : ShareEntry → Type 0) (n : ℕ) (es : List ShareEntry) → All P es → AllRows (λ row. (row.0 < suc n) × P row.1) (map (λ e. (n, e)) es)
here_below P n [] all = tt
here_below P n (e ∷ es) all = ((omega arith, all zero e (omega arith)), here_below P n es (λ k d lt. all (suc k) d (omega arith)))

below_all_rows : (P : ShareEntry → Type 0) (maps : List Shares) (n : ℕ) → ((s : ℕ) → All P (entries_at maps s)) → AllRows (λ row. (row.0 < n) × P row.1) (rows_below maps n)
below_all_rows P maps zero each = tt
below_all_rows P maps (suc n) each =
    rows_both (λ row. (row.0 < suc n) × P row.1) (rows_below maps n) (map (λ e. (n, e)) (entries_at maps n))
    (rows_impl (λ row. (row.0 < n) × P row.1) (λ row. (row.0 < suc n) × P row.1) (rows_below maps n) (λ row h. (omega (arith, h.0), h.1)) (below_all_rows P maps n each))
    (here_below P n (entries_at maps n) (each n))

-- the numbers of rows none of which passes its range
numbers_fit : (place : ℕ) (rows : List Row) → refused_field place rows ≡ None → AllRows (λ row. row.1.0.1 < 256) rows
numbers_fit place [] none = tt
numbers_fit place (row ∷ rows) none = by_case (grind arith) (numbers_fit (place + row_front VersionTwo + length row.1.1) rows)
  where
    by_case : (row.1.0.1 < 256) ⊎ (256 ≤ row.1.0.1) → (refused_field (place + row_front VersionTwo + length row.1.1) rows ≡ None → AllRows (λ r. r.1.0.1 < 256) rows) → AllRows (λ r. r.1.0.1 < 256) (row ∷ rows)
    by_case (inl a) rest = (a, rest (sym (ap (λ b. if b then refused_field (place + row_front VersionTwo + length row.1.1) rows else Some (place + 20)) (lt-ltb row.1.0.1 256 a)) ∙ none))
    by_case (inr a) rest = let no = sym (ap (λ b. if b then refused_field (place + row_front VersionTwo + length row.1.1) rows else Some (place + 20)) (le-ltb row.1.0.1 256 a)) ∙ none in cc

count_fits : (rows : List Row) → refused_place rows ≡ None → (length rows < 2 ^ 64) × (refused_field (front VersionTwo) rows ≡ None)
count_fits rows none = by_case (grind arith)
  where
    by_case : (length rows < 2 ^ 64) ⊎ (2 ^ 64 ≤ length rows) → (length rows < 2 ^ 64) × (refused_field (front VersionTwo) rows ≡ None)
    by_case (inl few) = (few, sym (ap (λ b. if b then refused_field (front VersionTwo) rows else Some 12) (lt-ltb (length rows) (2 ^ 64) few)) ∙ none)
    by_case (inr many) = let no = sym (ap (λ b. if b then refused_field (front VersionTwo) rows else Some 12) (le-ltb (length rows) (2 ^ 64) many)) ∙ none in cc

joined_facts : (servers : ℕ) (rows : List Row) → AllRows (λ row. (row.0 < servers) × (0 < length row.1.1)) rows → AllRows (λ row. row.1.0.1 < 256) rows → AllRows (λ row. length row.1.0.0 ≡ 16) rows
    → AllRows (λ row. length row.1.1 < 2 ^ 64) rows → AllRows (IsInRange VersionTwo servers) rows
joined_facts servers [] a b c d = tt
joined_facts servers (row ∷ rows) a b c d = (record { server = a.0.0; index = c.0; number = b.0; some = a.0.1; short = d.0 }, joined_facts servers rows a.1 b.1 c.1 d.1)

-- the rows of maps none of which passes a range
pub can_be_written : (maps : List Shares) (servers : ℕ) → length maps ≡ servers → servers < 2 ^ 32 → refused_place (rows_of maps) ≡ None → All (λ row. length row.1.0.0 ≡ 16) (rows_of maps)
    → All (λ row. length row.1.1 < 2 ^ 64) (rows_of maps) → ((s : ℕ) → All (λ e. 0 < length e.1) (entries_at maps s)) → CanBeWritten VersionTwo servers (rows_of maps)
can_be_written maps servers same fits none sized short some =
    let counted = count_fits (rows_of maps) none in
    let placed = subst (λ n. AllRows (λ row. (row.0 < n) × (0 < length row.1.1)) (rows_of maps)) same (below_all_rows (λ e. 0 < length e.1) maps (length maps) some) in
    record {
      servers_fit = fits;
      few = counted.0;
      in_range = all_from (IsInRange VersionTwo servers) (rows_of maps)
          (joined_facts servers (rows_of maps) placed (numbers_fit (front VersionTwo) (rows_of maps) counted.1) (rows_from (λ row. length row.1.0.0 ≡ 16) (rows_of maps) sized)
          (rows_from (λ row. length row.1.1 < 2 ^ 64) (rows_of maps) short));
      ordered = rows_ordered maps;
    }

-- ---- maps by their rows

-- those entries that stand in rows of one server
entries_of_server : ℕ → List Row → List ShareEntry
entries_of_server n [] = []
entries_of_server n (row ∷ rows) = if row.0 == n then row.1 ∷ entries_of_server n rows else entries_of_server n rows

server_both : (n : ℕ) (xs ys : List Row) → entries_of_server n (xs ++ ys) ≡ entries_of_server n xs ++ entries_of_server n ys
unfolding entries_of_server
server_both n [] ys = refl
server_both n (x ∷ xs) ys = by_test (x.0 == n) (server_both n xs ys)
  where
    by_test : (b : Bool) → entries_of_server n (xs ++ ys) ≡ entries_of_server n xs ++ entries_of_server n ys →
        (if b then x.1 ∷ entries_of_server n (xs ++ ys) else entries_of_server n (xs ++ ys)) ≡ (if b then x.1 ∷ entries_of_server n xs else entries_of_server n xs) ++ entries_of_server n ys
    by_test true rest = ap (λ l. x.1 ∷ l) rest
    by_test false rest = rest

server_here : (n : ℕ) (es : List ShareEntry) → entries_of_server n (map (λ e. (n, e)) es) ≡ es
unfolding entries_of_server
server_here n [] = refl
server_here n (e ∷ es) =
    let tested : (n == n) ≡ true = grind (arith, nat_tests) in
    ap (λ b. if b then e ∷ entries_of_server n (map (λ e. (n, e)) es) else entries_of_server n (map (λ e. (n, e)) es)) tested ∙ ap (λ l. e ∷ l) (server_here n es)

server_other : (n m : ℕ) (es : List ShareEntry) → (m ≡ n → ⊥) → entries_of_server n (map (λ e. (m, e)) es) ≡ []
unfolding entries_of_server
server_other n m [] other = refl
server_other n m (e ∷ es) other =
    let tested : (m == n) ≡ false = grind (arith, nat_tests) in
    ap (λ b. if b then e ∷ entries_of_server n (map (λ e. (m, e)) es) else entries_of_server n (map (λ e. (m, e)) es)) tested ∙ server_other n m es other

server_past : (maps : List Shares) (n k : ℕ) → k ≤ n → entries_of_server n (rows_below maps k) ≡ []
unfolding entries_of_server
server_past maps n zero le = refl
server_past maps n (suc k) le =
    server_both n (rows_below maps k) (map (λ e. (k, e)) (entries_at maps k))
    ∙ ap (λ l. l ++ entries_of_server n (map (λ e. (k, e)) (entries_at maps k))) (server_past maps n k (omega arith))
    ∙ server_other n k (entries_at maps k) (λ same. omega arith)

server_below : (maps : List Shares) (n k : ℕ) → n < k → entries_of_server n (rows_below maps k) ≡ entries_at maps n
server_below maps n zero lt = absurd (omega arith)
server_below maps n (suc k) lt =
    server_both n (rows_below maps k) (map (λ e. (k, e)) (entries_at maps k)) ∙ by_case (server_below maps n k) (grind arith)
  where
    by_case : (n < k → entries_of_server n (rows_below maps k) ≡ entries_at maps n) → (n < k) ⊎ (k ≡ n)
        → entries_of_server n (rows_below maps k) ++ entries_of_server n (map (λ e. (k, e)) (entries_at maps k)) ≡ entries_at maps n
    by_case rest (inl below) =
        ap (λ l. entries_of_server n (rows_below maps k) ++ l) (server_other n k (entries_at maps k) (λ same. omega arith))
        ∙ append-nil (entries_of_server n (rows_below maps k)) ∙ rest below
    by_case rest (inr same) =
        ap (λ l. l ++ entries_of_server n (map (λ e. (k, e)) (entries_at maps k))) (server_past maps n k (omega arith))
        ∙ subst (λ j. entries_of_server n (map (λ e. (j, e)) (entries_at maps j)) ≡ entries_at maps n) (sym same) (server_here n (entries_at maps n))

same_maps : (ms ns : List Shares) → length ms ≡ length ns → ((s : ℕ) → s < length ms → entries_at ms s ≡ entries_at ns s) → ms ≡ ns
same_maps [] [] same each = refl
same_maps [] (n ∷ ns) same each = absurd (omega arith)
same_maps (m ∷ ms) [] same each = absurd (omega arith)
same_maps (m ∷ ms) (n ∷ ns) same each =
    let first : m ≡ n = same_entries_map m n (each zero (omega arith)) in
    ap (λ x. x ∷ ms) first ∙ ap (λ l. n ∷ l) (same_maps ms ns (omega arith) (λ s lt. each (suc s) (omega arith)))

-- as many maps with the same rows are the same
pub maps_by_rows : (ms ns : List Shares) → length ms ≡ length ns → rows_of ms ≡ rows_of ns → ms ≡ ns
maps_by_rows ms ns same rows =
    same_maps ms ns same (λ s lt. sym (server_below ms s (length ms) lt) ∙ ap (entries_of_server s) rows ∙ server_below ns s (length ns) (omega arith))
