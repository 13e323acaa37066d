-- Rows that are counted, and then written one by one.
use Rattle.std.proofs.Common.{◌≡◌, ◌<◌, ◌≤◌, ◌+◌, ◌-◌, ◌^◌, ℕ, zero, suc, List, [], ◌∷◌, ◌++◌, length, take, drop, map, Option, Some, None, slice_get, if◌then◌else◌, refl, sym, ap, subst, ◌∙◌, arith, add-one, append_assoc, length-append}
use Rattle.std.specs.List.{flat_map}
use Rattle.std.specs.Io.KnownBytes.{Appends}
use Rattle.std.proofs.KnownBytes.{Appends-trans}
use Rattle.std.proofs.lemmas.Bool.{le-ltb}
use Rattle.std.proofs.lemmas.Grind.{flat_map-append}
use Rattle.std.proofs.lemmas.List.{append-nil, length-map}
use Rattle.std.proofs.lemmas.List.Elements.{All-append, All-nil}
use Rattle.share_store.specs.Shares.{Shares, ShareEntry}
use Rattle.grid.specs.Found.{entries_at}
use Rattle.grid.specs.Rows.{Row, rows_at, rows_below, rows_of}
use Rattle.grid.specs.Image.{image, image_head, row_bytes, refused_field, refused_place}
use Rattle.grid.specs.RowsWritten.{AreWritten}
use Rattle.grid.specs.Written.{WritesBeginning}
use Rattle.grid.specs.declared.image_layout.Layout.TheVariants.{VersionTwo}
use Rattle.grid.specs.declared.image_writer.Progress.{Progress}
use Rattle.grid.proofs.ImageWrites.{place_in_fields, stopped_before, stopped_behind}

-- ---- the rows of a grid, in parts

-- the elements before, at and behind a place
pub mapped_split : {A B : Type 0} (f : A → B) (xs : List A) (i : ℕ) (x : A) → slice_get xs i ≡ Some x → map f xs ≡ map f (take i xs) ++ (f x ∷ map f (drop (i + 1) xs))
mapped_split {A} f xs i x at = split xs i at ∙ ap (λ n. map f (take i xs) ++ (f x ∷ map f (drop n xs))) (sym (add-one i))
  where
    split : (ys : List A) (j : ℕ) → slice_get ys j ≡ Some x → map f ys ≡ map f (take j ys) ++ (f x ∷ map f (drop (suc j) ys))
    split [] j at = cc
    split (y ∷ ys) zero at = let same : y ≡ x = cc in ap (λ z. f z ∷ map f ys) same
    split (y ∷ ys) (suc j) at = ap (λ l. f y ∷ l) (split ys j at)

pub mapped_parts : {A B : Type 0} (f : A → B) (xs : List A) (i : ℕ) → map f xs ≡ map f (take i xs) ++ map f (drop i xs)
mapped_parts f [] zero = refl
mapped_parts f [] (suc i) = refl
mapped_parts f (y ∷ ys) zero = refl
mapped_parts f (y ∷ ys) (suc i) = ap (λ l. f y ∷ l) (mapped_parts f ys i)

-- a place where an element stands
pub in_list : {A : Type 0} (xs : List A) (i : ℕ) (x : A) → slice_get xs i ≡ Some x → i < length xs
in_list [] i x at = cc
in_list (y ∷ xs) zero x at = omega arith
in_list (y ∷ xs) (suc i) x at = omega (arith, in_list xs i x at)

below_more : (maps : List Shares) (n k m : ℕ) → m ≡ k + n → (rest : List Row) × (rows_below maps m ≡ rows_below maps n ++ rest)
below_more maps n zero m is = let same : m ≡ n = omega arith in ([], ap (rows_below maps) same ∙ sym (append-nil (rows_below maps n)))
below_more maps n (suc k) zero is = absurd (omega arith)
below_more maps n (suc k) (suc m) is =
    let less = below_more maps n k m (omega arith) in
    (less.0 ++ rows_at maps m, ap (λ l. l ++ rows_at maps m) less.1 ∙ append_assoc (rows_below maps n) less.0 (rows_at maps m))

-- the rows before, at and behind a server
pub rows_split : (maps : List Shares) (n : ℕ) → n < length maps → (rest : List Row) × (rows_of maps ≡ rows_below maps n ++ (rows_at maps n ++ rest))
rows_split maps n lt =
    let more = below_more maps (suc n) (length maps - suc n) (length maps) (omega arith) in
    (more.0, more.1 ∙ append_assoc (rows_below maps n) (rows_at maps n) more.0)

pub count_next : (maps : List Shares) (n : ℕ) → length (rows_below maps (n + 1)) ≡ length (rows_below maps n) + length (entries_at maps n)
count_next maps n =
    let row : ShareEntry → Row = λ e. (n, e) in
    ap (λ m. length (rows_below maps m)) (add-one n) ∙ length-append (rows_below maps n) (rows_at maps n) ∙ ap (λ m. length (rows_below maps n) + m) (length-map (entries_at maps n) row)

-- where the shares of the servers up to one are too many
pub too_many : (maps : List Shares) (n : ℕ) → n < length maps → 2 ^ 64 ≤ length (rows_below maps n) + length (entries_at maps n) → refused_place (rows_of maps) ≡ Some 12
too_many maps n lt many =
    let split = rows_split maps n lt in
    let row : ShareEntry → Row = λ e. (n, e) in
    let counted : 2 ^ 64 ≤ length (rows_of maps) =
    omega (arith, many, ap length split.1, length-append (rows_below maps n) (rows_at maps n ++ split.0), length-append (rows_at maps n) split.0, length-map (entries_at maps n) row) in
    ap (λ t. if t then refused_field 20 (rows_of maps) else Some 12) (le-ltb (length (rows_of maps)) (2 ^ 64) counted)

-- ---- rows that were written

appends_none : (a : Option (List ℕ)) → Appends a a []
appends_none None = tt
appends_none (Some xs) = sym (append-nil xs)

pub written_none : (p : Progress) (a : Option (List ℕ)) → AreWritten p p a a []
written_none p a = record {
  written = appends_none a;
  counted = omega arith;
  passed = λ more. refl;
  sized = All-nil (λ row. length row.1.0.0 ≡ 16);
  short = All-nil (λ row. length row.1.1 < 2 ^ 64);
}

module _ (p q : Progress) (a b : Option (List ℕ)) (done : List Row) (before : AreWritten p q a b done) where
  pub written_both : (r : Progress) (c : Option (List ℕ)) (rows : List Row) → AreWritten q r b c rows → AreWritten p r a c (done ++ rows)
  written_both r c rows next = record {
    written = subst (Appends a c) (sym (flat_map-append (row_bytes VersionTwo) done rows)) (Appends-trans a b c (flat_map (row_bytes VersionTwo) done) (flat_map (row_bytes VersionTwo) rows) before.written next.written);
    counted = omega (arith, length-append done rows, before.counted, next.counted);
    passed = λ more. ap (refused_field p.place) (append_assoc done rows more) ∙ before.passed (rows ++ more) ∙ next.passed more;
    sized = All-append (λ row. length row.1.0.0 ≡ 16) done rows before.sized next.sized;
    short = All-append (λ row. length row.1.1 < 2 ^ 64) done rows before.short next.short;
  }

  -- the next rows stopped
  pub stopped_rows : (c : Option (List ℕ)) (rows rest : List Row) → WritesBeginning (flat_map (row_bytes VersionTwo) rows) b c → WritesBeginning (flat_map (row_bytes VersionTwo) (done ++ (rows ++ rest))) a c
  stopped_rows c rows rest w =
      let bytes = flat_map (row_bytes VersionTwo) in
      subst (λ l. WritesBeginning l a c)
      (ap (λ l. bytes done ++ l) (sym (flat_map-append (row_bytes VersionTwo) rows rest)) ∙ sym (flat_map-append (row_bytes VersionTwo) done (rows ++ rest)))
      (stopped_behind a b c (bytes done) (bytes rows ++ bytes rest) before.written (stopped_before b c (bytes rows) (bytes rest) w))

  -- nothing of the next rows was written
  pub stopped_here : (rest : List Row) → WritesBeginning (flat_map (row_bytes VersionTwo) (done ++ rest)) a b
  stopped_here rest = record {
    beginning = flat_map (row_bytes VersionTwo) done;
    rest = flat_map (row_bytes VersionTwo) rest;
    begins = flat_map-append (row_bytes VersionTwo) done rest;
    written = before.written;
  }

  -- the next rows pass a range
  pub refused_rows : (rows rest : List Row) (place : Option ℕ) → ((more : List Row) → refused_field q.place (rows ++ more) ≡ place) → refused_field p.place (done ++ (rows ++ rest)) ≡ place
  refused_rows rows rest place refused = before.passed (rows ++ rest) ∙ refused rest

-- as many rows were written as the front says
module _ (servers count : ℕ) (p q : Progress) (a b c : Option (List ℕ)) (rows : List Row) (front : Appends a b (image_head VersionTwo servers count)) (done : AreWritten p q b c rows) (counted : p.left ≡ count) (all : q.left ≡ 0) where
  pub image_written : Appends a c (image servers rows)
  image_written =
      let as_many : count ≡ length rows = omega (arith, done.counted, counted, all) in
      Appends-trans a b c (image_head VersionTwo servers (length rows)) (flat_map (row_bytes VersionTwo) rows) (subst (λ n. Appends a b (image_head VersionTwo servers n)) as_many front) done.written

  pub image_fits : p.place ≡ 20 → count < 2 ^ 64 → refused_place rows ≡ None
  image_fits at few =
      let passed = done.passed [] in
      place_in_fields rows None (omega (arith, done.counted, counted, all, few)) (ap (λ n. refused_field n rows) (sym at) ∙ ap (refused_field p.place) (sym (append-nil rows)) ∙ passed)
