-- Bytes that are written in parts, some of them not at all.
use Rattle.std.proofs.Common.{◌≡◌, ◌⊎◌, inl, inr, get_or, ◌<◌, ◌+◌, ℕ, zero, suc, List, [], ◌∷◌, ◌++◌, length, take, drop, map, Option, Some, slice_get, Result, Ok, Err, OnErr, OnOk, IsErrOf, IsErrAnd, ◌^◌, nat_lt, true, if◌then◌else◌, refl, sym, ap, subst, ◌∙◌, arith, add-one, append_assoc}
use Rattle.std.specs.List.{flat_map}
use Rattle.std.specs.Option.{option_map}
use Rattle.std.specs.Io.KnownBytes.{Appends}
use Rattle.std.proofs.KnownBytes.{Appends-trans}
use Rattle.std.proofs.lemmas.Bool.{lt-ltb}
use Rattle.std.proofs.lemmas.Option.{slice_get-map, get_or_from_slice_get}
use Rattle.grid.specs.Rows.{Row}
use Rattle.grid.specs.Image.{refused_field, refused_place}
use Rattle.grid.specs.Written.{WritesBeginning}

-- a beginning of what stands first
pub stopped_before : (a b : Option (List ℕ)) (front back : List ℕ) → WritesBeginning front a b → WritesBeginning (front ++ back) a b
stopped_before a b front back w = record {
  beginning = w.beginning;
  rest = w.rest ++ back;
  begins = ap (λ l. l ++ back) w.begins ∙ append_assoc w.beginning w.rest back;
  written = w.written;
}

-- a beginning of what stands behind what was written
pub stopped_behind : (a b c : Option (List ℕ)) (front back : List ℕ) → Appends a b front → WritesBeginning back b c → WritesBeginning (front ++ back) a c
stopped_behind a b c front back done w = record {
  beginning = front ++ w.beginning;
  rest = w.rest;
  begins = ap (λ l. front ++ l) w.begins ∙ sym (append_assoc front w.beginning w.rest);
  written = Appends-trans a b c front w.beginning done w.written;
}

pub on_err : {T E : Type 0} (result : Result T E) (P : Type 0) → P → OnErr result P
on_err (Ok x) P p = tt
on_err (Err e) P p = p

-- the elements before, at and behind a place
pub drop_here : {A : Type 0} (xs : List A) (i : ℕ) (x : A) → slice_get xs i ≡ Some x → drop i xs ≡ x ∷ drop (i + 1) xs
drop_here {A} xs i x at = here xs i at ∙ ap (λ n. x ∷ drop n xs) (sym (add-one i))
  where
    here : (ys : List A) (j : ℕ) → slice_get ys j ≡ Some x → drop j ys ≡ x ∷ drop (suc j) ys
    here [] j at = cc
    here (y ∷ ys) zero at = let same : y ≡ x = cc in ap (λ z. z ∷ ys) same
    here (y ∷ ys) (suc j) at = here ys j at

pub joined_more : {A : Type 0} (f : A → List ℕ) (xs : List A) (i : ℕ) (x : A) → slice_get xs i ≡ Some x → flat_map f (take i xs) ++ f x ≡ flat_map f (take (i + 1) xs)
joined_more {A} f xs i x at = more xs i at ∙ ap (λ n. flat_map f (take n xs)) (sym (add-one i))
  where
    more : (ys : List A) (j : ℕ) → slice_get ys j ≡ Some x → flat_map f (take j ys) ++ f x ≡ flat_map f (take (suc j) ys)
    more [] j at = cc
    more (y ∷ ys) zero at = let same : y ≡ x = cc in ap f (sym same) ∙ sym (append-end (f y))
      where
        append-end : (zs : List ℕ) → zs ++ [] ≡ zs
        append-end [] = refl
        append-end (z ∷ zs) = ap (λ l. z ∷ l) (append-end zs)
    more (y ∷ ys) (suc j) at = append_assoc (f y) (flat_map f (take j ys)) (f x) ∙ ap (λ l. f y ++ l) (more ys j at)

pub joined_split : {A : Type 0} (f : A → List ℕ) (xs : List A) (i : ℕ) (x : A) → slice_get xs i ≡ Some x → flat_map f xs ≡ flat_map f (take i xs) ++ (f x ++ flat_map f (drop (i + 1) xs))
joined_split {A} f xs i x at = split xs i at ∙ ap (λ n. flat_map f (take i xs) ++ (f x ++ flat_map f (drop n xs))) (sym (add-one i))
  where
    split : (ys : List A) (j : ℕ) → slice_get ys j ≡ Some x → flat_map f ys ≡ flat_map f (take j ys) ++ (f x ++ flat_map f (drop (suc j) ys))
    split [] j at = cc
    split (y ∷ ys) zero at = let same : y ≡ x = cc in ap (λ z. f z ++ flat_map f ys) same
    split (y ∷ ys) (suc j) at = ap (λ l. f y ++ l) (split ys j at) ∙ sym (append_assoc (f y) (flat_map f (take j ys)) (f x ++ flat_map f (drop (suc j) ys)))

pub get_mapped : {A B : Type 0} (f : A → B) (xs : List A) (i : ℕ) (x : A) → slice_get xs i ≡ Some x → slice_get (map f xs) i ≡ Some (f x)
get_mapped f xs i x at = slice_get-map f xs i ∙ ap (option_map f) at

-- a row failed behind those that were written
pub stopped_in : {A : Type 0} (a b c : Option (List ℕ)) (front : List ℕ) (f : A → List ℕ) (xs : List A) (i : ℕ) (x : A) → slice_get xs i ≡ Some x
    → Appends a b (front ++ flat_map f (take i xs)) → WritesBeginning (f x) b c → WritesBeginning (front ++ flat_map f xs) a c
stopped_in a b c front f xs i x at done w =
    let back = flat_map f (drop (i + 1) xs) in
    let before = front ++ flat_map f (take i xs) in
    subst (λ l. WritesBeginning l a c)
    (append_assoc front (flat_map f (take i xs)) (f x ++ back) ∙ ap (λ l. front ++ l) (sym (joined_split f xs i x at)))
    (stopped_behind a b c before (f x ++ back) done (stopped_before b c (f x) back w))

pub written_more : {A : Type 0} (a b c : Option (List ℕ)) (front : List ℕ) (f : A → List ℕ) (xs : List A) (i : ℕ) (x : A) → slice_get xs i ≡ Some x
    → Appends a b (front ++ flat_map f (take i xs)) → Appends b c (f x) → Appends a c (front ++ flat_map f (take (i + 1) xs))
written_more a b c front f xs i x at done more =
    subst (Appends a c) (append_assoc front (flat_map f (take i xs)) (f x) ∙ ap (λ l. front ++ l) (joined_more f xs i x at))
    (Appends-trans a b c (front ++ flat_map f (take i xs)) (f x) done more)

-- the cause of an error that `?` passed on
pub passed_cause : {T E : Type 0} (result : Result T E) (error cause : E) → IsErrAnd result (λ e. e ≡ error) → IsErrOf result cause → error ≡ cause
passed_cause (Ok x) error cause same is = absurd same
passed_cause (Err e) error cause same is = let named : e ≡ cause = cc in sym same ∙ named

-- where the shares are few enough
pub place_in_fields : (rows : List Row) (place : Option ℕ) → length rows < 2 ^ 64 → refused_field 20 rows ≡ place → refused_place rows ≡ place
place_in_fields rows place few is = let tested : nat_lt (length rows) (2 ^ 64) ≡ true = lt-ltb (length rows) (2 ^ 64) few in ap (λ t. if t then refused_field 20 rows else Some 12) tested ∙ is

-- what holds of each element so far, and of the next, holds of one more
pub one_more : {A : Type 0} (P : A → Type 0) (xs : List A) (i : ℕ) (x : A) → slice_get xs i ≡ Some x → ((k : ℕ) (d : A) → k < i → P (get_or xs k d)) → P x → (k : ℕ) (d : A) → k < i + 1 → P (get_or xs k d)
one_more P xs i x at before here k d lt = by_case (grind arith)
  where
    by_case : (k < i) ⊎ (k ≡ i) → P (get_or xs k d)
    by_case (inl less) = before k d less
    by_case (inr same) = subst P (sym (ap (λ j. get_or xs j d) same ∙ get_or_from_slice_get xs i x d at)) here

-- what follows from three facts of a call that was not refused
pub ok_all : {T E : Type 0} (result : Result T E) (P Q R S : Type 0) → OnOk result P → OnOk result Q → OnOk result R → (P → Q → R → S) → OnOk result S
ok_all (Ok x) P Q R S p q r f = f p q r
ok_all (Err e) P Q R S p q r f = tt

-- what follows of an answer's clause
pub ok_then : {T E : Type 0} (r : Result T E) (P Q : Type 0) → (P → Q) → OnOk r P → OnOk r Q
ok_then (Ok x) P Q f p = f p
ok_then (Err e) P Q f p = tt

pub err_then : {T E : Type 0} (r : Result T E) (P Q : Type 0) → (P → Q) → OnErr r P → OnErr r Q
err_then (Ok x) P Q f p = tt
err_then (Err e) P Q f p = f p
