-- Lists, options and tests.
use Rattle.std.proofs.Common.{◌≡◌, ◌⊎◌, inl, inr, ℕ, zero, suc, ◌+◌, ◌-◌, ◌<◌, ◌≤◌, length, take, List, [], ◌∷◌, ◌++◌, map, Bool, true, false, cond, Option, Some, None, refl, sym, ap, subst, ◌∙◌, arith, ⊎_elim}
use Rattle.std.proofs.lemmas.Bool.{cases_lt}
use Rattle.std.proofs.lemmas.List.{map-id, append-nil, take_at, length-take-le, get_or-take}
use Rattle.std.specs.Prelude.{option_to_list, filter, flat_map, Contains, All, AllPairs, IfSome, ◌≢◌}
use Rattle.std.specs.List.{range_with_len, filter_map, cons_option}
use Rattle.std.proofs.lemmas.List.Elements.{Contains-append_left, Contains-append_right, All-nil, All-cons, filter_map-append}
use Rattle.std.proofs.lemmas.List.FromFn.{length-range_with_len, get_or-range_with_len, map-range_with_len_more}
use Rattle.std.proofs.lemmas.List.Kept.{AllPairs-filter}

pub true_or_false : (b : Bool) (P : Type 0) → (b ≡ true → P) → (b ≡ false → P) → P
true_or_false true P first second = first refl
true_or_false false P first second = second refl

-- ---- members

module _ {X : Type 0} where
  pub Contains-here : (x : X) (xs : List X) → Contains (x ∷ xs) x
  Contains-here x xs = (0, grind arith, refl)

  pub Contains-there : (y : X) (xs : List X) (x : X) → Contains xs x → Contains (y ∷ xs) x
  Contains-there y xs x there = Contains-append_right (y ∷ []) xs x there

  pub Contains-cons_cases : (y : X) (xs : List X) (x : X) → Contains (y ∷ xs) x → Contains xs x ⊎ (y ≡ x)
  Contains-cons_cases y xs x (zero, below, is) = inr is
  Contains-cons_cases y xs x (suc k, below, is) = inl (k, grind arith, is)

module _ {X Y : Type 0} where
  pub Contains-flat_map : (f : X → List Y) (xs : List X) (x : X) (y : Y) → Contains xs x → Contains (f x) y → Contains (flat_map f xs) y
  Contains-flat_map f [] x y (k, below, is) here = grind arith
  Contains-flat_map f (z ∷ xs) x y there here =
      ⊎_elim
      (λ more. Contains-append_right (f z) (flat_map f xs) y (Contains-flat_map f xs x y more here))
      (λ same. Contains-append_left (f z) (flat_map f xs) y (subst (λ q. Contains (f q) y) (sym same) here))
      (Contains-cons_cases z xs x there)

pub Contains-range : (a n i : ℕ) → a ≤ i → i < a + n → Contains (range_with_len a n) i
Contains-range a n i low high =
    let long = length-range_with_len a n in
    let at = get_or-range_with_len a n (i - a) i (omega arith) in
    (i - a, omega arith, omega arith)

pub All-range : (P : ℕ → Type 0) (a n : ℕ) → ((i : ℕ) → a ≤ i → i < a + n → P i) → All P (range_with_len a n)
All-range P a n each k d below =
    let long = length-range_with_len a n in
    subst P (sym (get_or-range_with_len a n k d (omega arith))) (each (a + k) (omega arith) (omega arith))

cons_all : {X : Type 0} (P : X → Type 0) (o : Option X) (xs : List X) → IfSome o P → All P xs → All P (cons_option o xs)
cons_all P None xs is all = all
cons_all P (Some x) xs is all = All-cons P x xs is all

pub All-filter_map : {X Y : Type 0} (P : Y → Type 0) (f : X → Option Y) (xs : List X) → ((x : X) → IfSome (f x) P) → All P (filter_map f xs)
All-filter_map P f [] each = All-nil P
All-filter_map P f (x ∷ xs) each = cons_all P (f x) (filter_map f xs) (each x) (All-filter_map P f xs each)

-- ---- numbers that rise are apart

range_apart : (a n : ℕ) → AllPairs (λ x y. x ≢ y) (range_with_len a n)
range_apart a n i j d lt below e =
    let long = length-range_with_len a n in
    let one = get_or-range_with_len a n i d (omega arith) in
    let other = get_or-range_with_len a n j d (omega arith) in
    omega arith

pub filtered_apart : (p : ℕ → Bool) (a n : ℕ) → AllPairs (λ x y. x ≢ y) (filter p (range_with_len a n))
filtered_apart p a n = AllPairs-filter (λ x y. x ≢ y) p (range_with_len a n) (range_apart a n)

-- ---- the first of them

pub pairs_taken : (n : ℕ) (xs : List ℕ) → n ≤ length xs → AllPairs (λ x y. x ≢ y) xs → AllPairs (λ x y. x ≢ y) (take n xs)
pairs_taken n xs fits apart i j d lt below e =
    let inside : j < n = (let h = length-take-le n xs fits in omega arith) in
    apart i j d lt (omega arith) (sym (get_or-take n xs i d (omega arith)) ∙ e ∙ get_or-take n xs j d inside)

-- ---- ranges

pub range_next : (n : ℕ) → range_with_len 0 (n + 1) ≡ range_with_len 0 n ++ n ∷ []
range_next n =
    sym (map-id (range_with_len 0 (n + 1)))
    ∙ map-range_with_len_more (λ k. k) 0 n n (omega arith)
    ∙ ap (λ ks. ks ++ n ∷ []) (map-id (range_with_len 0 n))

pub range_split : (a m n : ℕ) → range_with_len a (m + n) ≡ range_with_len a m ++ range_with_len (a + m) n
range_split a zero n =
    let e : zero + n ≡ n = omega arith in let g : a ≡ a + zero = omega arith in λ i. range_with_len (g i) (e i)
range_split a (suc m) n =
    let e : suc m + n ≡ suc (m + n) = omega arith in
    let g : a + 1 + m ≡ a + suc m = omega arith in
    ap (range_with_len a) e ∙ ap (λ ks. a ∷ ks) (range_split (a + 1) m n) ∙ ap (λ b. (a ∷ range_with_len (a + 1) m) ++ range_with_len b n) g

-- what is equal below a bound gives equal lists
pub mapped_alike : {X : Type 0} (f g : ℕ → X) (bound a n : ℕ) → a + n ≤ bound → ((i : ℕ) → i < bound → f i ≡ g i) → map f (range_with_len a n) ≡ map g (range_with_len a n)
mapped_alike f g bound a zero fits each = refl
mapped_alike f g bound a (suc n) fits each =
    let here = each a (omega arith) in let more = mapped_alike f g bound (a + 1) n (omega arith) each in λ i. here i ∷ more i

pub kept_alike : {X : Type 0} (f g : ℕ → Option X) (bound a n : ℕ) → a + n ≤ bound → ((i : ℕ) → i < bound → f i ≡ g i) → filter_map f (range_with_len a n) ≡ filter_map g (range_with_len a n)
kept_alike f g bound a zero fits each = refl
kept_alike f g bound a (suc n) fits each =
    let here = each a (omega arith) in let more = kept_alike f g bound (a + 1) n (omega arith) each in λ i. cons_option (here i) (more i)

-- what is kept of some numbers and is made of the number is made of those numbers
cons_kept : {Y : Type 0} (f : ℕ → Y) (a : ℕ) (b : Bool) (rest : List ℕ) → cons_option (cond b (Some (f a)) None) (map f rest) ≡ map f (cond b (a ∷ rest) rest)
cons_kept f a true rest = refl
cons_kept f a false rest = refl

pub kept_range : {Y : Type 0} (f : ℕ → Y) (t : ℕ → Bool) (ns : List ℕ) → filter_map (λ i. cond (t i) (Some (f i)) None) ns ≡ map f (filter t ns)
kept_range f t [] = refl
kept_range f t (a ∷ ns) = ap (cons_option (cond (t a) (Some (f a)) None)) (kept_range f t ns) ∙ cons_kept f a (t a) (filter t ns)

pub flat_alike : {X : Type 0} (f g : ℕ → List X) (bound a n : ℕ) → a + n ≤ bound → ((i : ℕ) → i < bound → f i ≡ g i) → flat_map f (range_with_len a n) ≡ flat_map g (range_with_len a n)
flat_alike f g bound a zero fits each = refl
flat_alike f g bound a (suc n) fits each =
    let here = each a (omega arith) in let more = flat_alike f g bound (a + 1) n (omega arith) each in λ i. here i ++ more i

pub filter_alike : (f g : ℕ → Bool) (bound a n : ℕ) → a + n ≤ bound → ((i : ℕ) → i < bound → f i ≡ g i) → filter f (range_with_len a n) ≡ filter g (range_with_len a n)
filter_alike f g bound a zero fits each = refl
filter_alike f g bound a (suc n) fits each =
    let here = each a (omega arith) in let more = filter_alike f g bound (a + 1) n (omega arith) each in λ i. cond (here i) (a ∷ more i) (more i)

-- ---- one number more

pub cons_alone : {X : Type 0} (o : Option X) → cons_option o [] ≡ option_to_list o
cons_alone None = refl
cons_alone (Some x) = refl

module _ {X : Type 0} (f : ℕ → Option X) where
  pub one_more : (n : ℕ) → filter_map f (range_with_len 0 (n + 1)) ≡ filter_map f (range_with_len 0 n) ++ option_to_list (f n)
  one_more n =
      ap (filter_map f) (range_next n) ∙ filter_map-append f (range_with_len 0 n) (n ∷ [])
      ∙ ap (λ ys. filter_map f (range_with_len 0 n) ++ ys) (cons_alone (f n))

  -- where k stand below some number they are the first k of all
  pub enough_below : (k m n : ℕ) → m ≤ n → length (filter_map f (range_with_len 0 m)) ≡ k → filter_map f (range_with_len 0 m) ≡ take k (filter_map f (range_with_len 0 n))
  enough_below k m n fits many =
      let e : n ≡ m + (n - m) = omega arith in
      sym (ap (λ j. take k (filter_map f (range_with_len 0 j))) e
      ∙ ap (λ ns. take k (filter_map f ns)) (range_split 0 m (n - m))
      ∙ ap (take k) (filter_map-append f (range_with_len 0 m) (range_with_len (0 + m) (n - m)))
      ∙ take_at (filter_map f (range_with_len 0 m)) (filter_map f (range_with_len (0 + m) (n - m))) k many)

  none_from : (a n : ℕ) → ((i : ℕ) → a ≤ i → f i ≡ None) → filter_map f (range_with_len a n) ≡ []
  none_from a zero none = refl
  none_from a (suc n) none =
      ap (λ o. cons_option o (filter_map f (range_with_len (a + 1) n))) (none a (omega arith)) ∙ none_from (a + 1) n (λ i past. none i (omega arith))

  -- where there is nothing from some number on, no more are looked at
  pub none_past : (m n : ℕ) → m ≤ n → ((i : ℕ) → m ≤ i → f i ≡ None) → filter_map f (range_with_len 0 n) ≡ filter_map f (range_with_len 0 m)
  none_past m n fits none =
      let e : n ≡ m + (n - m) = omega arith in
      ap (λ j. filter_map f (range_with_len 0 j)) e
      ∙ ap (filter_map f) (range_split 0 m (n - m))
      ∙ filter_map-append f (range_with_len 0 m) (range_with_len (0 + m) (n - m))
      ∙ ap (λ ys. filter_map f (range_with_len 0 m) ++ ys) (none_from (0 + m) (n - m) (λ i past. none i (omega arith)))
      ∙ append-nil (filter_map f (range_with_len 0 m))

-- ---- up to a limit

cons_before : {X : Type 0} (o : Option X) (xs ys : List X) → cons_option o (xs ++ ys) ≡ cons_option o xs ++ ys
cons_before None xs ys = refl
cons_before (Some x) xs ys = refl

none_up_to : {X : Type 0} (f : ℕ → Option X) (bound a n : ℕ) → a + n ≤ bound → ((i : ℕ) → a ≤ i → i < bound → f i ≡ None) → filter_map f (range_with_len a n) ≡ []
none_up_to f bound a zero fits none = refl
none_up_to f bound a (suc n) fits none =
    ap (λ o. cons_option o (filter_map f (range_with_len (a + 1) n))) (none a (omega arith) (omega arith))
    ∙ none_up_to f bound (a + 1) n (omega arith) (λ i past below. none i (omega arith) below)

-- where there is the same below a limit, and nothing past it, that is the beginning of all
module _ {X : Type 0} (low all : ℕ → Option X) (limit bound : ℕ) (same : (i : ℕ) → i < bound → i < limit → low i ≡ all i) (none : (i : ℕ) → i < bound → limit ≤ i → low i ≡ None) where
  abbrev IsBegun : ℕ → ℕ → Type 0
  IsBegun a n = (more : List X) × (filter_map all (range_with_len a n) ≡ filter_map low (range_with_len a n) ++ more)

  begun_here : (a n : ℕ) → a < bound → a < limit → IsBegun (a + 1) n → IsBegun a (suc n)
  begun_here a n fits below (more, is) = (
    more,
    ap (cons_option (all a)) is
        ∙ cons_before (all a) (filter_map low (range_with_len (a + 1) n)) more
        ∙ ap (λ o. cons_option o (filter_map low (range_with_len (a + 1) n)) ++ more) (sym (same a fits below)),
  )

  begun_past : (a n : ℕ) → a + n ≤ bound → limit ≤ a → IsBegun a n
  begun_past a n fits past = (
    filter_map all (range_with_len a n),
    ap (λ xs. xs ++ filter_map all (range_with_len a n)) (sym (none_up_to low bound a n fits (λ i high below. none i below (omega arith)))),
  )

  pub begun : (a n : ℕ) → a + n ≤ bound → IsBegun a n
  begun a zero fits = ([], refl)
  begun a (suc n) fits = by_case (cases_lt a limit) (begun (a + 1) n (omega arith))
    where
      by_case : (a < limit) ⊎ (limit ≤ a) → IsBegun (a + 1) n → IsBegun a (suc n)
      by_case (inl below) later = begun_here a n (omega arith) below later
      by_case (inr past) later = begun_past a (suc n) fits past
