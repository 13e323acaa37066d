-- Ids by the numbers at which membership turns.
use Rattle.std.proofs.Common.{◌≡◌, ◌≢◌, ◌<◌, ◌≤◌, ◌+◌, ◌^◌, ℕ, suc, zero, Bool, true, false, cond, eq-eqb, IsSome, Option, Some, None, refl, sym, ap, subst, ◌∙◌, arith, rules, ⊎_elim}
use Rattle.std.specs.Prelude.{◌||◌, ◌==◌, unwrap_or}
use Rattle.std.proofs.Math.Bool.{beq}
use Rattle.std.proofs.lemmas.Bool.{ne_eqb, cases_eq, cases_lt}
use Rattle.std.specs.Ordering.{nat_cmp, eq_by_cmp, is_lt, is_gt}
use Rattle.std.proofs.lemmas.Map.Keys.{ge_from_not_lt}
use Rattle.std.specs.Cmp.{nat_cmp_total, unsigned_tied}
use Rattle.std.specs.FinSet as set
use Rattle.gate_base.specs.Ids.{Boundaries, is_among, is_before, numbers_below, ids_of}

-- ---- what holds at a number

last_turn : (t : Boundaries) (x : ℕ) → is_among t x ≡ unwrap_or (t x) (is_before t x)
unfolding is_among
last_turn t zero = refl
last_turn t (suc n) = refl

-- where nothing stands from a number on, what holds there goes on holding
pub goes_on : (t : Boundaries) (f x : ℕ) (b : Bool) → f ≤ x → is_among t f ≡ b → ((q : ℕ) → f < q → q ≤ x → t q ≡ None) → is_among t x ≡ b
goes_on t f zero b up here none = subst (λ n. is_among t n ≡ b) (omega arith) here
goes_on t f (suc n) b up here none =
    ⊎_elim
    (λ same. subst (λ m. is_among t m ≡ b) same here)
    (λ other. last_turn t (suc n) ∙ ap (λ o. unwrap_or o (is_among t n)) (none (suc n) (omega arith) (omega arith)) ∙ goes_on t f n b (omega arith) here (λ q above below. none q above (omega arith)))
    (cases_eq f (suc n))

pub turned_last : (t : Boundaries) (f x : ℕ) (b : Bool) → f ≤ x → t f ≡ Some b → ((q : ℕ) → f < q → q ≤ x → t q ≡ None) → is_among t x ≡ b
turned_last t f x b up here none = goes_on t f x b up (last_turn t f ∙ ap (λ o. unwrap_or o (is_before t f)) here) none

pub never_turned : (t : Boundaries) (x : ℕ) → ((q : ℕ) → q ≤ x → t q ≡ None) → is_among t x ≡ false
never_turned t x none = goes_on t 0 x false (omega arith) (last_turn t 0 ∙ ap (λ o. unwrap_or o false) (none 0 (omega arith))) (λ q above below. none q below)

pub same_bool : (a b : Bool) → beq a b ≡ true → a ≡ b
same_bool true true e = refl
same_bool true false e = cc
same_bool false true e = cc
same_bool false false e = refl

-- no key stands between the greatest up to a number and that number
pub none_over : (o : Option Bool) (f q : ℕ) → f < q → (IsSome o → is_lt (nat_cmp f q) ≡ false) → o ≡ None
none_over None f q above greatest = refl
none_over (Some b) f q above greatest = let up = ge_from_not_lt f q (greatest refl) in absurd (omega arith)

pub up_to : (q x : ℕ) → q ≤ x → is_gt (nat_cmp q x) ≡ false
up_to q x up = grind (arith, rules)

pub before_next : (t : Boundaries) (last x : ℕ) → last + 1 ≡ x → is_among t last ≡ is_before t x
before_next t last zero next = absurd (omega arith)
before_next t last (suc n) next = ap (is_among t) (omega arith)

pub before_first : (t : Boundaries) (x : ℕ) → (1 ≤ x → ⊥) → false ≡ is_before t x
before_first t zero none = refl
before_first t (suc n) none = absurd (none (omega arith))

-- ---- one turn is written or dropped

apart_keys : (q n : ℕ) → q ≢ n → eq_by_cmp nat_cmp q n ≡ false
apart_keys q n other = unsigned_tied q n ∙ ne_eqb q n other

-- u is t with this at a number
pub record Turned (t u : Boundaries) (k : ℕ) (w : Option Bool) : Type 0 where
  pub here : u k ≡ w
  pub others : (q : ℕ) → q ≢ k → u q ≡ t q

pub turned : (t u : Boundaries) (k : ℕ) (w : Option Bool) → u k ≡ w → ((q : ℕ) → eq_by_cmp nat_cmp k q ≡ false → u q ≡ t q) → Turned t u k w
turned t u k w here others = record { here = here; others = λ q other. others q (apart_keys k q (λ is. other (sym is))) }

stays_at : (t u : Boundaries) (k : ℕ) (w : Option Bool) → Turned t u k w → unwrap_or w (is_before t k) ≡ is_among t k → (x : ℕ) → is_before u x ≡ is_before t x → is_among u x ≡ is_among t x
stays_at t u k w turned same x before =
    last_turn u x ∙ ap (unwrap_or (u x)) before
    ∙ ⊎_elim
    (λ is. ap (λ o. unwrap_or o (is_before t x)) (subst (λ n. u n ≡ w) (sym is) turned.here) ∙ subst (λ n. unwrap_or w (is_before t n) ≡ is_among t n) (sym is) same)
    (λ other. ap (λ o. unwrap_or o (is_before t x)) (turned.others x other) ∙ sym (last_turn t x))
    (cases_eq x k)

-- by what held there before, nothing changes
pub stays : (t u : Boundaries) (k : ℕ) (w : Option Bool) → Turned t u k w → unwrap_or w (is_before t k) ≡ is_among t k → (x : ℕ) → is_among u x ≡ is_among t x
stays t u k w turned same zero = stays_at t u k w turned same zero refl
stays t u k w turned same (suc n) = stays_at t u k w turned same (suc n) (stays t u k w turned same n)

pub written_same : (t u : Boundaries) (k : ℕ) (b : Bool) → Turned t u k (Some b) → b ≡ is_among t k → (x : ℕ) → is_among u x ≡ is_among t x
written_same t u k b turned is = stays t u k (Some b) turned is

pub dropped_same : (t u : Boundaries) (k : ℕ) (b : Bool) → Turned t u k None → t k ≡ Some b → b ≡ is_before t k → (x : ℕ) → is_among u x ≡ is_among t x
dropped_same t u k b turned here is = stays t u k None turned (sym is ∙ sym (last_turn t k ∙ ap (λ o. unwrap_or o (is_before t k)) here))

some_alone : (o : Option Bool) (a b : Bool) → IsSome o → unwrap_or o a ≡ unwrap_or o b
some_alone None a b some = cc
some_alone (Some c) a b some = refl

adds_at : (t u : Boundaries) (k n : ℕ) → Turned t u k (Some true) → (k + 1 < n → IsSome (t (k + 1))) → (x : ℕ) → x < n
    → (x ≢ k → x ≢ k + 1 → is_before u x ≡ is_before t x) → is_among u x ≡ ((x == k) || is_among t x)
adds_at t u k n turned parted x fits before =
    last_turn u x
    ∙ ⊎_elim
    (λ is. ap (λ o. unwrap_or o (is_before u x)) (subst (λ j. u j ≡ Some true) (sym is) turned.here) ∙ sym (ap (λ b. b || is_among t x) (eq-eqb x k is)))
    (λ other. ap (λ o. unwrap_or o (is_before u x)) (turned.others x other)
    ∙ ⊎_elim
    (λ next. some_alone (t x) (is_before u x) (is_before t x) (subst (λ j. IsSome (t j)) (sym next) (parted (subst (λ j. j < n) next fits))))
    (λ apart. ap (unwrap_or (t x)) (before other apart))
    (cases_eq x (k + 1))
    ∙ sym (last_turn t x) ∙ sym (ap (λ b. b || is_among t x) (ne_eqb x k other)))
    (cases_eq x k)

-- by a turn at a number behind which one stands, the number is added
pub adds : (t u : Boundaries) (k n : ℕ) → Turned t u k (Some true) → (k + 1 < n → IsSome (t (k + 1))) → (x : ℕ) → x < n → is_among u x ≡ ((x == k) || is_among t x)
adds t u k n turned parted zero fits = adds_at t u k n turned parted zero fits (λ _ _. refl)
adds t u k n turned parted (suc m) fits =
    adds_at t u k n turned parted (suc m) fits
    (λ _ apart. adds t u k n turned parted m (omega arith) ∙ ap (λ b. b || is_among t m) (ne_eqb m k (λ is. apart (omega arith))))

-- ---- the ids

contains_other : (s : set.FinSet nat_cmp) (b : Bool) (n q : ℕ) → q ≢ n → set.contains (cond b (set.insert s n) s) q ≡ set.contains s q
contains_other s true n q other = set.contains-insert nat_cmp_total s n q ∙ ap (λ b. b || set.contains s q) (apart_keys q n other)
contains_other s false n q other = refl

contains_here : (s : set.FinSet nat_cmp) (b : Bool) (q : ℕ) → set.contains s q ≡ false → set.contains (cond b (set.insert s q) s) q ≡ b
contains_here s true q none = set.contains-insert nat_cmp_total s q q ∙ ap (λ b. b || set.contains s q) (unsigned_tied q q ∙ eq-eqb q q refl)
contains_here s false q none = none

none_above : (n : ℕ) (test : ℕ → Bool) (q : ℕ) → n ≤ q → set.contains (numbers_below n test) q ≡ false
unfolding numbers_below
none_above zero test q up = set.contains-empty nat_cmp q
none_above (suc n) test q up = contains_other (numbers_below n test) (test n) n q (λ is. absurd (omega arith)) ∙ none_above n test q (omega arith)

those_below : (n : ℕ) (test : ℕ → Bool) (q : ℕ) → q < n → set.contains (numbers_below n test) q ≡ test q
unfolding numbers_below
those_below zero test q fits = absurd (omega arith)
those_below (suc n) test q fits =
    ⊎_elim
    (λ is. subst (λ m. set.contains (cond (test m) (set.insert (numbers_below m test) m) (numbers_below m test)) q ≡ test q) is
    (contains_here (numbers_below q test) (test q) q (none_above q test q (omega arith))))
    (λ other. contains_other (numbers_below n test) (test n) n q other ∙ those_below n test q (omega arith))
    (cases_eq q n)

pub contains_id : (t : Boundaries) (id : ℕ) → id < 2 ^ 64 → set.contains (ids_of t) id ≡ is_among t id
unfolding ids_of
contains_id t id fits = those_below (2 ^ 64) (is_among t) id fits

pub same_ids : (t u : Boundaries) → ((x : ℕ) → is_among u x ≡ is_among t x) → ids_of u ≡ ids_of t
unfolding ids_of
same_ids t u same =
    set.same_set nat_cmp_total set.nat_cmp-IsAntisymmetric _ _ (λ q.
    ⊎_elim
    (λ fits. those_below (2 ^ 64) (is_among u) q fits ∙ same q ∙ sym (those_below (2 ^ 64) (is_among t) q fits))
    (λ above. none_above (2 ^ 64) (is_among u) q above ∙ sym (none_above (2 ^ 64) (is_among t) q above))
    (cases_lt q (2 ^ 64)))

pub ids_added : (t u : Boundaries) (id : ℕ) → id < 2 ^ 64 → ((x : ℕ) → x < 2 ^ 64 → is_among u x ≡ ((x == id) || is_among t x)) → ids_of u ≡ set.insert (ids_of t) id
unfolding ids_of
ids_added t u id small added =
    set.same_set nat_cmp_total set.nat_cmp-IsAntisymmetric _ _ (λ q.
    ⊎_elim
    (λ fits. those_below (2 ^ 64) (is_among u) q fits ∙ added q fits ∙ ap (λ b. (q == id) || b) (sym (those_below (2 ^ 64) (is_among t) q fits)) ∙ ap (λ b. b || set.contains (ids_of t) q) (sym (unsigned_tied q id)))
    (λ above. none_above (2 ^ 64) (is_among u) q above ∙ sym (ap (λ b. b || set.contains (ids_of t) q) (apart_keys q id (λ is. absurd (omega arith))) ∙ none_above (2 ^ 64) (is_among t) q above))
    (cases_lt q (2 ^ 64))
    ∙ sym (set.contains-insert nat_cmp_total (ids_of t) id q))

pub no_ids : (t : Boundaries) → ((x : ℕ) → t x ≡ None) → ids_of t ≡ set.empty
unfolding ids_of
no_ids t none =
    set.same_set nat_cmp_total set.nat_cmp-IsAntisymmetric _ _ (λ q.
    ⊎_elim
    (λ fits. those_below (2 ^ 64) (is_among t) q fits ∙ never_turned t q (λ x _. none x))
    (none_above (2 ^ 64) (is_among t) q)
    (cases_lt q (2 ^ 64))
    ∙ sym (set.contains-empty nat_cmp q))
