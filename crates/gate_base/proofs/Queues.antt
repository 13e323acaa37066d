-- A queue that is taken from its front.
use Rattle.std.proofs.Common.{◌≡◌, ℕ, ◌≤◌, ◌+◌, ◌-◌, List, [], ◌∷◌, ◌++◌, length, take, drop, min, sym, ap, ◌∙◌, ⊎_elim, ◌⊎◌, inl, inr, length-append, arith, ◌↔◌, Bool, true, false, not, IsTrue, refl, append-nil, append_assoc, ◌≢◌, Option, Some, None}
use Rattle.std.specs.Prelude.{nat_eq, is_some, unwrap_or}
use Rattle.std.proofs.Math.Seq.{take-append-add, drop-append-add}
use Rattle.std.proofs.lemmas.List.{length-take, length-drop, take_all, drop_all, take-append-le, drop-append-le}
use Rattle.std.proofs.lemmas.Bool.{cases_lt}
use Rattle.std.proofs.lemmas.Bool.Decides.{nat_tests}

nothing_left : (n : ℕ) (xs : List ℕ) → IsTrue (nat_eq n (length xs)) → drop n xs ≡ []
nothing_left n xs all = drop_all n xs (grind (arith, nat_tests))

all_given : (n : ℕ) (xs : List ℕ) → n ≤ length xs → drop n xs ≡ [] → IsTrue (nat_eq n (length xs))
all_given n xs within none = let l = length-drop n xs in let z = ap length none in grind (arith, nat_tests)

pub is_empty_iff : (n m : ℕ) (xs : List ℕ) → m ≡ length xs → n ≤ length xs → IsTrue (nat_eq n m) ↔ (drop n xs ≡ [])
is_empty_iff n m xs is within = rw is (nothing_left n xs, all_given n xs within)

nil_front : (a b : List ℕ) → a ++ b ≡ [] → a ≡ []
nil_front [] b none = refl
nil_front (x ∷ a) b none = cc

-- what is taken of two queues, one behind the other
pub take_both : (n : ℕ) (a b x y : List ℕ) → x ≡ take n a → y ≡ take (n - length x) b → x ++ y ≡ take n (a ++ b)
take_both n a b x y front back =
    ⊎_elim
    (λ short.
    let long : length x ≡ n = omega (arith, ap length front, length-take n a) in
    let nothing : n - length x ≡ 0 = omega arith in
    let none : y ≡ [] = back ∙ ap (λ (k : ℕ). take k b) nothing in
    ap (λ (r : List ℕ). x ++ r) none ∙ append-nil x ∙ front ∙ sym (take-append-le n a b (omega arith)))
    (λ full.
    let whole : x ≡ a = front ∙ take_all n a full in
    let over : length a + (n - length a) ≡ n = omega arith in
    ap (λ (r : List ℕ). x ++ r) back ∙ ap (λ (r : List ℕ). r ++ take (n - length r) b) whole ∙ sym (take-append-add a b (n - length a))
    ∙ ap (λ (k : ℕ). take k (a ++ b)) over)
    (cases_lt n (length a))

same_rest : (n m : ℕ) (xs : List ℕ) → m ≡ min n (length xs) → drop m xs ≡ drop n xs
same_rest n m xs is =
    ⊎_elim
    (λ short. ap (λ (k : ℕ). drop k xs) (omega arith))
    (λ full. drop_all m xs (omega arith) ∙ sym (drop_all n xs full))
    (cases_lt n (length xs))

-- what they have left
pub drop_both : (n : ℕ) (a b x y : List ℕ) → x ≡ take n a → y ≡ take (n - length x) b → drop (length x) a ++ drop (length y) b ≡ drop n (a ++ b)
drop_both n a b x y front back =
    ⊎_elim
    (λ short.
    let long : length x ≡ n = omega (arith, ap length front, length-take n a) in
    let none : length y ≡ 0 = omega (arith, ap length back, length-take (n - length x) b) in
    ap (λ (k : ℕ). drop (length x) a ++ drop k b) none ∙ ap (λ (k : ℕ). drop k a ++ b) long ∙ sym (drop-append-le n a b (omega arith)))
    (λ full.
    let whole : x ≡ a = front ∙ take_all n a full in
    let over : length a + (n - length a) ≡ n = omega arith in
    let size : length x ≡ length a = ap length whole in
    let gone : drop (length x) a ≡ [] = drop_all (length x) a (omega arith) in
    ap (λ (r : List ℕ). r ++ drop (length y) b) gone ∙ same_rest (n - length a) (length y) b (omega (arith, ap length back, length-take (n - length x) b))
    ∙ sym (drop-append-add a b (n - length a)) ∙ ap (λ (k : ℕ). drop k (a ++ b)) over)
    (cases_lt n (length a))

-- ---- what is at hand of three parts

pub nil_middle : (a b d : List ℕ) → a ++ (b ++ d) ≡ [] → b ≡ []
nil_middle [] b d none = nil_front b d none
nil_middle (x ∷ a) b d none = cc

pub nil_last : (a b d : List ℕ) → a ++ (b ++ d) ≡ [] → d ≡ []
nil_last [] [] d none = none
nil_last [] (x ∷ b) d none = cc
nil_last (x ∷ a) b d none = cc

pub some_first : (a b : List ℕ) (first : Bool) → first ≡ false → IsTrue first ↔ (a ≡ []) → IsTrue false ↔ (a ++ b ≡ [])
some_first a b first some is = (λ yes. cc, λ none. rw some at is.1 (nil_front a b none))

pub some_second : (a b d : List ℕ) (second : Bool) → second ≡ false → IsTrue second ↔ (b ≡ []) → IsTrue false ↔ (a ++ (b ++ d) ≡ [])
some_second a b d second some is = (λ yes. cc, λ none. rw some at is.1 (nil_middle a b d none))

pub at_hand : (n : ℕ) (f r b : List ℕ) → (n ≤ length f + length r) ⊎ (b ≡ []) → take n (f ++ r) ≡ take n (f ++ (r ++ b))
at_hand n f r b (inl within) = sym (take-append-le n (f ++ r) b (omega (arith, within, length-append f r))) ∙ ap (take n) (append_assoc f r b)
at_hand n f r b (inr none) = ap (λ (x : List ℕ). take n (f ++ x)) (sym (append-nil r) ∙ ap (λ (x : List ℕ). r ++ x) (sym none))

pub left_behind : (n : ℕ) (f r b : List ℕ) → (n ≤ length f + length r) ⊎ (b ≡ []) → drop n (f ++ r) ++ b ≡ drop n (f ++ (r ++ b))
left_behind n f r b (inl within) = sym (drop-append-le n (f ++ r) b (omega (arith, within, length-append f r))) ∙ ap (drop n) (append_assoc f r b)
left_behind n f r b (inr none) =
    ap (λ (x : List ℕ). drop n (f ++ r) ++ x) none ∙ append-nil (drop n (f ++ r))
    ∙ ap (λ (x : List ℕ). drop n (f ++ x)) (sym (append-nil r) ∙ ap (λ (x : List ℕ). r ++ x) (sym none))

-- ---- a body that is kept while bytes of it are left

pub none_left : (body : Option (List ℕ)) → body ≢ Some [] → unwrap_or body [] ≡ [] → body ≡ None
none_left None some none = refl
none_left (Some x) some none = absurd (some (ap Some none))

pub none_kept : {P : Type 0} (body : Option (List ℕ)) → P ⊎ (body ≡ None) → P ⊎ (unwrap_or body [] ≡ [])
none_kept body (inl within) = inl within
none_kept body (inr none) = inr (ap (λ (kept : Option (List ℕ)). unwrap_or kept []) none)

pub none_waits : (a b : List ℕ) (body : Option (List ℕ)) (none : Bool) → a ≡ [] → b ≡ [] → body ≢ Some [] → is_some body ≡ not none → IsTrue none ↔ (a ++ (b ++ unwrap_or body []) ≡ [])
none_waits a b None true first second some is = rw (first, second) (λ yes. refl, λ none. refl)
none_waits a b None false first second some is = cc
none_waits a b (Some x) true first second some is = cc
none_waits a b (Some x) false first second some is = rw (first, second) (λ yes. cc, λ none. absurd (some (ap Some none)))
