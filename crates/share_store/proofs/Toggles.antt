-- Bits of a share that were changed, as a set of places.
use Rattle.std.proofs.Common.{◌≡◌, ◌≢◌, ℕ, zero, suc, ◌+◌, ◌<◌, ◌%◌, List, [], ◌∷◌, length, Bool, true, false, not, cond, eqb, nat_lt, get_or, set, refl, sym, ap, subst, ◌∙◌, arith, length-set, get_or-set_same, get_or-set_other, ⊎_elim}
use Rattle.std.specs.Prelude.{◌||◌, filter, bit_xor}
use Rattle.std.specs.Int.{bit_at}
use Rattle.std.specs.Int.Bits.{xor_self, xor_zero_r}
use Rattle.std.proofs.lemmas.Nat.Bits.{bit_at_xor}
use lib.Bits.{xor_assoc}
use Rattle.std.proofs.lemmas.Bool.{cases_eq, eqb-true}
use Rattle.std.proofs.lemmas.Bool.Decides.{nat_tests}
use Rattle.std.proofs.lemmas.Grind.{same_number_lists}
use Rattle.share_store.specs.Toggle.{toggled}
use Rattle.share_store.specs.Toggles.{is_toggled, toggled_from, switched}

true_or_false : (b : Bool) (Q : Type 0) → (b ≡ true → Q) → (b ≡ false → Q) → Q
true_or_false true Q yes_case no_case = yes_case refl
true_or_false false Q yes_case no_case = no_case refl

flip-differs : (b : ℕ) → bit_xor b 1 ≡ b → ⊥
flip-differs b e =
    let one : bit_at (bit_xor b 1) 0 ≡ (bit_at b 0 + bit_at 1 0) % 2 = bit_at_xor b 1 0 in
    let same : bit_at (bit_xor b 1) 0 ≡ bit_at b 0 = ap (λ x. bit_at x 0) e in
    omega arith

pub toggled-none : (at : ℕ) (bytes : List ℕ) → toggled_from [] at bytes ≡ bytes
toggled-none at [] = refl
toggled-none at (b ∷ bytes) = ap (λ r. b ∷ r) (toggled-none (suc at) bytes)

toggled-at : (toggles : List ℕ) (at k : ℕ) (bytes : List ℕ) → k < length bytes → get_or (toggled_from toggles at bytes) k 0 ≡ cond (is_toggled toggles (at + k)) (bit_xor (get_or bytes k 0) 1) (get_or bytes k 0)
toggled-at toggles at k [] within = grind arith
toggled-at toggles at zero (b ∷ bytes) within = let e : at ≡ at + 0 = omega arith in ap (λ p. cond (is_toggled toggles p) (bit_xor b 1) b) e
toggled-at toggles at (suc k) (b ∷ bytes) within =
    let e : suc at + k ≡ at + suc k = omega arith in
    let below : k < length bytes = grind arith in
    toggled-at toggles (suc at) k bytes below ∙ ap (λ p. cond (is_toggled toggles p) (bit_xor (get_or bytes k 0) 1) (get_or bytes k 0)) e

-- a share with a changed bit is another string
pub touched-differs : (toggles bytes : List ℕ) (place : ℕ) → is_toggled toggles place ≡ true → place < length bytes → toggled_from toggles 0 bytes ≡ bytes → ⊥
touched-differs toggles bytes place hit within same =
    let e : place ≡ 0 + place = omega arith in
    let there : is_toggled toggles (0 + place) ≡ true = subst (λ p. is_toggled toggles p ≡ true) e hit in
    flip-differs (get_or bytes place 0)
    (sym (ap (λ b. cond b (bit_xor (get_or bytes place 0) 1) (get_or bytes place 0)) there)
    ∙ sym (toggled-at toggles 0 place bytes within)
    ∙ ap (λ l. get_or l place 0) same)

flip-twice : (b : ℕ) → bit_xor (bit_xor b 1) 1 ≡ b
flip-twice b = xor_assoc b 1 1 ∙ ap (bit_xor b) (xor_self 1) ∙ xor_zero_r b

pub length-toggled : (toggles : List ℕ) (at : ℕ) (bytes : List ℕ) → length (toggled_from toggles at bytes) ≡ length bytes
length-toggled toggles at [] = refl
length-toggled toggles at (b ∷ bytes) = ap suc (length-toggled toggles (suc at) bytes)

eqb-same : (a b : ℕ) → a ≡ b → eqb a b ≡ true
eqb-same a b e = grind (arith, nat_tests)

ne-eqb : (a b : ℕ) → a ≢ b → eqb a b ≡ false
ne-eqb a b e = grind (arith, nat_tests)

eqb-false_ne : (a b : ℕ) → eqb a b ≡ false → a ≢ b
eqb-false_ne a b e = grind (arith, nat_tests)

-- ---- which places are toggled after one is switched

taken_out : (place k : ℕ) (toggles : List ℕ) → is_toggled (filter (λ p. not (eqb p place)) toggles) k ≡ cond (eqb k place) false (is_toggled toggles k)
taken_out place k [] = true_or_false (eqb k place) _ (λ e. sym (ap (λ b. cond b false false) e)) (λ e. sym (ap (λ b. cond b false false) e))
taken_out place k (p ∷ toggles) =
    let rest = filter (λ q. not (eqb q place)) toggles in
    ⊎_elim
    (λ same.
    ap (λ b. is_toggled (cond (not b) (p ∷ rest) rest) k) (eqb-same p place same)
    ∙ taken_out place k toggles
    ∙ true_or_false (eqb k place) _
    (λ e. rw e refl)
    (λ e. let other : eqb p k ≡ false = let d = eqb-false_ne k place e in grind (arith, nat_tests) in rw (e, other) refl))
    (λ other.
    ap (λ b. is_toggled (cond (not b) (p ∷ rest) rest) k) (ne-eqb p place other)
    ∙ ap (λ r. eqb p k || r) (taken_out place k toggles)
    ∙ true_or_false (eqb k place) _
    (λ e. let apart : eqb p k ≡ false = let d = eqb-true k place e in grind (arith, nat_tests) in rw (e, apart) refl)
    (λ e. rw e refl))
    (cases_eq p place)

put_in : (place k : ℕ) (toggles : List ℕ) → is_toggled toggles place ≡ false → is_toggled (place ∷ toggles) k ≡ cond (eqb k place) true (is_toggled toggles k)
put_in place k toggles absent = true_or_false (eqb k place) _
    (λ e. let same : eqb place k ≡ true = let d = eqb-true k place e in grind (arith, nat_tests) in rw (e, same) refl)
    (λ e. let other : eqb place k ≡ false = let d = eqb-false_ne k place e in grind (arith, nat_tests) in rw (e, other) refl)

switched_at : (place k : ℕ) (toggles : List ℕ) → is_toggled (switched place toggles) k ≡ cond (eqb k place) (not (is_toggled toggles k)) (is_toggled toggles k)
switched_at place k toggles =
    true_or_false (is_toggled toggles place) _
    (λ there.
    ap (λ b. is_toggled (cond b (filter (λ p. not (eqb p place)) toggles) (place ∷ toggles)) k) there ∙ taken_out place k toggles
    ∙ true_or_false (eqb k place) _
    (λ e. let h : is_toggled toggles k ≡ true = ap (is_toggled toggles) (eqb-true k place e) ∙ there in rw (e, h) refl)
    (λ e. rw e refl))
    (λ absent.
    ap (λ b. is_toggled (cond b (filter (λ p. not (eqb p place)) toggles) (place ∷ toggles)) k) absent ∙ put_in place k toggles absent
    ∙ true_or_false (eqb k place) _
    (λ e. let h : is_toggled toggles k ≡ false = ap (is_toggled toggles) (eqb-true k place e) ∙ absent in rw (e, h) refl)
    (λ e. rw e refl))

-- ---- what stands

flip_when : (b : ℕ) (was : Bool) → cond (not was) (bit_xor b 1) b ≡ bit_xor (cond was (bit_xor b 1) b) 1
flip_when b true = sym (flip-twice b)
flip_when b false = refl

pub at_zero : (toggles : List ℕ) (k : ℕ) (body : List ℕ) → k < length body → get_or (toggled_from toggles 0 body) k 0 ≡ cond (is_toggled toggles k) (bit_xor (get_or body k 0) 1) (get_or body k 0)
at_zero toggles k body within = let e : 0 + k ≡ k = omega arith in toggled-at toggles 0 k body within ∙ ap (λ p. cond (is_toggled toggles p) (bit_xor (get_or body k 0) 1) (get_or body k 0)) e

pub toggled-switched : (place : ℕ) (toggles body : List ℕ) → place < length body → toggled_from (switched place toggles) 0 body ≡ toggled (toggled_from toggles 0 body) place
toggled-switched place toggles body within =
    let was = toggled_from toggles 0 body in
    let now = toggled_from (switched place toggles) 0 body in
    let long : length now ≡ length body = length-toggled (switched place toggles) 0 body in
    let long_was : length was ≡ length body = length-toggled toggles 0 body in
    same_number_lists now (set was place (bit_xor (get_or was place 0) 1)) (long ∙ sym long_was ∙ sym (length-set was place (bit_xor (get_or was place 0) 1)))
    (λ k below.
    let inside : k < length body = omega arith in
    let inside_was : place < length was = omega arith in
    at_zero (switched place toggles) k body inside
    ∙ ap (λ b. cond b (bit_xor (get_or body k 0) 1) (get_or body k 0)) (switched_at place k toggles)
    ∙ ⊎_elim
    (λ same.
    ap (λ b. cond (cond b (not (is_toggled toggles k)) (is_toggled toggles k)) (bit_xor (get_or body k 0) 1) (get_or body k 0)) (eqb-same k place same)
    ∙ flip_when (get_or body k 0) (is_toggled toggles k)
    ∙ ap (λ b. bit_xor b 1) (sym (at_zero toggles k body inside))
    ∙ ap (λ j. bit_xor (get_or was j 0) 1) same
    ∙ sym (get_or-set_same was place (bit_xor (get_or was place 0) 1) 0 inside_was)
    ∙ ap (λ j. get_or (set was place (bit_xor (get_or was place 0) 1)) j 0) (sym same))
    (λ other.
    ap (λ b. cond (cond b (not (is_toggled toggles k)) (is_toggled toggles k)) (bit_xor (get_or body k 0) 1) (get_or body k 0)) (ne-eqb k place other)
    ∙ sym (at_zero toggles k body inside)
    ∙ sym (get_or-set_other was place k (bit_xor (get_or was place 0) 1) 0 other))
    (cases_eq k place))

-- past the end nothing changes
pub beyond : (bytes : List ℕ) (place : ℕ) → nat_lt place (length bytes) ≡ false → toggled bytes place ≡ bytes
beyond bytes place past =
    same_number_lists (set bytes place (bit_xor (get_or bytes place 0) 1)) bytes (length-set bytes place (bit_xor (get_or bytes place 0) 1))
    (λ k below. get_or-set_other bytes place k (bit_xor (get_or bytes place 0) 1) 0
    (let h = length-set bytes place (bit_xor (get_or bytes place 0) 1) in let q = ltb_no place (length bytes) past in omega arith))
  where
    ltb_no : (a b : ℕ) → nat_lt a b ≡ false → b < a + 1
    ltb_no a b e = grind (arith, nat_tests)
