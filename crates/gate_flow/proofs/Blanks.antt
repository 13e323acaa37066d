-- What ends in a blank line ends in LF.
use Rattle.std.proofs.Common.{ℕ, ◌-◌, ◌+◌, ◌≤◌, ◌<◌, ◌≡◌, true, false, Bool, List, [], ◌∷◌, length, take, drop, refl, sym, ap, ◌∙◌, arith, nat_eq, ⊎_elim}
use Rattle.std.specs.List.{ends_with}
use Rattle.std.proofs.lemmas.Slice.Eq.{slice_eq-Decides}
use Rattle.std.proofs.lemmas.Bool.{eq-eqb}
use Rattle.std.proofs.lemmas.Bool.Decides.{Decides-eqb, Decides-or, leb_tells}
use Rattle.std.proofs.lemmas.List.{get_or-drop, get_or-take, length-drop, length-take-le}
use Rattle.std.proofs.Math.ListN.{get_or}
use Rattle.http_edge.specs.Line.{ends_in_empty_line}

-- where a list is the end of another, their last elements are one
last_is : (l n : List ℕ) (i : ℕ) → i + 1 ≡ length n → n ≡ drop (length l - length n) l → get_or l (length l - 1) 0 ≡ get_or n i 0
last_is l n i e is =
    ap (λ k. get_or l k 0) at ∙ (sym (get_or-drop (length l - length n) l i 0) ∙ ap (λ (x : List ℕ). get_or x i 0) (sym is))
  where
    lengths : length n ≡ length l - (length l - length n)
    lengths = ap length is ∙ length-drop (length l - length n) l

    at : length l - 1 ≡ (length l - length n) + i
    at = grind arith

pub last_of_blank : (l : List ℕ) → ends_in_empty_line l ≡ true → get_or l (length l - 1) 0 ≡ 10
last_of_blank l is = ⊎_elim
    (λ e. last_is l (10 ∷ 10 ∷ []) 1 refl e)
    (λ e. last_is l (10 ∷ 13 ∷ 10 ∷ []) 2 refl e)
    ((Decides-or (ends_with nat_eq l (10 ∷ 10 ∷ [])) (ends_with nat_eq l (10 ∷ 13 ∷ 10 ∷ []))
    (slice_eq-Decides Decides-eqb (10 ∷ 10 ∷ []) (drop (length l - 2) l) (ends_with nat_eq l (10 ∷ 10 ∷ [])) refl)
    (slice_eq-Decides Decides-eqb (10 ∷ 13 ∷ 10 ∷ []) (drop (length l - 3) l) (ends_with nat_eq l (10 ∷ 13 ∷ 10 ∷ [])) refl)).0 is)

-- where the byte before place m is another, no blank line ends there
pub no_blank : (bytes : List ℕ) (m : ℕ) → 0 < m → m ≤ length bytes → (get_or bytes (m - 1) 0 ≡ 10 → ⊥) → ends_in_empty_line (take m bytes) ≡ false
no_blank bytes m some le other = by (ends_in_empty_line (take m bytes)) refl
  where
    by : (b : Bool) → ends_in_empty_line (take m bytes) ≡ b → ends_in_empty_line (take m bytes) ≡ false
    by false e = e
    by true e = absurd (other (sym (get_or-take m bytes (m - 1) 0 (omega arith)) ∙ (ap (λ k. get_or (take m bytes) (k - 1) 0) (sym (length-take-le m bytes le)) ∙ last_of_blank (take m bytes) e)))

-- where none ended up to a place, and the next bytes hold no LF, none ends before these are over
pub none_yet : (bytes : List ℕ) (end n : ℕ) → ((m : ℕ) → m ≤ end → ends_in_empty_line (take m bytes) ≡ false) →
    ((k : ℕ) → 0 ≤ k → k < n → nat_eq (get_or (take (length bytes - end) (drop end bytes)) k 0) 10 ≡ true → ⊥) → end + n ≤ length bytes →
    (m : ℕ) → m ≤ end + n → ends_in_empty_line (take m bytes) ≡ false
none_yet bytes end n before nowhere within m le =
    ⊎_elim (λ t. before m (t.1)) (λ t. no_blank bytes m (omega arith) (omega arith) (other (t.1))) (leb_tells m end)
  where
    other : end < m → get_or bytes (m - 1) 0 ≡ 10 → ⊥
    other past is = nowhere (m - 1 - end) (omega arith) (omega arith) (eq-eqb (get_or (take (length bytes - end) (drop end bytes)) (m - 1 - end) 0) 10 (at ∙ is))
      where
        place : end + (m - 1 - end) ≡ m - 1
        place = omega arith

        at : get_or (take (length bytes - end) (drop end bytes)) (m - 1 - end) 0 ≡ get_or bytes (m - 1) 0
        at = get_or-take (length bytes - end) (drop end bytes) (m - 1 - end) 0 (omega arith) ∙ (get_or-drop end bytes (m - 1 - end) 0 ∙ ap (λ k. get_or bytes k 0) place)
