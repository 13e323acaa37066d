-- Texts in which no cap's text can begin.
use Rattle.std.proofs.Common.{◌≡◌, ℕ, zero, suc, Bool, true, false, ◌==◌, List, [], ◌∷◌, ◌++◌, drop, get_or, ap, subst, refl, arith}
use Rattle.std.specs.Prelude.{not, ◌&&◌}
use Rattle.std.specs.List.{list_all}
use Rattle.client_tasks.specs.Lines.{cap_mark, HasNoMark}

-- a byte with which no cap's text begins
abbrev pub is_no_first : ℕ → Bool
is_no_first byte = not (byte == 85)

both : (a b : Bool) → (a && b) ≡ true → (a ≡ true) × (b ≡ true)
both true b is = (refl, is)
both false b is = absurd (let clash : false ≡ true = is in cc)

no_byte : (byte : ℕ) → byte ≡ 0 → byte ≡ 85 → ⊥
no_byte byte empty first = omega arith

nowhere : (text : List ℕ) → list_all is_no_first text ≡ true → (i : ℕ) (rest : List ℕ) → drop i text ≡ cap_mark ++ rest → ⊥
nowhere [] pass zero rest same = no_byte 0 refl (ap (λ (l : List ℕ). get_or l 0 0) same)
nowhere [] pass (suc i) rest same = no_byte 0 refl (ap (λ (l : List ℕ). get_or l 0 0) same)
nowhere (byte ∷ text) pass zero rest same =
    let first : byte ≡ 85 = ap (λ (l : List ℕ). get_or l 0 0) same in
    let clash : not (85 == 85) ≡ true = subst (λ (n : ℕ). not (n == 85) ≡ true) first (both _ _ pass).0 in
    cc
nowhere (byte ∷ text) pass (suc i) rest same = nowhere text (both _ _ pass).1 i rest same

-- where none of its bytes is such a one, the mark stands nowhere
pub no_mark : (text : List ℕ) → list_all is_no_first text ≡ true → HasNoMark text
no_mark text pass = λ i within rest same. nowhere text pass i rest same
