-- What a refusal says of a call that hands it on: the clauses of `decodable` are those of its callers.
use Rattle.std.proofs.Common.{◌≡◌, ◌≢◌, ◌↔◌, ◌<◌, ◌≤◌, ℕ, List, Bor, length, take, Result, Ok, Err, IsErrOf, OnOk, OnErr, IfOk, IfErr, IsOkUnless, sym, ap, ◌∙◌, subst, arith}
use Rattle.std.proofs.lemmas.List.{length-take-le}
use Rattle.erasure.specs.Given.{numbered_of, numbers_of, blocks_of, AreNumbers, HaveOneLength}

-- the same error, of a call that would give another value
pub handed_on : {T U E : Type 0} {P : Type 0} (s : Result U E) (e x : E) → s ≡ Err e → (IsErrOf {T = T} (Err e) x ↔ P) → (IsErrOf s x ↔ P)
handed_on s e x is h = (λ q. h.0 (let same : e ≡ x = cc in ap Err same), λ p. let q = h.1 p in let same : e ≡ x = cc in is ∙ ap Err same)

-- another error, where the earlier call gave a value
pub not_refused : {T U E : Type 0} {P : Type 0} (s : Result U E) (v : T) (x : E) → (IsErrOf s x → ⊥) → (IsErrOf (Ok v) x ↔ P) → (IsErrOf s x ↔ P)
not_refused s v x other h = (λ q. absurd (other q), λ p. let q = h.1 p in cc)

pub another : {U E : Type 0} (s : Result U E) (e x : E) → IsOkUnless s e → e ≢ x → IsErrOf s x → ⊥
another (Ok v) e x only ne q = cc
another (Err y) e x only ne q = ne (let same : y ≡ x = cc in sym only ∙ same)

pub if_ok_none : {U E : Type 0} (P : U → Type 0) (s : Result U E) (e : E) → s ≡ Err e → IfOk s P
if_ok_none P (Ok v) e is = cc
if_ok_none P (Err y) e is = tt

pub on_ok_none : {U E : Type 0} (P : Type 0) (s : Result U E) (e : E) → s ≡ Err e → OnOk s P
on_ok_none P (Ok v) e is = cc
on_ok_none P (Err y) e is = tt

pub on_err_any : {U E : Type 0} {P : Type 0} (s : Result U E) → P → OnErr s P
on_err_any (Ok v) p = tt
on_err_any (Err y) p = p

pub on_ok_any : {U E : Type 0} {P : Type 0} (s : Result U E) → P → OnOk s P
on_ok_any (Ok v) p = p
on_ok_any (Err y) p = tt

pub if_err_one : {U E : Type 0} (s : Result U E) (e : E) (P : E → Type 0) → s ≡ Err e → P e → IfErr s P
if_err_one (Ok v) e P is p = tt
if_err_one (Err y) e P is p = subst P (let same : e ≡ y = cc in same) p

pub only_weaker : {U E : Type 0} (s : Result U E) (e : E) (P : E → Type 0) → IsOkUnless s e → P e → IfErr s P
only_weaker (Ok v) e P only p = tt
only_weaker (Err y) e P only p = subst P (sym only) p

-- what is known of the blocks that were taken
pub all_taken : (given : List (ℕ × Bor (List ℕ))) (k : ℕ) (blocks : List (ℕ × Bor (List ℕ))) → given ≡ take k blocks
    → (0 < k) × (k ≤ 256) × (k ≤ length blocks) × AreNumbers (numbers_of (numbered_of (take k blocks))) × HaveOneLength (blocks_of (numbered_of (take k blocks)))
    → (0 < length given) × (length given ≤ 256) × AreNumbers (numbers_of (numbered_of given)) × HaveOneLength (blocks_of (numbered_of given))
all_taken given k blocks e h =
    let long : length given ≡ k = ap length e ∙ length-take-le k blocks h.2 in (
      omega (arith, h.0),
      omega (arith, h.1),
      subst (λ (g : List (ℕ × Bor (List ℕ))). AreNumbers (numbers_of (numbered_of g))) (sym e) h.3,
      subst (λ (g : List (ℕ × Bor (List ℕ))). HaveOneLength (blocks_of (numbered_of g))) (sym e) h.4,
    )
