-- Elements of lists.
use Rattle.std.proofs.Common.{◌≡◌, List, [], ◌∷◌, Bool, true, false, cond, Option, Some, None, refl, sym, ap, subst, ◌∙◌, arith, ⊎_elim}
use Rattle.std.specs.Prelude.{◌||◌, filter, Contains, option_to_list}
use Rattle.std.proofs.lemmas.Option.{none-some, same_Some}
use Rattle.file_shares.proofs.Tools.{Contains-here, Contains-there, Contains-cons_cases}
use Rattle.gate_core.proofs.Local.{true_or_false}

pub or_first : (a b : Bool) → a ≡ true → (a || b) ≡ true
or_first true b e = refl
or_first false b e = cc

pub or_second : (a b : Bool) → b ≡ true → (a || b) ≡ true
or_second true b e = refl
or_second false b e = e

module _ {X : Type 0} where
  pub nothing : {P : Type 0} {x : X} → Contains [] x → P
  nothing (k, below, is) = absurd (grind arith)

  pub Contains-option : (o : Option X) (x : X) → o ≡ Some x → Contains (option_to_list o) x
  Contains-option None x e = absurd (none-some x e)
  Contains-option (Some y) x e = subst (λ z. Contains (z ∷ []) x) (sym (same_Some y x e)) (Contains-here x [])

  pub Contains-filter : (p : X → Bool) (xs : List X) (x : X) → Contains xs x → p x ≡ true → Contains (filter p xs) x
  Contains-filter p [] x (k, below, is) passes = grind arith
  Contains-filter p (y ∷ xs) x there passes =
      ⊎_elim
      (λ more. true_or_false (p y) _
      (λ e. subst (λ b. Contains (cond b (y ∷ filter p xs) (filter p xs)) x) (sym e) (Contains-there y (filter p xs) x (Contains-filter p xs x more passes)))
      (λ e. subst (λ b. Contains (cond b (y ∷ filter p xs) (filter p xs)) x) (sym e) (Contains-filter p xs x more passes)))
      (λ same. subst (λ b. Contains (cond b (y ∷ filter p xs) (filter p xs)) x) (sym (ap p same ∙ passes)) (subst (λ z. Contains (z ∷ filter p xs) x) (sym same) (Contains-here x (filter p xs))))
      (Contains-cons_cases y xs x there)

  pub filter-twice : (p : X → Bool) (xs : List X) → filter p (filter p xs) ≡ filter p xs
  filter-twice p [] = refl
  filter-twice p (x ∷ xs) = true_or_false (p x) _
      (λ e. subst (λ b. filter p (cond b (x ∷ filter p xs) (filter p xs)) ≡ cond b (x ∷ filter p xs) (filter p xs)) (sym e)
      (ap (λ b. cond b (x ∷ filter p (filter p xs)) (filter p (filter p xs))) e ∙ ap (λ r. x ∷ r) (filter-twice p xs)))
      (λ e. subst (λ b. filter p (cond b (x ∷ filter p xs) (filter p xs)) ≡ cond b (x ∷ filter p xs) (filter p xs)) (sym e) (filter-twice p xs))
