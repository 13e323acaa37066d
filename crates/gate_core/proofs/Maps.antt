-- A `BTreeMap` seen as a `FinMap`.
use Rattle.std.proofs.Common.{◌≡◌, ◌≢◌, ℕ, List, [], ◌∷◌, Bool, false, cond, is_some, IsSome, Option, Some, None, refl, sym, ap, subst, ◌∙◌, arith, rules, ⊎_elim}
use Rattle.std.specs.Ordering.{nat_cmp, eq_by_cmp}
use Rattle.std.specs.Cmp.{nat_cmp_total, eq_by_cmp_equiv}
use Rattle.std.specs.BTreeMap.{is_at}
use Rattle.std.specs.Map.{lookup, set_value}
use Rattle.std.specs.FinMap as map
use Rattle.std.proofs.lemmas.Bool.{cases_eq}
use Rattle.std.proofs.lemmas.Map.Steps.{set_value_same}

module _ {X : Type 0} where
  find-lookup : (q : ℕ) (es : List (ℕ × X)) → map.find nat_cmp q es ≡ lookup (is_at (nat_cmp q)) es
  find-lookup q [] = refl
  find-lookup q (e ∷ es) = ap (cond (eq_by_cmp nat_cmp q e.0) (Some e.1)) (find-lookup q es)

  -- what the map has at a key
  pub get_viewed : (es : List (ℕ × X)) (q : ℕ) → map.get (map.from_entries {R = nat_cmp} es) q ≡ lookup (is_at (nat_cmp q)) es
  get_viewed es q = map.get-from_entries nat_cmp_total es q ∙ find-lookup q es

  -- a value that is put at a key
  pub written : (es fs : List (ℕ × X)) (k : ℕ) (v : X) → ((q : ℕ) → lookup (is_at (nat_cmp q)) fs ≡ cond (is_at (nat_cmp k) q) (Some v) (lookup (is_at (nat_cmp q)) es))
      → map.from_entries {R = nat_cmp} fs ≡ map.insert (map.from_entries es) k v
  written es fs k v puts =
      map.same_map nat_cmp_total map.nat_cmp-IsAntisymmetric _ _ (λ q.
      get_viewed fs q ∙ puts q
      ∙ ap (cond (is_at (nat_cmp k) q) (Some v)) (sym (get_viewed es q))
      ∙ ap (λ b. cond b (Some v) (map.get (map.from_entries {R = nat_cmp} es) q)) ((eq_by_cmp_equiv nat_cmp_total).symm k q)
      ∙ sym (map.get-insert nat_cmp_total (map.from_entries es) k v q))

  -- a value that was found and is put back
  pub unwritten : (es fs : List (ℕ × X)) (k : ℕ) (v : X) → lookup (is_at (nat_cmp k)) es ≡ Some v → fs ≡ set_value (is_at (nat_cmp k)) es v → map.from_entries {R = nat_cmp} fs ≡ map.from_entries es
  unwritten es fs k v found put = ap (map.from_entries {R = nat_cmp}) (put ∙ set_value_same (is_at (nat_cmp k)) es v found)

  pub get-insert_here : (m : map.FinMap nat_cmp X) (k : ℕ) (v : X) → map.get (map.insert m k v) k ≡ Some v
  get-insert_here m k v = grind (arith, map.gets, rules)

  pub get-insert_other : (m : map.FinMap nat_cmp X) (k q : ℕ) (v : X) → q ≢ k → map.get (map.insert m k v) q ≡ map.get m q
  get-insert_other m k q v other = grind (arith, map.gets, rules)

  pub insert_same : (m : map.FinMap nat_cmp X) (k : ℕ) (v : X) → map.get m k ≡ Some v → map.insert m k v ≡ m
  insert_same m k v found = map.same_map nat_cmp_total map.nat_cmp-IsAntisymmetric _ _ (λ q. ⊎_elim (λ same. subst (λ j. map.get (map.insert m k v) j ≡ map.get m j) (sym same) (get-insert_here m k v ∙ sym found)) (λ other. get-insert_other m k q v other) (cases_eq q k))

  -- m has `old` at k, and n is m with `new` there
  pub record Changed (m n : map.FinMap nat_cmp X) (k : ℕ) (old new : X) : Type 0 where
    pub found : map.get m k ≡ Some old
    pub put : n ≡ map.insert m k new

  -- what `get_mut` lent was left at `new`
  pub Changed-lent : (m : map.FinMap nat_cmp X) (es fs : List (ℕ × X)) (k : ℕ) (old new : X) → map.from_entries es ≡ m → Some old ≡ lookup (is_at (nat_cmp k)) es
      → (IsSome (lookup (is_at (nat_cmp k)) es) → (q : ℕ) → lookup (is_at (nat_cmp q)) fs ≡ cond (is_at (nat_cmp k) q) (Some new) (lookup (is_at (nat_cmp q)) es))
      → Changed m (map.from_entries fs) k old new
  Changed-lent m es fs k old new is had puts = record {
    found = ap (λ g. map.get g k) (sym is) ∙ get_viewed es k ∙ sym had;
    put = written es fs k new (puts (ap is_some (sym had))) ∙ ap (λ g. map.insert g k new) is;
  }

  pub Changed-others : (m n : map.FinMap nat_cmp X) (k : ℕ) (old new : X) → Changed m n k old new → (q : ℕ) → q ≢ k → map.get n q ≡ map.get m q
  Changed-others m n k old new changed q other = ap (λ g. map.get g q) changed.put ∙ get-insert_other m k q new other

  pub Changed-same : (m n : map.FinMap nat_cmp X) (k : ℕ) (old new : X) → Changed m n k old new → new ≡ old → n ≡ m
  Changed-same m n k old new changed same = changed.put ∙ ap (map.insert m k) same ∙ insert_same m k old changed.found

  pub Changed-here : (m n : map.FinMap nat_cmp X) (k : ℕ) (old new : X) → Changed m n k old new → map.get n k ≡ Some new
  Changed-here m n k old new changed = ap (λ g. map.get g k) changed.put ∙ get-insert_here m k new

  pub None-from_test : (o : Option X) → is_some o ≡ false → o ≡ None
  None-from_test None e = refl
  None-from_test (Some x) e = cc

  -- what a look-up found
  pub get_found : (m : map.FinMap nat_cmp X) (es : List (ℕ × X)) (k : ℕ) (o : Option X) → map.from_entries es ≡ m → o ≡ lookup (is_at (nat_cmp k)) es → map.get m k ≡ o
  get_found m es k o is found = ap (λ g. map.get g k) (sym is) ∙ get_viewed es k ∙ sym found

  pub get_test : (m : map.FinMap nat_cmp X) (es : List (ℕ × X)) (k : ℕ) (b : Bool) → map.from_entries es ≡ m → b ≡ is_some (lookup (is_at (nat_cmp k)) es) → is_some (map.get m k) ≡ b
  get_test m es k b is found = ap is_some (get_found m es k _ is refl) ∙ sym found
