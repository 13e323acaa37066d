-- Stores in which nothing stands.
use Rattle.std.proofs.Common.{◌≡◌, ℕ, ◌+◌, ◌<◌, zero, suc, List, [], ◌∷◌, ◌++◌, true, false, cond, All, refl, sym, ap, ◌∙◌, add-one, arith, nat_lt, length, get_or}
use Rattle.std.specs.Prelude.{None, map, replicate, IsTrue}
use Rattle.std.specs.FinMap as finite
use Rattle.std.proofs.lemmas.Bool.Decides.{nat_tests}
use Rattle.share_store.specs.Shares.{Shares}
use Rattle.std.specs.Rc.{rc_slice_items}
use Rattle.share_store.specs.Stored.{shares_in}
use Rattle.share_store.specs.declared.mem_store.MemStore.{MemStore}
use Rattle.grid.specs.GridState.{StoreState}
use Rattle.grid.specs.Standing.{at_server}
use Rattle.gate_tasks.specs.Stores.{fresh}

-- what contracts see of a store in memory
abbrev pub state_of : MemStore → StoreState
state_of store = record { shares = shares_in rc_slice_items store.shares.indexes; room = store.room; held = store.held; failures = 0; honest = true; history = None }

one_fresh : (shares : Shares) (room held wanted : ℕ) → shares ≡ finite.empty → room ≡ wanted → held ≡ 0 → (let s : StoreState = record { shares = shares; room = room; held = held; failures = 0; honest = true; history = None } in s) ≡ fresh wanted
one_fresh shares room held wanted a b c =
    ap (λ (q : Shares). let s : StoreState = record { shares = q; room = room; held = held; failures = 0; honest = true; history = None } in s) a
    ∙ ap (λ q. let s : StoreState = record { shares = finite.empty; room = q; held = held; failures = 0; honest = true; history = None } in s) b
    ∙ ap (λ q. let s : StoreState = record { shares = finite.empty; room = wanted; held = q; failures = 0; honest = true; history = None } in s) c

more_same : (n : ℕ) (v : StoreState) → replicate n v ++ v ∷ [] ≡ replicate (n + 1) v
more_same zero v = refl
more_same (suc n) v = ap (λ l. v ∷ l) (more_same n v) ∙ ap (λ m. v ∷ replicate m v) (add-one n) ∙ ap (λ m. replicate m v) (sym (add-one (suc n)))

joined : (xs : List MemStore) (x : MemStore) → map state_of (xs ++ x ∷ []) ≡ map state_of xs ++ state_of x ∷ []
joined [] x = refl
joined (y ∷ xs) x = ap (λ l. state_of y ∷ l) (joined xs x)

pub one_more : (xs : List MemStore) (x : MemStore) (n room : ℕ) → map state_of xs ≡ replicate n (fresh room) → (let made : Shares = shares_in rc_slice_items x.shares.indexes in made) ≡ finite.empty → x.room ≡ room → x.held ≡ 0
    → map state_of (xs ++ x ∷ []) ≡ replicate (n + 1) (fresh room)
one_more xs x n room before a b c =
    joined xs x ∙ ap (λ l. l ++ state_of x ∷ []) before ∙ ap (λ s. replicate n (fresh room) ++ s ∷ []) (one_fresh (shares_in rc_slice_items x.shares.indexes) x.room x.held room a b c)
    ∙ more_same n (fresh room)

honest_at : (n room k : ℕ) (d : StoreState) → k < length (replicate n (fresh room)) → IsTrue (get_or (replicate n (fresh room)) k d).honest
honest_at zero room k d less = absurd (omega arith)
honest_at (suc n) room zero d less = refl
honest_at (suc n) room (suc k) d less = honest_at n room k d (omega arith)

pub all_honest : (n room : ℕ) → All (λ (t : StoreState). IsTrue t.honest) (replicate n (fresh room))
all_honest n room k d less = honest_at n room k d less

below_none : (s : ℕ) → nat_lt s 0 ≡ false
below_none s = grind (arith, nat_tests)

below_suc : (s n : ℕ) → nat_lt (suc s) (suc n) ≡ nat_lt s n
below_suc s n = grind (arith, nat_tests)

below_first : (n : ℕ) → nat_lt 0 (suc n) ≡ true
below_first n = grind (arith, nat_tests)

pub room_is : (n room s : ℕ) → at_server (λ (t : StoreState). t.room) (replicate n (fresh room)) s ≡ cond (nat_lt s n) room 0
room_is zero room s = ap (λ b. cond b room 0) (sym (below_none s))
room_is (suc n) room zero = ap (λ b. cond b room 0) (sym (below_first n))
room_is (suc n) room (suc s) = room_is n room s ∙ ap (λ b. cond b room 0) (sym (below_suc s n))
