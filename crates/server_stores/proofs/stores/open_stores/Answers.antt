use Rattle.std.proofs.Common.{◌≡◌, ◌<◌, ◌≤◌, ◌+◌, ◌++◌, ◌∷◌, [], ℕ, zero, suc, List, Option, length, take, get_or, refl, sym, ap, subst, ◌∙◌, add-zero, zero-add, add-one, arith, length-append}
use Rattle.std.proofs.Math.Seq.{take-suc}
use Rattle.std.proofs.lemmas.List.{take_all}
use Rattle.std.specs.Option.{option_map}
use Rattle.server_options.specs.declared.store_names.RedisPlace.{RedisPlace}
use Rattle.server_options.specs.declared.store_names.StoreWanted.{StoreWanted}
use Rattle.server_options.specs.declared.store_names.StoreWanted.TheVariants.{Memory}
use Rattle.share_store.specs.declared.fail_at.FailAt.{FailAt}
use Rattle.server_stores.specs.declared.any_store.AnyStore.{AnyStore}
use Rattle.server_stores.specs.Kinds.{AreOfKinds, IsOfKind, IsOneMore}
use Rattle.server_stores.proofs.stores.open_stores.Goals as goal

-- the stores that are wanted, and one more
grown : {M F D N S : Type 0} (IsOpened : ℕ → RedisPlace → N → Type 0) (server : ℕ) (wanted : List StoreWanted) (stores : List (AnyStore M F D N S FailAt))
    (one : StoreWanted) (store : AnyStore M F D N S FailAt) → AreOfKinds server wanted stores IsOpened
    → IsOfKind one store (IsOpened (server + length stores)) → AreOfKinds server (wanted ++ one ∷ []) (stores ++ store ∷ []) IsOpened
grown IsOpened server [] [] one store are is = (subst (λ (n : ℕ). IsOfKind one store (IsOpened n)) (add-zero server) is, refl)
grown IsOpened server [] (last ∷ stores) one store are is = absurd (cc are)
grown IsOpened server (next ∷ wanted) [] one store are is = absurd are
grown IsOpened server (next ∷ wanted) (last ∷ stores) one store are is = (
  are.0,
  grown IsOpened (suc server) wanted stores one store are.1
      (let same : server + suc (length stores) ≡ suc server + length stores = omega arith in subst (λ (n : ℕ). IsOfKind one store (IsOpened n)) same is),
)

-- a turn of the loop
one_more : {M F D N S : Type 0} (IsOpened : ℕ → RedisPlace → N → Type 0) (wanted : List StoreWanted) (before after : List (AnyStore M F D N S FailAt))
    (i place : ℕ) → length before ≡ i → AreOfKinds 0 (take i wanted) before IsOpened → i < length wanted → place ≡ length before
    → IsOneMore before after (λ store. IsOfKind (get_or wanted i (Memory 0)) store (IsOpened place))
    → (length after ≡ i + 1) × AreOfKinds 0 (take (i + 1) wanted) after IsOpened
one_more {M} {F} {D} {N} {S} IsOpened wanted before after i place long are below same grows =
    let one : StoreWanted = get_or wanted i (Memory 0) in
    let store = grows.0 in
    let items : after ≡ before ++ store ∷ [] = grows.1.0 in
    let is : IsOfKind one store (IsOpened (0 + length before)) =
    subst (λ (n : ℕ). IsOfKind one store (IsOpened n)) (same ∙ sym (zero-add (length before))) grows.1.1 in
    let taken : take (i + 1) wanted ≡ take i wanted ++ one ∷ [] = ap (λ n. take n wanted) (add-one i) ∙ take-suc wanted i (Memory 0) below in
    let longer : length (before ++ store ∷ []) ≡ i + 1 = length-append before (store ∷ []) ∙ ap (λ n. n + 1) long in (
      ap length items ∙ longer,
      subst (λ (ss : List (AnyStore M F D N S FailAt)). AreOfKinds 0 (take (i + 1) wanted) ss IsOpened) (sym items)
          (subst (λ (ws : List StoreWanted). AreOfKinds 0 ws (before ++ store ∷ []) IsOpened) (sym taken)
          (grown IsOpened 0 (take i wanted) before one store are is)),
    )

-- at the end of the loop
all_opened : {M F D N S : Type 0} (IsOpened : ℕ → RedisPlace → N → Type 0) (wanted items : List StoreWanted) (stores : List (AnyStore M F D N S FailAt))
    (i : ℕ) → items ≡ wanted → length items ≤ i → AreOfKinds 0 (take i items) stores IsOpened → AreOfKinds 0 wanted stores IsOpened
all_opened IsOpened wanted items stores i same end are =
    subst (λ (ws : List StoreWanted). AreOfKinds 0 ws stores IsOpened) (take_all i items end ∙ same) are

pub loop-wanted-preserved : goal.loop-wanted-preserved
loop-wanted-preserved g c =
    let same : c.in-Ok.place ≡ length c.loop-wanted.stores.items = omega (arith, c.loop-wanted.stores.ok.0, c.in-Ok.ensures.1, c.len-in-loop-wanted.ensures) in
    one_more _ c.deref-wanted-items.result.now c.loop-wanted.stores.items c.open_behind.new.stores.items c.loop-wanted.wanted-index c.in-Ok.place
    c.loop-wanted.invariant.0 c.loop-wanted.invariant.1 c.loop-wanted-test.true same c.in_ok-open_behind.ensures

pub returns : goal.returns
returns g c = (
  option_map (λ password. password.now) c.as_deref-said.result,
  all_opened _ c.args.options.now.stores.items c.deref-wanted-items.result.now c.loop-wanted.stores.items c.loop-wanted.wanted-index
      c.deref-wanted-items.ensures.value c.loop-wanted-test.false c.loop-wanted.invariant.1,
)
