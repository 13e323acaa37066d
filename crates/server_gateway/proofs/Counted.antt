-- Stores of the kinds that are wanted are as many as are wanted.
use Rattle.std.proofs.Common.{◌≡◌, ℕ, suc, List, [], ◌∷◌, length, ap}
use Rattle.server_options.specs.declared.store_names.RedisPlace.{RedisPlace}
use Rattle.server_options.specs.declared.store_names.StoreWanted.{StoreWanted}
use Rattle.share_store.specs.declared.fail_at.FailAt.{FailAt}
use Rattle.server_stores.specs.declared.any_store.AnyStore.{AnyStore}
use Rattle.server_stores.specs.Kinds.{AreOfKinds}

pub as_many : {M F D N S : Type 0} (server : ℕ) (wanted : List StoreWanted) (stores : List (AnyStore M F D N S FailAt)) (IsOpened : ℕ → RedisPlace → N → Type 0)
    → AreOfKinds server wanted stores IsOpened → length stores ≡ length wanted
as_many server [] stores IsOpened are = ap length are
as_many server (one ∷ wanted) [] IsOpened are = absurd are
as_many server (one ∷ wanted) (store ∷ stores) IsOpened are = ap suc (as_many (suc server) wanted stores IsOpened are.1)
