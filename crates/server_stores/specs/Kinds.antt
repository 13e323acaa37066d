-- Where a server has its shares.
use Rattle.std.specs.Prelude.{◌≡◌, ℕ, suc, true, List, [], ◌∷◌, ◌++◌}
use Rattle.share_store.specs.Schedule.{failing_call, fails_for_good}
use Rattle.share_store.specs.declared.fail_at.FailAt.{FailAt}
use Rattle.server_options.specs.declared.store_names.RedisPlace.{RedisPlace}
use Rattle.server_options.specs.declared.store_names.StoreWanted.{StoreWanted}
use Rattle.server_options.specs.declared.store_names.StoreWanted.TheVariants.{Memory, Folder, Disk, Shared, Redis, Missing}
use Rattle.server_stores.specs.declared.any_store.AnyStore.{AnyStore}
use Rattle.server_stores.specs.declared.any_store.AnyStore.TheVariants.{InMemory, InFolder, OnDisk, OnRedis, InSharedFolder, OutOfReach}

-- in memory alone, in memory and in a folder, on a disk alone, on a Redis server, in a folder that others serve too, or out of reach
abbrev pub IsInMemory : {M F D N S A : Type 0} → AnyStore M F D N S A → Type 0
IsInMemory (InMemory store) = Unit {0}
IsInMemory _ = ⊥

abbrev pub IsInFolder : {M F D N S A : Type 0} → AnyStore M F D N S A → Type 0
IsInFolder (InFolder store) = Unit {0}
IsInFolder _ = ⊥

abbrev pub IsOnDisk : {M F D N S A : Type 0} → AnyStore M F D N S A → Type 0
IsOnDisk (OnDisk store) = Unit {0}
IsOnDisk _ = ⊥

abbrev pub IsOnRedis : {M F D N S A : Type 0} → AnyStore M F D N S A → (N → Type 0) → Type 0
IsOnRedis (OnRedis store) IsOpened = IsOpened store
IsOnRedis _ IsOpened = ⊥

abbrev pub IsInSharedFolder : {M F D N S A : Type 0} → AnyStore M F D N S A → Type 0
IsInSharedFolder (InSharedFolder store) = Unit {0}
IsInSharedFolder _ = ⊥

-- a store of which each call fails, for good
abbrev pub IsOutOfReach : {M F D N S : Type 0} → AnyStore M F D N S FailAt → Type 0
IsOutOfReach (OutOfReach store) = (failing_call store ≡ 1) × (fails_for_good store ≡ true)
IsOutOfReach _ = ⊥

-- as it was wanted: on a Redis server as it is opened for that place
abbrev pub IsOfKind : {M F D N S : Type 0} → StoreWanted → AnyStore M F D N S FailAt → (RedisPlace → N → Type 0) → Type 0
IsOfKind (Memory room) store IsOpened = IsInMemory store
IsOfKind (Folder path room) store IsOpened = IsInFolder store
IsOfKind (Disk path room) store IsOpened = IsOnDisk store
IsOfKind (Shared path) store IsOpened = IsInSharedFolder store
IsOfKind (Redis place room) store IsOpened = IsOnRedis store (IsOpened place)
IsOfKind (Missing path) store IsOpened = IsOutOfReach store

-- A store for each that is wanted, and no more, in their order: each of its kind, and on a Redis server as it is opened for
-- that place by the server of this number, counted from `server` on.
abbrev pub AreOfKinds : {M F D N S : Type 0} → ℕ → List StoreWanted → List (AnyStore M F D N S FailAt) → (ℕ → RedisPlace → N → Type 0) → Type 0
AreOfKinds server [] stores IsOpened = stores ≡ []
AreOfKinds server (one ∷ wanted) [] IsOpened = ⊥
AreOfKinds server (one ∷ wanted) (store ∷ stores) IsOpened = IsOfKind one store (IsOpened server) × AreOfKinds (suc server) wanted stores IsOpened

-- behind the others one more, of which something holds
abbrev pub IsOneMore : {S : Type 0} → List S → List S → (S → Type 0) → Type 0
IsOneMore {S} before after Holds = (one : S) × ((after ≡ before ++ one ∷ []) × Holds one)
