-- How `--store` names a store: `mem:BYTES`, `dir:PATH`, `dir:PATH:BYTES`, `dir:PATH:BYTES,disk`, `dir:PATH,shared` or
-- `redis:HOST:PORT[/NAME][:BYTES]`.
use Rattle.std.specs.Prelude.{◌≡◌, ◌≢◌, ◌==◌, ◌<◌, ◌-◌, ◌^◌, ◌⊎◌, ℕ, false, List, [], ◌++◌, Some, codes, length, slice_index}
use Rattle.std.specs.List.{AllZip, list_any}
use Rattle.server_options.specs.Shares.{IsCountOf}
use Rattle.server_options.specs.Size.{written_size}
use Rattle.server_options.specs.declared.store_names.StoreWanted.{StoreWanted}
use Rattle.server_options.specs.declared.store_names.StoreWanted.TheVariants.{Memory, Folder, Disk, Shared, Redis, Missing}

-- a text has bytes, and no colon among them
pub record IsPlainName (text : List ℕ) : Type 0 where
  pub some : text ≢ []
  pub no_colon : list_any (λ b. b == 58) text ≡ false

-- behind a colon a text says so many bytes, and what stands before that is this, which isn't empty
pub record IsSized (text front : List ℕ) (room : ℕ) : Type 0 where
  pub size : List ℕ
  pub parts : text ≡ front ++ (codes ":" ++ size)
  pub says : written_size size ≡ Some room
  pub some : front ≢ []

-- a path that wants no bytes behind it
pub record IsPlainPath (path : List ℕ) : Type 0 where
  pub plain : IsPlainName path
  pub no_disk : (front : List ℕ) → path ≢ front ++ codes ",disk"
  pub no_shared : (front : List ℕ) → path ≢ front ++ codes ",shared"

-- a host; one with a colon in it stands in brackets
abbrev pub IsHost : List ℕ → Type 0
IsHost text = IsPlainName text ⊎ ((slice_index text 0 ≡ 91) × (slice_index text (length text - 1) ≡ 93))

-- a number below 65,536
abbrev pub IsPort : List ℕ → Type 0
IsPort text = (number : ℕ) × (number < 2 ^ 16) × IsCountOf text number

-- HOST:PORT
pub record IsServerAddress (text : List ℕ) : Type 0 where
  pub host : List ℕ
  pub port : List ℕ
  pub parts : text ≡ host ++ (codes ":" ++ port)
  pub is_host : IsHost host
  pub is_port : IsPort port
  pub no_slash : list_any (λ b. b == 47) text ≡ false

-- an address, and behind a slash a name, if there is one
abbrev pub IsPlace : List ℕ → List ℕ → List ℕ → Type 0
IsPlace text address name = ((text ≡ address) × (name ≡ [])) ⊎ ((text ≡ address ++ (codes "/" ++ name)) × IsPlainName name)

-- `redis:HOST:PORT[/NAME][:BYTES]`, without the first word
pub record IsRedisName (otherwise : ℕ) (text address name : List ℕ) (room : ℕ) : Type 0 where
  pub place : List ℕ
  pub is_place : IsPlace place address name
  pub is_address : IsServerAddress address
  pub sized : ((text ≡ place) × (room ≡ otherwise)) ⊎ IsSized text place room

-- a text names this store, whose room is the last number where the text says no bytes
abbrev pub IsNameOf : ℕ → List ℕ → StoreWanted → Type 0
IsNameOf otherwise text (Memory room) = (size : List ℕ) × (text ≡ codes "mem:" ++ size) × (written_size size ≡ Some room)
IsNameOf otherwise text (Folder path room) = (front : List ℕ) × (text ≡ codes "dir:" ++ front)
    × ((IsPlainPath front × (front ≡ path.now) × (room ≡ otherwise)) ⊎ IsSized front path.now room)
IsNameOf otherwise text (Disk path room) = (front : List ℕ) × (text ≡ codes "dir:" ++ (front ++ codes ",disk"))
    × IsSized front path.now room
IsNameOf otherwise text (Shared path) = (text ≡ codes "dir:" ++ (path.now ++ codes ",shared")) × IsPlainName path.now
IsNameOf otherwise text (Redis place room) = (rest : List ℕ) × (text ≡ codes "redis:" ++ rest)
    × IsRedisName otherwise rest place.address.now place.name.now room
IsNameOf otherwise text (Missing path) = ⊥

-- each store is the one that the text in its place names
abbrev pub AreNamesOf : ℕ → List (List ℕ) → List StoreWanted → Type 0
AreNamesOf otherwise texts stores = AllZip (IsNameOf otherwise) texts stores
