-- The values that replies are the texts of.
use Rattle.std.specs.Prelude.{ℕ, ◌^◌, ◌<◌, ◌==◌, nat_le, true, List, [], ◌∷◌, length, codes, decimal, All}
use Rattle.serde_json.specs.Data.{Data, null, boolean, number, unsigned, string, array, object, Items, item, no_items, Members, no_members, member, put}
use Rattle.base32_text.specs.Base32.{spelling}
use Rattle.file_shares.specs.Check.{HealthValue}
use Rattle.health_json.specs.Checks.{sharemap}

-- a share that isn't good: its server, the storage index and its number
abbrev pub share_value : List ℕ → ℕ × ℕ → Data
share_value index share =
    array (item (number (unsigned share.0)) (item (string (spelling index)) (item (number (unsigned share.1)) no_items)))

abbrev pub shares_value : List ℕ → List (ℕ × ℕ) → Items
shares_value index [] = no_items
shares_value index (share ∷ more) = item (share_value index share) (shares_value index more)

-- what every check says, and what else
abbrev pub results_value : List ℕ → HealthValue → Members → Members
results_value index health more =
    member (codes "count-corrupt-shares") (number (unsigned (length health.corrupt)))
    (member (codes "count-shares-expected") (number (unsigned health.expected))
    (member (codes "count-shares-good") (number (unsigned health.good))
    (member (codes "count-shares-needed") (number (unsigned health.needed))
    (member (codes "healthy") (boolean (health.good == health.expected))
    (member (codes "list-corrupt-shares") (array (shares_value index health.corrupt))
    (member (codes "recoverable") (boolean (nat_le health.needed health.good)) more))))))

-- an object of results, and the storage index
abbrev pub checked_value : List ℕ → Members → Data
checked_value index results =
    object (member (codes "results") (object results) (member (codes "storage-index") (string (spelling index)) no_members))

-- a check
abbrev pub check_value : List ℕ → HealthValue → Data
check_value index health = checked_value index (results_value index health no_members)

abbrev pub servers_value : List ℕ → Items
servers_value [] = no_items
servers_value (server ∷ more) = item (number (unsigned server)) (servers_value more)

-- lists of servers under their numbers
abbrev pub sharemap_value : List (ℕ × List ℕ) → Members
sharemap_value [] = no_members
sharemap_value (group ∷ more) = member (decimal group.0) (array (servers_value group.1)) (sharemap_value more)

-- a check that says where the shares are
abbrev pub mapped_check_value : List ℕ → HealthValue → Data
mapped_check_value index health =
    checked_value index (results_value index health (member (codes "sharemap") (object (sharemap_value (sharemap health.places))) no_members))

-- a value as it is read: in each object the keys in the order of their bytes, of which `10` is before `9`, each once
abbrev mutual
  pub in_key_order : Data → Data
  in_key_order null = null
  in_key_order (boolean b) = boolean b
  in_key_order (number n) = number n
  in_key_order (string text) = string text
  in_key_order (array items) = array (items_in_key_order items)
  in_key_order (object members) = object (members_in_key_order members no_members)

  pub items_in_key_order : Items → Items
  items_in_key_order no_items = no_items
  items_in_key_order (item value more) = item (in_key_order value) (items_in_key_order more)

  pub members_in_key_order : Members → Members → Members
  members_in_key_order no_members found = found
  members_in_key_order (member key value more) found = members_in_key_order more (put key (in_key_order value) found)

-- the check of a file or directory whose bytes stand in its cap
abbrev pub literal_check_value : Data
literal_check_value =
    object (member (codes "results") (object (member (codes "healthy") (boolean true) no_members)) (member (codes "storage-index") (string []) no_members))

-- counts, servers and numbers of 64 bits, as those of each health are
pub record IsCounted (health : HealthValue) : Type 0 where
  pub needed : health.needed < 2 ^ 64
  pub expected : health.expected < 2 ^ 64
  pub good : health.good < 2 ^ 64
  pub corrupt : length health.corrupt < 2 ^ 64
  pub shares : All (λ share. (share.0 < 2 ^ 64) × (share.1 < 2 ^ 64)) health.corrupt
