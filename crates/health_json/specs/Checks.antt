-- JSON of checks (Tahoe-LAFS's webapi document, `t=check`): compact, keys in the order of their bytes.
use Rattle.std.specs.Prelude.{ℕ, Bool, ◌==◌, nat_le, if◌then◌else◌, List, [], ◌∷◌, ◌++◌, length, map, codes, decimal, Option, Some, None}
use Rattle.std.specs.List.{concat, join_with_byte}
use Rattle.base32_text.specs.Base32.{spelling}
use Rattle.file_shares.specs.Check.{HealthValue}
use Rattle.json_view.specs.Strings.{quoted}

abbrev pub truth : Bool → List ℕ
truth value = if value then codes "true" else codes "false"

-- a share that isn't good: its server, the storage index, given as a JSON string, and its number
unfoldable pub bad_share_text : List ℕ → ℕ × ℕ → List ℕ
bad_share_text index share = concat (codes "[" ∷ decimal share.0 ∷ codes "," ∷ index ∷ codes "," ∷ decimal share.1 ∷ codes "]" ∷ [])

-- how many shares are not good, were made, are good and are enough; a file is healthy where all that were made are good
unfoldable pub counts_text : HealthValue → List ℕ
counts_text health = concat (
    codes "{\"results\":{\"count-corrupt-shares\":" ∷ decimal (length health.corrupt)
    ∷ codes ",\"count-shares-expected\":" ∷ decimal health.expected
    ∷ codes ",\"count-shares-good\":" ∷ decimal health.good
    ∷ codes ",\"count-shares-needed\":" ∷ decimal health.needed
    ∷ codes ",\"healthy\":" ∷ truth (health.good == health.expected)
    ∷ codes ",\"list-corrupt-shares\":[" ∷ [])

-- the check of the file whose shares lie under a storage index; it is recoverable where as many are good as are enough
unfoldable pub check_text : List ℕ → HealthValue → List ℕ
check_text index health = concat (
    counts_text health ∷ join_with_byte 44 (map (bad_share_text (quoted (spelling index))) health.corrupt)
    ∷ codes "],\"recoverable\":" ∷ truth (nat_le health.needed health.good)
    ∷ codes "},\"storage-index\":" ∷ quoted (spelling index) ∷ codes "}" ∷ [])

-- before numbers with their servers a place more: its server is one more of the first number, where it is of that, else it
-- stands alone under its own
abbrev pub with_place : ℕ × ℕ → List (ℕ × List ℕ) → List (ℕ × List ℕ)
with_place place [] = (place.1, place.0 ∷ []) ∷ []
with_place place (group ∷ more) =
    if place.1 == group.0 then (place.1, place.0 ∷ group.1) ∷ more else (place.1, place.0 ∷ []) ∷ group ∷ more

-- the numbers of places, which are servers and numbers in the order of the numbers, each with its servers in their order
abbrev pub sharemap : List (ℕ × ℕ) → List (ℕ × List ℕ)
sharemap [] = []
sharemap (place ∷ more) = with_place place (sharemap more)

-- and the places of a number with its servers
abbrev pub servers_places : ℕ × List ℕ → List (ℕ × ℕ)
servers_places group = map (λ server. (server, group.0)) group.1

-- a number as a key, and a list of its servers
unfoldable pub servers_text : ℕ × List ℕ → List ℕ
servers_text group = concat (quoted (decimal group.0) ∷ codes ":[" ∷ join_with_byte 44 (map decimal group.1) ∷ codes "]" ∷ [])

-- an object from numbers to servers
unfoldable pub sharemap_text : List (ℕ × ℕ) → List ℕ
sharemap_text places = concat (codes "{" ∷ join_with_byte 44 (map servers_text (sharemap places)) ∷ codes "}" ∷ [])

-- the same check, and where the shares are
unfoldable pub mapped_check_text : List ℕ → HealthValue → List ℕ
mapped_check_text index health = concat (
    counts_text health ∷ join_with_byte 44 (map (bad_share_text (quoted (spelling index))) health.corrupt)
    ∷ codes "],\"recoverable\":" ∷ truth (nat_le health.needed health.good)
    ∷ codes ",\"sharemap\":" ∷ sharemap_text health.places
    ∷ codes "},\"storage-index\":" ∷ quoted (spelling index) ∷ codes "}" ∷ [])

-- a place after another one, of which this was the number; for private clauses
abbrev pub place_text : Option ℕ → ℕ → ℕ → List ℕ
place_text None server number = quoted (decimal number) ++ (codes ":[" ++ decimal server)
place_text (Some before) server number =
    if before == number then codes "," ++ decimal server else codes "]," ++ (quoted (decimal number) ++ (codes ":[" ++ decimal server))

-- the end after a place, if there is one; for private clauses
abbrev pub end_text : Option ℕ → List ℕ
end_text None = codes "}"
end_text (Some before) = codes "]}"

-- the check of a file or directory whose bytes stand in its cap
unfoldable pub literal_check_text : List ℕ
literal_check_text = codes "{\"results\":{\"healthy\":true},\"storage-index\":\"\"}"
