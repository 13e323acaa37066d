-- The health of a file, by the fields of a verify cap and the row of its index.
use Rattle.std.specs.Prelude.{ℕ, List, [], ◌∷◌, length, map, filter, flat_map, Bool, true, false, Option, Some, None}
use Rattle.std.specs.List.{filter_map, range_with_len}
use Rattle.share_codec.specs.Params.{ParamsValue}
use Rattle.share_codec.specs.GoodShare.{GoodShare}
use Rattle.caps.specs.Fields.{VerifyValue}
use Rattle.file_shares.specs.Numbers.{params_of}
use Rattle.share_codec.specs.GoodShare.{good_share}
use Rattle.file_shares.specs.Row.{ShareTable, ServerShare, places, good_shares}

-- how many shares are needed and how many expected, of how many numbers one is good, the server and number of each share
-- that isn't, and those of each that is
pub record HealthValue : Type 0 where
  pub needed : ℕ
  pub expected : ℕ
  pub good : ℕ
  pub corrupt : List (ℕ × ℕ)
  pub places : List (ℕ × ℕ)

abbrev pub is_some_place : List ServerShare → Bool
is_some_place [] = false
is_some_place (place ∷ more) = true

-- the numbers below n of which something stands
abbrev pub standing_numbers : ℕ → ShareTable → List ℕ
standing_numbers n row = filter (λ number. is_some_place (places row number)) (range_with_len 0 n)

-- the server and number of each share that stands of a number
abbrev pub standing_places : ℕ → List ServerShare → List (ℕ × ℕ)
standing_places number found = map (λ place. (place.0, number)) found

-- and of each that stands of the numbers below n, in the order of the numbers, and then of the servers
abbrev pub standing_in : ℕ → ShareTable → List (ℕ × ℕ)
standing_in n row = flat_map (λ number. standing_places number (places row number)) (range_with_len 0 n)

-- the server and number of a share that isn't good
abbrev pub if_bad : ℕ → ℕ → Option GoodShare → Option (ℕ × ℕ)
if_bad server number None = Some (server, number)
if_bad server number (Some good) = None

-- those among the places of a number
abbrev pub bad_places : ParamsValue → List ℕ → ℕ → List ServerShare → List (ℕ × ℕ)
bad_places p ueb number found = filter_map (λ place. if_bad place.0 number (good_share place.1 number p ueb)) found

-- in the order of the numbers, and then of the servers
abbrev pub corrupt_in : ParamsValue → List ℕ → ShareTable → List (ℕ × ℕ)
corrupt_in p ueb row = flat_map (λ number. bad_places p ueb number (places row number)) (range_with_len 0 p.n)

-- the server and number of a good share
abbrev pub if_good : ℕ → ℕ → Option GoodShare → Option (ℕ × ℕ)
if_good server number None = None
if_good server number (Some good) = Some (server, number)

-- those among the places of a number
abbrev pub good_places : ParamsValue → List ℕ → ℕ → List ServerShare → List (ℕ × ℕ)
good_places p ueb number found = filter_map (λ place. if_good place.0 number (good_share place.1 number p ueb)) found

-- in the order of the numbers, and then of the servers
abbrev pub good_in : ParamsValue → List ℕ → ShareTable → List (ℕ × ℕ)
good_in p ueb row = flat_map (λ number. good_places p ueb number (places row number)) (range_with_len 0 p.n)

-- without `verify` what stands is counted and not looked at
abbrev pub check : VerifyValue → Bool → ShareTable → HealthValue
check v false row =
    record { needed = v.k; expected = v.n; good = length (standing_numbers v.n row); corrupt = []; places = standing_in v.n row }
check v true row =
    let p = params_of v.k v.n v.size in
    record { needed = v.k; expected = v.n; good = length (good_shares p v.ueb row); corrupt = corrupt_in p v.ueb row; places = good_in p v.ueb row }
