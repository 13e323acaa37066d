-- What was gathered or told of one storage index, number by number.
use Rattle.std.specs.Prelude.{ℕ, List, [], length, map, filter, flat_map, not, ◌==◌, slice_index_or, Option}
use Rattle.std.specs.List.{filter_map, range_with_len}
use Rattle.share_codec.specs.Params.{ParamsValue}
use Rattle.share_codec.specs.GoodShare.{GoodShare}
use Rattle.caps.specs.Fields.{ReadValue}
use Rattle.file_shares.specs.Numbers.{params_of}
use Rattle.file_shares.specs.Row.{ServerShare, first_good}
use Rattle.file_shares.specs.Check.{bad_places, good_places}
use Rattle.file_shares.specs.Fit.{fit_in}

-- a share's server, number and bytes
abbrev pub Found : Type 0
Found = ℕ × ℕ × List ℕ

-- a string that was gathered, as its server, its number and its bytes
abbrev pub found_string : {A : Type 0} → (A → List ℕ) → ℕ × ℕ × A → Found
found_string bytes found = (found.0, found.1, bytes found.2)

-- places as they are lent
abbrev pub places_of : List (ℕ × List ℕ) → List ServerShare
places_of lent = map (λ place. (place.0, place.1)) lent

-- what was gathered of a number
abbrev pub of_number : ℕ → List Found → List ServerShare
of_number number found = map (λ f. (f.0, f.2)) (filter (λ f. f.1 == number) found)

-- and of each number below n, a row for each
abbrev pub by_number : ℕ → List Found → List (List ServerShare)
by_number n found = map (λ number. of_number number found) (range_with_len 0 n)

-- the good shares of the first rows, each number's first
abbrev pub good_below : ParamsValue → List ℕ → List (List ServerShare) → ℕ → List GoodShare
good_below p ueb rows n = filter_map (λ number. first_good p ueb number (slice_index_or rows number [])) (range_with_len 0 n)

-- the places in the first rows whose shares aren't good
abbrev pub bad_below : ParamsValue → List ℕ → List (List ServerShare) → ℕ → List (ℕ × ℕ)
bad_below p ueb rows n = flat_map (λ number. bad_places p ueb number (slice_index_or rows number [])) (range_with_len 0 n)

-- the places in the first rows whose shares are good
abbrev pub places_below : ParamsValue → List ℕ → List (List ServerShare) → ℕ → List (ℕ × ℕ)
places_below p ueb rows n = flat_map (λ number. good_places p ueb number (slice_index_or rows number [])) (range_with_len 0 n)

-- of these places the servers of a number
abbrev pub servers_of : ℕ → List (ℕ × ℕ) → List ℕ
servers_of number places = map (λ p. p.0) (filter (λ p. p.1 == number) places)

-- and of each number below n, a row for each
abbrev pub servers_by_number : ℕ → List (ℕ × ℕ) → List (List ℕ)
servers_by_number n places = map (λ number. servers_of number places) (range_with_len 0 n)

-- the places of a number
abbrev pub places_at : ℕ → List ℕ → List (ℕ × ℕ)
places_at number servers = map (λ server. (server, number)) servers

-- all places in the first rows of servers
abbrev pub standing_below : List (List ℕ) → ℕ → List (ℕ × ℕ)
standing_below rows n = flat_map (λ number. places_at number (slice_index_or rows number [])) (range_with_len 0 n)

-- the numbers of the first rows that have a server
abbrev pub some_below : List (List ℕ) → ℕ → List ℕ
some_below rows n = filter (λ number. not (length (slice_index_or rows number []) == 0)) (range_with_len 0 n)

-- the bytes that it gives by the fields of a read cap
abbrev pub fit_of : List Found → ReadValue → Option (List ℕ)
fit_of found f = let p = params_of f.k f.n f.size in fit_in p f.key (good_below p f.ueb (by_number p.n found) p.n)
