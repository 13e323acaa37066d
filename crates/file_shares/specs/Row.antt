-- What stands under one storage index, and what of it is good.
use Rattle.std.specs.Prelude.{ℕ, List, [], ◌∷◌, Option, None, flat_map}
use Rattle.std.specs.Option.{option_map, option_map_or, option_or}
use Rattle.std.specs.List.{filter_map, range_with_len}
use Rattle.tag_hash.specs.Use.{Use}
use Rattle.share_codec.specs.Params.{ParamsValue}
use Rattle.share_codec.specs.GoodShare.{GoodShare}
use Rattle.share_codec.specs.Uses.{meets_uses}
use Rattle.share_codec.specs.GoodShare.{good_share}

-- what stands at each server under each number
abbrev pub ShareTable : Type 0
ShareTable = ℕ → ℕ → Option (List ℕ)

-- more servers there aren't
unfoldable pub most_servers : ℕ
most_servers = 256

-- a server, and what stands there
abbrev pub ServerShare : Type 0
ServerShare = ℕ × List ℕ

-- the places at which something stands of a number, in the order of the servers
abbrev pub places : ShareTable → ℕ → List ServerShare
places row number = filter_map (λ server. option_map (λ s. (server, s)) (row server number)) (range_with_len 0 most_servers)

-- the first good share among the places of a number
abbrev pub first_good : ParamsValue → List ℕ → ℕ → List ServerShare → Option GoodShare
first_good p ueb number [] = None
first_good p ueb number (place ∷ more) = option_or (good_share place.1 number p ueb) (first_good p ueb number more)

-- the good share of a number, at the least server that has one
abbrev pub good_at : ParamsValue → List ℕ → ShareTable → ℕ → Option GoodShare
good_at p ueb row number = first_good p ueb number (places row number)

-- those of all numbers that have one, in the order of the numbers
abbrev pub good_shares : ParamsValue → List ℕ → ShareTable → List GoodShare
good_shares p ueb row = filter_map (good_at p ueb row) (range_with_len 0 p.n)

-- what is hashed to verify what stands at a place
abbrev pub place_uses : ParamsValue → ShareTable → ℕ → ℕ → List Use
place_uses p row number server = option_map_or (λ s. meets_uses s number p) (row server number) []

-- and all that stands in a row
unfoldable pub row_uses : ParamsValue → ShareTable → List Use
row_uses p row = flat_map (λ number. flat_map (place_uses p row number) (range_with_len 0 most_servers)) (range_with_len 0 p.n)
