-- Bytes with a seal behind them.
use Rattle.std.specs.Prelude.{ℕ, ◌+◌, ◌*◌, ◌/◌, List, [], ◌∷◌, ◌++◌, length, take, drop, map, codes}
use Rattle.std.specs.List.{concat}
use Rattle.sha2.specs.Sha256.{sha256}
use Rattle.tag_hash.specs.Tagged.{tagged}

-- bytes in four parts: three of a quarter of their number, rounded up, as far as they go, and one of the rest
unfoldable pub four_parts : List ℕ → List (List ℕ)
four_parts bytes =
    let quarter = (length bytes + 3) / 4 in
    take quarter bytes ∷ take quarter (drop quarter bytes) ∷ take quarter (drop (2 * quarter) bytes)
    ∷ drop (3 * quarter) bytes ∷ []

-- the tagged hashes of the parts, one behind the other
abbrev pub part_hashes : List ℕ → List ℕ
part_hashes bytes = concat (map (tagged (codes "wozhinnam shelf seal")) (four_parts bytes))

-- the first 8 bytes of their SHA-256 (FIPS 180-4, 6.2)
unfoldable pub seal : List ℕ → List ℕ
seal bytes = take 8 (sha256 (part_hashes bytes))

-- the text of a file: bytes, and their seal
unfoldable pub sealed : List ℕ → List ℕ
sealed bytes = bytes ++ seal bytes
