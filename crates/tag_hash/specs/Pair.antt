-- The tagged hash of a pair of values (Tahoe-LAFS, file encoding).
use Rattle.std.specs.Prelude.{ℕ, List, [], ◌∷◌, ◌++◌}
use Rattle.tag_hash.specs.Netstring.{netstring}
use Rattle.tag_hash.specs.Use.{Use, double_sha256}

-- the netstrings of the tag and of both values
unfoldable pub pair_text : List ℕ → List ℕ → List ℕ → List ℕ
pair_text tag first second = netstring tag ++ (netstring first ++ netstring second)

unfoldable pub pair : List ℕ → List ℕ → List ℕ → List ℕ
pair tag first second = double_sha256 (pair_text tag first second)

-- the use of the hash in it
abbrev pub pair_use : List ℕ → List ℕ → List ℕ → Use
pair_use tag first second = record { text = pair_text tag first second; size = 32 }

-- for private clauses
abbrev pub pair_uses : List ℕ → List ℕ → List ℕ → List Use
pair_uses tag first second = pair_use tag first second ∷ []
