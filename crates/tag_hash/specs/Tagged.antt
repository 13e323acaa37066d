-- Tagged hashes (Tahoe-LAFS, file encoding): a tag before the value keeps the purposes of a hash apart.
use Rattle.std.specs.Prelude.{ℕ, List, [], ◌∷◌, ◌++◌, take}
use Rattle.tag_hash.specs.Netstring.{netstring}
use Rattle.tag_hash.specs.Use.{Use, double_sha256}

-- the netstring of the tag, then the value
unfoldable pub tagged_text : List ℕ → List ℕ → List ℕ
tagged_text tag value = netstring tag ++ value

unfoldable pub tagged : List ℕ → List ℕ → List ℕ
tagged tag value = double_sha256 (tagged_text tag value)

-- its first 16 bytes
unfoldable pub tagged16 : List ℕ → List ℕ → List ℕ
tagged16 tag value = take 16 (tagged tag value)

-- the uses of the hash in each
abbrev pub tagged_use : List ℕ → List ℕ → Use
tagged_use tag value = record { text = tagged_text tag value; size = 32 }

abbrev pub tagged16_use : List ℕ → List ℕ → Use
tagged16_use tag value = record { text = tagged_text tag value; size = 16 }

-- for private clauses
abbrev pub tagged_uses : List ℕ → List ℕ → List Use
tagged_uses tag value = tagged_use tag value ∷ []

-- for private clauses
abbrev pub tagged16_uses : List ℕ → List ℕ → List Use
tagged16_uses tag value = tagged16_use tag value ∷ []
