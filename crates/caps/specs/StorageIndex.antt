-- The storage index of a key (Tahoe-LAFS, file encoding).
use Rattle.std.specs.Prelude.{ℕ, List, codes}
use Rattle.tag_hash.specs.Tagged.{tagged16, tagged16_use}
use Rattle.tag_hash.specs.Use.{Use}

unfoldable pub index_tag : List ℕ
index_tag = codes "webgate_key_to_storage_index_v1"

-- under which the shares of a key's file lie
abbrev pub index_of : List ℕ → List ℕ
index_of key = tagged16 index_tag key

-- the use of the hash in it
abbrev pub index_use : List ℕ → Use
index_use key = tagged16_use index_tag key
