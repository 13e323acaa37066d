-- What a hasher of tagged values has been given.
use Rattle.std.specs.Prelude.{ℕ, List}
use Rattle.sha2.specs.Hashers.{Holds256}
use Rattle.tag_hash.specs.Tagged.{tagged_text}
use Rattle.tag_hash.specs.declared.hashes.TagHasher.{TagHasher}

-- the hasher was made for this tag, and was given this value so far
unfoldable pub HasTaken : TagHasher → List ℕ → List ℕ → Type 0
HasTaken hasher tag value = Holds256 hasher.inner (tagged_text tag value)
