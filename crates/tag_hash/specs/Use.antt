-- A use of the hash: a string that is hashed twice, and how many bytes of the outcome are taken.
use Rattle.std.specs.Prelude.{ℕ, List, take}
use Rattle.sha2.specs.Sha256.{sha256}

-- `size` is 16 or 32
pub record Use : Type 0 where
  pub text : List ℕ
  pub size : ℕ

-- SHA-256 of SHA-256 (FIPS 180-4, 6.2)
unfoldable pub double_sha256 : List ℕ → List ℕ
double_sha256 text = sha256 (sha256 text)

-- the first bytes of the double hash of a use's string
abbrev pub digest : Use → List ℕ
digest hashed = take hashed.size (double_sha256 hashed.text)
