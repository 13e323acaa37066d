-- HMAC with SHA-256 (RFC 2104, section 2; FIPS 198-1, section 4): B is 64 bytes, L is 32.
use Rattle.std.specs.Prelude.{ℕ, ◌-◌, List, ◌++◌, length, map, replicate, bit_xor, nat_lt, if◌then◌else◌}
use Rattle.sha2.specs.Sha256.{sha256}

-- a key that is longer than a block is hashed first
abbrev pub short_key : List ℕ → List ℕ
short_key key = if nat_lt 64 (length key) then sha256 key else key

-- the key with zeros behind it, a whole block
unfoldable pub block_key : List ℕ → List ℕ
block_key key = short_key key ++ replicate (64 - length (short_key key)) 0

-- each byte of a block added to one byte, bit by bit
abbrev pub added_to_each : ℕ → List ℕ → List ℕ
added_to_each pad block = map (λ byte. bit_xor byte pad) block

-- the key for the inner hash, by the byte ipad, and that for the outer hash, by opad
unfoldable pub inner_key : List ℕ → List ℕ
inner_key key = added_to_each 0x36 (block_key key)

unfoldable pub outer_key : List ℕ → List ℕ
outer_key key = added_to_each 0x5c (block_key key)

-- H(K ⊕ opad, H(K ⊕ ipad, text))
unfoldable pub hmac_sha256 : List ℕ → List ℕ → List ℕ
hmac_sha256 key message = sha256 (outer_key key ++ sha256 (inner_key key ++ message))
