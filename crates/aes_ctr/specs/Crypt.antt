-- Bytes under the keystream (SP 800-38A, section 6.5): encryption and decryption are the same.
use Rattle.std.specs.Prelude.{ℕ, ◌+◌, List, [], ◌∷◌, bit_xor}
use Rattle.aes_ctr.specs.Keystream.{stream}

-- each byte added, bit by bit, to the keystream's byte at its place, where the first is at place p
unfoldable pub crypt_from : List ℕ → ℕ → List ℕ → List ℕ
crypt_from key p [] = []
crypt_from key p (b ∷ bs) = bit_xor b (stream key p) ∷ crypt_from key (p + 1) bs

-- the same from place 0
unfoldable pub crypt : List ℕ → List ℕ → List ℕ
crypt key bytes = crypt_from key 0 bytes
