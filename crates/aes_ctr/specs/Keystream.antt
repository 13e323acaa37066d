-- The keystream of counter mode (SP 800-38A, section 6.5): the encryptions of the counter blocks 0, 1,
-- 2, .. one after another.
use Rattle.std.specs.Prelude.{ℕ, ◌/◌, ◌%◌, List, slice_index}
use Rattle.std.specs.Int.{to_be_bytes, w128}
use Rattle.aes_ctr.specs.Cipher.{encrypt}

-- counter block n: the number n in 128 bits, as 16 bytes, the highest first
unfoldable pub counter_block : ℕ → List ℕ
counter_block n = to_be_bytes w128 n

-- byte p of the keystream of a key of 16 bytes
unfoldable pub stream : List ℕ → ℕ → ℕ
stream key p = slice_index (encrypt key (counter_block (p / 16))) (p % 16)
