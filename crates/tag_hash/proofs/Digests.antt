-- Digests are bytes.
use Rattle.std.proofs.Common.{ℕ, zero, suc, ◌<◌, List, arith}
use Rattle.std.specs.Prelude.{All, slice_index}
use Rattle.std.specs.Int.{byte_at, bytes_high_first, to_be_bytes, w32}
use Rattle.std.proofs.lemmas.List.Elements.{All-nil, All-cons, All-append, All-take}
use Rattle.sha2.specs.Sha256.{sha256, digest_bytes, final_hash, initial_hash_256}
use Rattle.tag_hash.specs.Use.{double_sha256}
use Rattle.tag_hash.specs.Pair.{pair, pair_text}
use Rattle.tag_hash.specs.Tagged.{tagged, tagged16, tagged_text}

abbrev AreSmall : List ℕ → Type 0
AreSmall bytes = All (λ b. b < 256) bytes

byte_small : (k n : ℕ) → byte_at k n < 256
byte_small zero n = omega arith
byte_small (suc k) n = omega arith

high_first : (k n : ℕ) → AreSmall (bytes_high_first k n)
high_first zero n = All-nil (λ b. b < 256)
high_first (suc k) n = All-cons (λ b. b < 256) (byte_at k n) (bytes_high_first k n) (byte_small k n) (high_first k n)

digest_bytes-are : (h : List ℕ) (n : ℕ) → AreSmall (digest_bytes h n)
unfolding digest_bytes
digest_bytes-are h zero = All-nil (λ b. b < 256)
digest_bytes-are h (suc n) = All-append (λ b. b < 256) (digest_bytes h n) (to_be_bytes w32 (slice_index h n)) (digest_bytes-are h n) (high_first 4 (slice_index h n))

sha256-bytes : (m : List ℕ) → AreSmall (sha256 m)
unfolding sha256
sha256-bytes m = digest_bytes-are (final_hash initial_hash_256 m) 8

double-bytes : (m : List ℕ) → AreSmall (double_sha256 m)
unfolding double_sha256
double-bytes m = sha256-bytes (sha256 m)

pub tagged-bytes : (tag value : List ℕ) → AreSmall (tagged tag value)
unfolding tagged
tagged-bytes tag value = double-bytes (tagged_text tag value)

pub tagged16-bytes : (tag value : List ℕ) → AreSmall (tagged16 tag value)
unfolding tagged16
tagged16-bytes tag value = All-take (λ b. b < 256) 16 (tagged tag value) (tagged-bytes tag value)

pub pair-bytes : (tag first second : List ℕ) → AreSmall (pair tag first second)
unfolding pair
pair-bytes tag first second = double-bytes (pair_text tag first second)
