-- Bytes and their seals.
use Rattle.std.proofs.Common.{◌≡◌, ℕ, zero, suc, ◌+◌, ◌*◌, List, ◌++◌, length, take, drop, refl, ap, sym, ◌∙◌, arith, length-append}
use Rattle.std.proofs.lemmas.List.{take_at, drop_at, length-take-le, take-append-drop}
use Rattle.std.specs.Prelude.{slice_index}
use Rattle.std.specs.Int.{to_be_bytes, w32}
use Rattle.sha2.specs.Sha256.{sha256, digest_bytes, final_hash, initial_hash_256}
use Rattle.folder_shelf.specs.Sealed.{part_hashes, seal, sealed}

length-digest_bytes : (h : List ℕ) (n : ℕ) → length (digest_bytes h n) ≡ 4 * n
unfolding digest_bytes
length-digest_bytes h zero = refl
length-digest_bytes h (suc n) =
    omega (
      arith,
      length-append (digest_bytes h n) (to_be_bytes w32 (slice_index h n)),
      length-digest_bytes h n,
    )

pub length-sha256 : (m : List ℕ) → length (sha256 m) ≡ 32
unfolding sha256
length-sha256 m = length-digest_bytes (final_hash initial_hash_256 m) 8

pub length-seal : (bytes : List ℕ) → length (seal bytes) ≡ 8
unfolding seal
length-seal bytes =
    length-take-le 8 (sha256 (part_hashes bytes)) (omega (arith, length-sha256 (part_hashes bytes)))

pub length-sealed : (bytes : List ℕ) → length (sealed bytes) ≡ length bytes + 8
unfolding sealed
length-sealed bytes = omega (arith, length-append bytes (seal bytes), length-seal bytes)

-- a sealed text, cut before its seal
pub cut_sealed : (text bytes : List ℕ) (n : ℕ) → text ≡ sealed bytes → n + 8 ≡ length text
    → (take n text ≡ bytes) × (drop n text ≡ seal bytes)
unfolding sealed
cut_sealed text bytes n e long =
    let here : length bytes ≡ n = omega (
      arith,
      long,
      ap length e,
      length-append bytes (seal bytes),
      length-seal bytes,
    ) in (
      ap (λ t. take n t) e ∙ take_at bytes (seal bytes) n here,
      ap (λ t. drop n t) e ∙ drop_at bytes (seal bytes) n here,
    )

-- what is followed by its seal is sealed
pub is_sealed : (text : List ℕ) (n : ℕ) → seal (take n text) ≡ drop n text
    → text ≡ sealed (take n text)
unfolding sealed
is_sealed text n e = sym (take-append-drop n text) ∙ ap (λ back. take n text ++ back) (sym e)
