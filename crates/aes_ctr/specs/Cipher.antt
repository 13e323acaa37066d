-- AES-128 on one block of 16 bytes (FIPS 197, section 5.1), with 10 rounds.
use Rattle.std.specs.Prelude.{ℕ, zero, suc, List}
use Rattle.aes_ctr.specs.Rounds.{sub_bytes, shift_rows, mix_columns, add_round_key}
use Rattle.aes_ctr.specs.KeyExpansion.{round_key}

-- the state after n rounds on a block
unfoldable pub after_rounds : List ℕ → List ℕ → ℕ → List ℕ
after_rounds key block zero = add_round_key block (round_key key 0)
after_rounds key block (suc n) =
    add_round_key (mix_columns (shift_rows (sub_bytes (after_rounds key block n)))) (round_key key (suc n))

-- the encryption of a block: nine rounds, and a tenth without MixColumns
unfoldable pub encrypt : List ℕ → List ℕ → List ℕ
encrypt key block =
    add_round_key (shift_rows (sub_bytes (after_rounds key block 9))) (round_key key 10)
