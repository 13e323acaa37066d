-- Round keys and rounds one after another.
use Rattle.std.proofs.Common.{◌≡◌, ℕ, ◌+◌, List, refl, add-one}
use Rattle.aes_ctr.specs.Field.{times_x}
use Rattle.aes_ctr.specs.Rounds.{sub_bytes, shift_rows, mix_columns, add_round_key}
use Rattle.aes_ctr.specs.KeyExpansion.{next_round_key, round_key, x_power}
use Rattle.aes_ctr.specs.Cipher.{after_rounds, encrypt}

-- one power more
pub x_power_more : (n : ℕ) → times_x (x_power n) ≡ x_power (n + 1)
unfolding x_power
x_power_more n = rw add-one

-- one round key more
pub round_key_more : (key : List ℕ) (n : ℕ) → next_round_key (round_key key n) n ≡ round_key key (n + 1)
unfolding round_key
round_key_more key n = rw add-one

-- no round yet
pub no_rounds : (key block : List ℕ) → add_round_key block (round_key key 0) ≡ after_rounds key block 0
unfolding after_rounds
no_rounds key block = refl

-- one round more
pub one_round_more : (key block : List ℕ) (n : ℕ)
    → add_round_key (mix_columns (shift_rows (sub_bytes (after_rounds key block n)))) (round_key key (n + 1))
    ≡ after_rounds key block (n + 1)
unfolding after_rounds
one_round_more key block n = rw add-one

-- the last round
pub last_round : (key block : List ℕ)
    → add_round_key (shift_rows (sub_bytes (after_rounds key block 9))) (round_key key 10) ≡ encrypt key block
unfolding encrypt
last_round key block = refl

-- round key 0 is the key
pub round_key_none : (key : List ℕ) → round_key key 0 ≡ key
unfolding round_key
round_key_none key = refl
