-- The cipher with the entries of the S-box in place of their definition, by which examples are soon computed.
use Rattle.std.proofs.Common.{◌≡◌, ℕ, zero, suc, ◌+◌, ◌%◌, ◌==◌, List, Bool, true, false, cond, nat_lt, bit_xor, get_or, refl, sym, ap, ◌∙◌}
use Rattle.std.specs.Prelude.{if◌then◌else◌}
use Rattle.std.proofs.lemmas.Bool.{ltb-true}
use Rattle.aes_ctr.specs.State.{cell, state}
use Rattle.aes_ctr.specs.SBox.{s_box}
use Rattle.aes_ctr.specs.Rounds.{sub_bytes, shift_rows, mix_columns, add_round_key}
use Rattle.aes_ctr.specs.KeyExpansion.{round_key, next_round_key, next_cell, turned_column, x_power}
use Rattle.aes_ctr.specs.Cipher.{encrypt, after_rounds}
use Rattle.aes_ctr.proofs.TableLemmas.{s_box_of, s_box_values}

-- ---- the cipher with any function on bytes in place of the S-box
unfoldable pub sub_by : (ℕ → ℕ) → List ℕ → List ℕ
sub_by f s = state (λ row column. f (cell s row column))

unfoldable pub turned_by : (ℕ → ℕ) → List ℕ → ℕ → ℕ → ℕ
turned_by f key n row = bit_xor (f (cell key ((row + 1) % 4) 3)) (if row == 0 then x_power n else 0)

unfoldable pub cell_by : (ℕ → ℕ) → List ℕ → ℕ → ℕ → ℕ → ℕ
cell_by f key n row zero = bit_xor (cell key row 0) (turned_by f key n row)
cell_by f key n row (suc column) = bit_xor (cell key row (suc column)) (cell_by f key n row column)

unfoldable pub key_by : (ℕ → ℕ) → List ℕ → ℕ → List ℕ
key_by f key zero = key
key_by f key (suc n) = state (cell_by f (key_by f key n) n)

unfoldable pub rounds_by : (ℕ → ℕ) → List ℕ → List ℕ → ℕ → List ℕ
rounds_by f key block zero = add_round_key block (key_by f key 0)
rounds_by f key block (suc n) = add_round_key (mix_columns (shift_rows (sub_by f (rounds_by f key block n)))) (key_by f key (suc n))

unfoldable pub encrypt_by : (ℕ → ℕ) → List ℕ → List ℕ → List ℕ
encrypt_by f key block = add_round_key (shift_rows (sub_by f (rounds_by f key block 9))) (key_by f key 10)

-- ---- with the S-box it is the cipher
cell_same : (key : List ℕ) (n row column : ℕ) → next_cell key n row column ≡ cell_by s_box key n row column
unfolding next_cell turned_column cell_by turned_by
cell_same key n row zero = refl
cell_same key n row (suc column) = ap (bit_xor (cell key row (suc column))) (cell_same key n row column)

sub_same : (s : List ℕ) → sub_bytes s ≡ sub_by s_box s
unfolding sub_bytes sub_by
sub_same s = refl

next_same : (key : List ℕ) (n : ℕ) → next_round_key key n ≡ state (cell_by s_box key n)
unfolding next_round_key
next_same key n = λ i. state (λ row column. cell_same key n row column i)

key_same : (key : List ℕ) (n : ℕ) → round_key key n ≡ key_by s_box key n
unfolding round_key key_by
key_same key zero = refl
key_same key (suc n) = ap (λ (k : List ℕ). next_round_key k n) (key_same key n) ∙ next_same (key_by s_box key n) n

rounds_same : (key block : List ℕ) (n : ℕ) → after_rounds key block n ≡ rounds_by s_box key block n
unfolding after_rounds rounds_by
rounds_same key block zero = ap (add_round_key block) (key_same key 0)
rounds_same key block (suc n) =
    ap (λ (s : List ℕ). add_round_key (mix_columns (shift_rows s)) (round_key key (suc n))) (ap sub_bytes (rounds_same key block n) ∙ sub_same (rounds_by s_box key block n))
    ∙ ap (add_round_key (mix_columns (shift_rows (sub_by s_box (rounds_by s_box key block n))))) (key_same key (suc n))

encrypt_same : (key block : List ℕ) → encrypt key block ≡ encrypt_by s_box key block
unfolding encrypt encrypt_by
encrypt_same key block =
    ap (λ (s : List ℕ). add_round_key (shift_rows s) (round_key key 10)) (ap sub_bytes (rounds_same key block 9) ∙ sub_same (rounds_by s_box key block 9))
    ∙ ap (add_round_key (shift_rows (sub_by s_box (rounds_by s_box key block 9)))) (key_same key 10)

-- ---- and with its entries as well
unfoldable pub entry : ℕ → ℕ
entry x = cond (nat_lt x 256) (get_or s_box_values x 0) (s_box x)

entry_same : (x : ℕ) → s_box x ≡ entry x
unfolding entry
entry_same x = by_case (nat_lt x 256) refl
  where
    by_case : (b : Bool) → nat_lt x 256 ≡ b → s_box x ≡ cond b (get_or s_box_values x 0) (s_box x)
    by_case true lt = sym (s_box_of x (ltb-true x 256 lt))
    by_case false ge = refl

pub by_entries : (key block : List ℕ) → encrypt key block ≡ encrypt_by entry key block
by_entries key block = encrypt_same key block ∙ ap (λ (f : ℕ → ℕ). encrypt_by f key block) (λ i x. entry_same x i)
