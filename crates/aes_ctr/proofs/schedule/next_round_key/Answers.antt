use Rattle.std.specs.Int.Bits.{xor_zero_r}
use Rattle.aes_ctr.specs.Rounds.{sub_bytes}
use Rattle.aes_ctr.specs.KeyExpansion.{next_round_key, next_cell, turned_column}
use Rattle.aes_ctr.proofs.schedule.next_round_key.Goals as goal

pub returns : goal.returns
unfolding next_round_key next_cell turned_column sub_bytes
returns c = λ n power_is. simp (power_is, c.sub_bytes-s.ensures, xor_zero_r)
