-- The numbers of a cap, as those of a file.
use Rattle.std.specs.Prelude.{ℕ}
use Rattle.share_codec.specs.Params.{ParamsValue}

abbrev pub params_of : ℕ → ℕ → ℕ → ParamsValue
params_of k n size = record { k = k; n = n; size = size }
