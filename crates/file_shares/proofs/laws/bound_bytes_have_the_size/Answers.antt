use Rattle.std.proofs.Common.{length}
use Rattle.std.proofs.Math.Logic.{∥∥₁_elim}
use Rattle.std.specs.Coded.{Coded-set, coded_ℕ}
use Rattle.file_shares.specs.Numbers.{params_of}
use Rattle.file_shares.specs.Bound.{IsBoundBy}
use Rattle.file_shares.proofs.laws.bound_bytes_have_the_size.Goals as goal

pub returns : goal.returns
returns c f bytes bound =
    ∥∥₁_elim bound (Coded-set coded_ℕ (length bytes) f.size) (λ (by_block : IsBoundBy (params_of f.k f.n f.size) f.key f.ueb bytes). by_block.size)
