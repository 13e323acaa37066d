use Rattle.std.proofs.Common.{length, ap, arith, length-append, codes}
use Rattle.redis_store.specs.Keys.{digits}
use Rattle.redis_store.proofs.Digits.{length-digits}
use Rattle.redis_store.proofs.laws.grid_name_is_no_key.Goals as goal

pub returns : goal.returns
returns c = λ grid index number is e.
    omega (
      arith,
      ap length e,
      length-append grid (digits index number),
      length-append grid (codes "grid"),
      length-digits index number is,
    )
