use Rattle.std.proofs.Common.{arith}
use Rattle.caps.proofs.NumberLemmas.{read_as, no_k, no_n, no_size, not_sharing}
use Rattle.caps.proofs.stored.numbers.Goals as goal

pub returns-in_err-k : goal.returns-in_err-k
returns-in_err-k c = rw c.from_residual.ensures (no_k _ _ _ c.from.result (omega arith) (omega arith) c.in_err-k.ensures.number)

pub returns-in_err-n : goal.returns-in_err-n
returns-in_err-n c = rw c.from_residual-in_err-n.ensures (no_n _ _ _ c.from-2.result (omega arith) (omega arith) c.in_err-n.ensures.number)

pub returns-in_err-size : goal.returns-in_err-size
returns-in_err-size c = rw c.from_residual-in_err-size.ensures (no_size _ _ _ c.in_err-size.ensures.number)

pub returns-then-is_sharing : goal.returns-then-is_sharing
returns-then-is_sharing c = (
  read_as c.from.result _ _ (omega arith) c.in_ok-k.ensures.number,
  read_as c.from-2.result _ _ (omega arith) c.in_ok-n.ensures.number,
  read_as 18446744073709551615 _ _ (omega arith) c.in_ok-size.ensures.number,
  c.is_sharing.ensures.0 c.if-is_sharing.true,
  omega arith,
)

pub returns-else-is_sharing : goal.returns-else-is_sharing
returns-else-is_sharing c =
    not_sharing _ _ _ c.in_ok-k.field-0 c.in_ok-n.field-0
    (read_as c.from.result _ _ (omega arith) c.in_ok-k.ensures.number)
    (read_as c.from-2.result _ _ (omega arith) c.in_ok-n.ensures.number)
    (omega arith) (omega arith)
    (λ s. let holds = c.is_sharing.ensures.1 s in cc)
