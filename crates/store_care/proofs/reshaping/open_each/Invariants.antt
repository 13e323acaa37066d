use Rattle.std.proofs.Common.{◌≡◌, vec_len}
use Rattle.store_care.proofs.reshaping.open_each.Given as goal

-- a store was opened for each place before this one
abbrev pub invariant-loop-place : goal.invariant-loop-place
invariant-loop-place g l = vec_len l.stores ≡ l.place
