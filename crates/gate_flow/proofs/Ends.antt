-- Line ends at the front of bytes are some of these.
use Rattle.std.proofs.Common.{◌≤◌, ℕ, suc, Bool, true, false, cond, List, [], ◌∷◌, length, arith}
use Rattle.gate_flow.specs.Parts.{is_line_end, line_ends}

one_more : (b : Bool) (ends all : ℕ) → ends ≤ all → cond b (suc ends) 0 ≤ suc all
one_more true ends all le = omega (le, arith)
one_more false ends all le = omega arith

pub line_ends_within : (bytes : List ℕ) → line_ends bytes ≤ length bytes
line_ends_within [] = omega arith
line_ends_within (byte ∷ bytes) = one_more (is_line_end byte) (line_ends bytes) (length bytes) (line_ends_within bytes)
