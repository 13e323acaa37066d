-- Parts of bytes that begin with a netstring.
use Rattle.std.proofs.Common.{◌≡◌, ℕ, ◌+◌, ◌-◌, List, length, take, drop, Option, Some, refl, arith}
use Rattle.std.proofs.lemmas.Slice.{between_to_end}

pub parts_are : (bytes : List ℕ) (start len next : ℕ) → ◌≡◌ {A = Option (List ℕ × List ℕ)} (Some (take (start + len - start) (drop start bytes), take (length bytes - next) (drop next bytes))) (Some (take len (drop start bytes), drop next bytes))
parts_are bytes start len next =
    let a : start + len - start ≡ len = omega arith in
    let b : take (length bytes - next) (drop next bytes) ≡ drop next bytes = between_to_end bytes next (length bytes) (omega arith) in
    rw (a, b) refl
