-- Bytes that are written in parts.
use Rattle.std.proofs.Common.{◌≡◌, ℕ, ◌+◌, ◌-◌, ◌≤◌, List, ◌++◌, length, take, drop, Option, sym, ap, subst, ◌∙◌, arith, take-append-drop}
use Rattle.std.specs.Io.KnownBytes.{Appends}
use Rattle.std.proofs.KnownBytes.{Appends-trans}
use Rattle.std.proofs.Math.Seq.{take-add}
use Rattle.std.proofs.lemmas.List.{length-drop, take_all}
use Rattle.octets.specs.Written.{WritesBeginning}

rest_of : (bytes : List ℕ) (written : ℕ) → take (length bytes - written) (drop written bytes) ≡ drop written bytes
rest_of bytes written = take_all (length bytes - written) (drop written bytes) (omega (arith, length-drop written bytes))

-- one more part was written
pub write_more : (a b c : Option (List ℕ)) (bytes : List ℕ) (written count : ℕ) → Appends a b (take written bytes) → Appends b c (take count (take (length bytes - written) (drop written bytes)))
    → Appends a c (take (written + count) bytes)
write_more a b c bytes written count before now =
    subst (Appends a c) (ap (λ l. take written bytes ++ take count l) (rest_of bytes written) ∙ sym (take-add written count bytes))
    (Appends-trans a b c (take written bytes) (take count (take (length bytes - written) (drop written bytes))) before now)

pub within_more : (bytes : List ℕ) (written count : ℕ) → written ≤ length bytes → count ≤ length (take (length bytes - written) (drop written bytes)) → written + count ≤ length bytes
within_more bytes written count within bound = omega (arith, ap length (rest_of bytes written), length-drop written bytes)

-- so many bytes were written
pub stopped_at : (a b : Option (List ℕ)) (bytes : List ℕ) (n : ℕ) → Appends a b (take n bytes) → WritesBeginning bytes a b
stopped_at a b bytes n done = record { beginning = take n bytes; rest = drop n bytes; begins = sym (take-append-drop n bytes); written = done }
