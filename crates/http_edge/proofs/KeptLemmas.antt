-- What waits stays at the front of what is written after it.
use Rattle.std.proofs.Common.{◌≡◌, ℕ, List, ◌++◌, length, take, drop, sym, ap, ◌∙◌, arith, length-append}
use Rattle.std.proofs.Math.Seq.{take-append_seam}
use Rattle.std.proofs.lemmas.List.{take-append-le, take-append-drop}
use Rattle.http_edge.specs.Reply.{IsFrontKept}

pub kept_after : (old new x : List ℕ) → new ≡ old ++ x → IsFrontKept old new
kept_after old new x e = record { front = ap (take (length old)) e ∙ take-append_seam old x }

-- after more that was written
pub kept_more : (a b c x : List ℕ) → b ≡ a ++ x → IsFrontKept b c → IsFrontKept a c
kept_more a b c x e h = record {
  front = ap (take (length a)) (sym (take-append-drop (length b) c) ∙ ap (λ (y : List ℕ). y ++ drop (length b) c) h.front)
      ∙ take-append-le (length a) b (drop (length b) c) (let size = ap length e in omega (arith, length-append a x))
      ∙ ap (take (length a)) e ∙ take-append_seam a x;
}
