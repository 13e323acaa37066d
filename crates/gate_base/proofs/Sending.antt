-- A reply that is put behind what waits.
use Rattle.std.proofs.Common.{◌≡◌, ℕ, List, [], ◌++◌, length, Bool, true, false, append_assoc, append-nil}
use Rattle.http_edge.specs.declared.reply.Reply.{Reply}
use Rattle.http_edge.specs.Reply.{rendered_head, rendered}

-- what waits at the end of its joined parts
pub joined : (front ready body : List ℕ) → ready ≡ [] → body ≡ [] → front ++ (ready ++ body) ≡ front
joined front ready body no_more none = rw (no_more, none) (append-nil front)

module _ (reply : Reply) (close : Bool) (n : ℕ) (old front headed : List ℕ) (waits : front ≡ old) (size : n ≡ length reply.body) (head : headed ≡ front ++ rendered_head reply.status reply.fields n close) where
  pub head_sent : headed ≡ old ++ rendered reply true close
  unfolding rendered
  head_sent = rw (head, waits, size) (simp (append_assoc, append-nil))

  pub body_sent : (ready : List ℕ) → ready ≡ [] → headed ++ (ready ++ reply.body) ≡ old ++ rendered reply false close
  unfolding rendered
  body_sent ready none = rw (none, head, waits, size) (simp (append_assoc, append-nil))
