use Rattle.std.proofs.Common.{rules, [], append-nil, append_assoc, sym, ap, ◌∙◌, ◌++◌, refl, ℕ, List}
use Rattle.redis_store.proofs.Talks.{heard_none, more_heard}
use Rattle.redis_store.proofs.talk.hear_bulk.Goals as goal

pub loop-init : goal.loop-init
loop-init g c = ([], simp append-nil (search rules), sym (heard_none (g.L.Link.talk c.args.link.now)))

pub loop-preserved : goal.loop-preserved
loop-preserved g c =
    let inv = c.loop.invariant in
    let part = c.in_ok-hear.ensures in (
      inv.0 ++ part.heard.0,
      part.heard.1 ∙ ap (λ (l : List ℕ). l ++ part.heard.0) inv.1 ∙ append_assoc _ inv.0 part.heard.0,
      more_heard _ _ _ inv.0 part.heard.0 (inv.0 ++ part.heard.0) inv.2 part.heard.2 refl,
    )
