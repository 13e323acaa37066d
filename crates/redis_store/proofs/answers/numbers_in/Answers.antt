use Rattle.std.proofs.Common.{ℕ, List, [], ◌∷◌, ◌++◌, ◌+◌, cond, take, ap, sym, ◌∙◌, subst}
use Rattle.redis_store.specs.Answers.{SayWhich}
use Rattle.redis_store.proofs.Lists.{said_next}
use Rattle.redis_store.proofs.answers.numbers_in.Goals as goal

pub loop-reply-preserved : goal.loop-reply-preserved
loop-reply-preserved c =
    let i : ℕ = c.loop-reply.reply-index in
    let old : List ℕ = c.loop-reply.numbers.items in
    record {
      said = subst (λ (l : List ℕ). SayWhich 0 (take (i + 1) c.args.replies.now) l)
          (sym (c.in_ok-push_if.ensures ∙ ap (λ n. cond c.in_ok-said.said (old ++ n ∷ []) old) c.loop-reply.invariant.at))
          (said_next c.args.replies.now i old c.reply-item.result c.in_ok-said.said c.loop-reply-test.true c.reply-item.is c.loop-reply.invariant.said c.in_ok-said.ensures.said);
      at = ap (λ n. n + 1) c.loop-reply.invariant.at;
    }
