use Rattle.std.proofs.Common.{◌≡◌, ℕ, List, [], Option, Some, None, true, false, inl, inr}
use Rattle.resp.specs.declared.reply.Reply.{Reply}
use Rattle.redis_store.specs.Replies.{IsValue, IsOtherKind, GivesShare}
use Rattle.redis_store.proofs.answers.share_in.Goals as goal

gives : (answer : Reply) → ((value : Option (List ℕ)) → IsValue answer value → ⊥) → (IsOtherKind answer → ⊥) → (share : Option (List ℕ)) → GivesShare answer share → ⊥
gives answer value other None (inl is) = value None is
gives answer value other None (inr (inl is)) = value (Some []) is
gives answer value other None (inr (inr is)) = other is
gives answer value other (Some bytes) is = value (Some bytes) is

pub returns-else-other_kind-clause-wrong : goal.returns-else-other_kind-clause-wrong
returns-else-other_kind-clause-wrong c = (
  c.fault_of-fault.ensures.fault,
  gives c.args.reply c.in-None.ensures.none (λ is. let yes : c.is_other_kind-other_kind.result ≡ true = c.is_other_kind-other_kind.ensures.1 is in let not_so : c.is_other_kind-other_kind.result ≡ false = c.if-other_kind.false in cc),
)
