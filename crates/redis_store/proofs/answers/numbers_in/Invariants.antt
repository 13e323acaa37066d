use Rattle.std.proofs.Common.{◌≡◌, take}
use Rattle.redis_store.specs.Answers.{SayWhich}
use Rattle.redis_store.proofs.answers.numbers_in.Given as goal

abbrev pub invariant-loop-reply : goal.invariant-loop-reply
invariant-loop-reply l = record {
  said : SayWhich 0 (take l.reply-index l.replies) l.numbers.items;
  at : l.number ≡ l.reply-index;
}
