use Rattle.std.proofs.Common.{◌∙◌}
use Rattle.redis_store.specs.Commands.{asked_below}
use Rattle.redis_store.proofs.EngineReplies.{all_given_stood}
use Rattle.redis_store.proofs.EngineViews.{shares_amid}
use Rattle.redis_store.proofs.laws.shares_given_are_seen_amid.Goals as goal

pub returns : goal.returns
returns c = λ is_open first old new states grid index made longest limit shares past now state by some engine told among range.
    let at = all_given_stood is_open first old new states grid index (asked_below limit made) longest shares by some engine in
    let seen = shares_amid past now grid made states told index range state among limit at.0 at.1 in
    (seen.0, seen.1, at.2 ∙ seen.2)
