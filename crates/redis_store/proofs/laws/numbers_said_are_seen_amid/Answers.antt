use Rattle.std.proofs.Common.{◌∙◌}
use Rattle.redis_store.proofs.EngineReplies.{all_said_stood}
use Rattle.redis_store.proofs.EngineViews.{numbers_amid}
use Rattle.redis_store.proofs.laws.numbers_said_are_seen_amid.Goals as goal

pub returns : goal.returns
returns c = λ is_open first old new states grid index made numbers past now state by engine told among alone range.
    let at = all_said_stood is_open first old new states grid index made numbers by engine in
    let seen = numbers_amid past now grid made states told index range state among alone at.0 at.1 in
    (seen.0, seen.1, at.2 ∙ seen.2)
