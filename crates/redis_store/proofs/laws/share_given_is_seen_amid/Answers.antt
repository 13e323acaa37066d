use Rattle.std.proofs.Common.{◌∙◌}
use Rattle.redis_store.specs.Keys.{key}
use Rattle.redis_store.proofs.EngineReplies.{given_stood}
use Rattle.redis_store.proofs.EngineViews.{share_amid}
use Rattle.redis_store.proofs.laws.share_given_is_seen_amid.Goals as goal

pub returns : goal.returns
returns c = λ is_open first old new states grid index number made longest share past now by some engine told range lt.
    let at = given_stood is_open first old new states (key grid index number) longest share by some engine in
    let seen = share_amid past now grid made states told index range number at.0 lt at.1 in
    (seen.0, seen.1, at.2 ∙ seen.2)
