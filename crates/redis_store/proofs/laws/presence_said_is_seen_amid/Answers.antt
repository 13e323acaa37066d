use Rattle.std.proofs.Common.{◌∙◌}
use Rattle.redis_store.specs.Keys.{key}
use Rattle.redis_store.proofs.EngineReplies.{said_stood}
use Rattle.redis_store.proofs.EngineViews.{presence_amid}
use Rattle.redis_store.proofs.laws.presence_said_is_seen_amid.Goals as goal

pub returns : goal.returns
returns c = λ is_open first old new states grid index number made said past now by engine told alone range lt.
    let at = said_stood is_open first old new states (key grid index number) said by engine in
    let seen = presence_amid past now grid made states told index range alone number at.0 lt at.1 in
    (seen.0, seen.1, at.2 ∙ seen.2)
