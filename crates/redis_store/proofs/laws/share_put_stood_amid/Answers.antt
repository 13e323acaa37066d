use Rattle.std.proofs.Common.{◌≡◌, ◌<◌, ℕ, List, [], ◌∷◌, length, Some, refl, sym, ◌∙◌, arith}
use Rattle.redis_store.specs.Engine.{of_bytes}
use Rattle.redis_store.specs.EngineShares.{value_share}
use Rattle.redis_store.specs.Keys.{key}
use Rattle.redis_store.proofs.EngineReplies.{put_stood}
use Rattle.redis_store.proofs.EngineViews.{stood_amid}
use Rattle.redis_store.proofs.laws.share_put_stood_amid.Goals as goal

share_of : (content : List ℕ) → 0 < length content → value_share (of_bytes content) ≡ Some content
share_of [] some = absurd (omega (arith, some))
share_of (byte ∷ bytes) some = refl

pub returns : goal.returns
returns c = λ is_open first old new states longest grid index content number made put last all before past now by some is engine told range lt.
    let stood = put_stood is_open first old new states longest (key grid index number) content put last all before by some is engine in
    let at = stood_amid past now grid made states told index range number (of_bytes content) lt stood in
    (at.0, at.1, sym at.2 ∙ share_of content some)
