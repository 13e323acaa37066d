use Rattle.std.proofs.Common.{◌∙◌, ap, Some}
use Rattle.share_moves.proofs.Stores.{put_there, not_false}
use Rattle.share_moves.proofs.moving.put_at.Goals as goal

pub returns-in-Ok-true-clause-there : goal.returns-in-Ok-true-clause-there
returns-in-Ok-true-clause-there g c = λ honest placed.
    put_there (g.T.Store.shares c.args.store.now) (g.T.Store.shares c.put.new.self) (c.args.share.now.index, c.args.share.now.number) _
    (not_false c.in-Ok-true.field-0 _ c.in-Ok-true.field-0-test (c.in-Ok-true.ensures.put honest)) (c.in-Ok-true.ensures.shares honest)
    ∙ ap Some c.in_ok-bytes.ensures.cases
