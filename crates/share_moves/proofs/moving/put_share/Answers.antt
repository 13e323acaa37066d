use Rattle.std.proofs.Common.{◌≡◌, ◌<◌, length, get_or, ap, arith}
use Rattle.std.specs.Rc.{rc_slice_items}
use Rattle.share_moves.proofs.Stores.{put_in_place, in_place_after, one_honest}
use Rattle.share_moves.proofs.moving.put_share.Goals as goal

pub returns-clause-moved : goal.returns-clause-moved
returns-clause-moved g c = λ all.
    let into = c.args.into.now in
    let place = c.place_of-place.result in
    let old = get_or into place c.index-into-place.result in
    let read : old ≡ get_or into place old = ap (λ x. get_or into place x) c.index-into-place.is in
    let below : place < length into = omega (arith, c.place_of-place.ensures.below) in
    put_in_place g.T.Store.shares into (length into) place old c.put_at.new.store (c.args.share.now.index, c.args.share.now.number) (rc_slice_items c.args.share.now.bytes) below read
    c.place_of-place.ensures.place (c.in_ok-placed.ensures.put (one_honest g.T.Store.honest into place old below read all))

pub returns-clause-there : goal.returns-clause-there
returns-clause-there g c = λ all none.
    let into = c.args.into.now in
    let place = c.place_of-place.result in
    let old = get_or into place c.index-into-place.result in
    let read : old ≡ get_or into place old = ap (λ x. get_or into place x) c.index-into-place.is in
    let below : place < length into = omega (arith, c.place_of-place.ensures.below) in (
      c.count.ensures.before none,
      in_place_after g.T.Store.shares into place c.put_at.new.store (length into) (c.args.share.now.index, c.args.share.now.number) (rc_slice_items c.args.share.now.bytes) below c.place_of-place.ensures.place
          (c.in_ok-placed.ensures.there (one_honest g.T.Store.honest into place old below read all) (c.count.ensures.placed none)),
    )
