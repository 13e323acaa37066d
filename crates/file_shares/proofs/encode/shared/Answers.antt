use Rattle.std.proofs.Common.{◌≡◌, ◌++◌, ℕ, Vec, Global, [], ◌∷◌, length, map, sym, ap, ◌∙◌, arith}
use Rattle.std.specs.Rc.{rc_slice_items}
use Rattle.std.specs.Vec.Iter.{into_iter_len}
use Rattle.std.proofs.lemmas.List.{map-append, map-id}
use Rattle.std.proofs.lemmas.Iterator.Adapters.{YieldsList-from_vec}
use Rattle.std.proofs.lemmas.Iterator.Consumers.{YieldsList-end}
use Rattle.file_shares.proofs.encode.shared.Goals as goal

pub loop-share-preserved : goal.loop-share-preserved
loop-share-preserved c =
    ap (map rc_slice_items) c.in_ok-push.ensures.items
    ∙ map-append rc_slice_items c.loop-share.lent.items (c.in_ok-from_vec.field-0 ∷ [])
    ∙ (λ i. c.loop-share.invariant i ++ c.in_ok-from_vec.ensures i ∷ [])
    ∙ sym (map-append (λ (share : Vec ℕ Global). share.items) c.loop-share.yielded (c.in-Some.share ∷ []))

pub returns : goal.returns
returns c =
    let long : into_iter_len c.into_iter-share-iterator.result ≡ length c.args.shares.items = omega arith in
    let all = YieldsList-end (YieldsList-from_vec c.args.shares.items c.into_iter-share-iterator.ensures.into_iter_gives.0 long) c.loop-share.yielded _ c.loop-share.yielded_by c.next.result c.next.new.self c.in-None.is c.next.ensures.steps in
    c.loop-share.invariant ∙ ap (map (λ (share : Vec ℕ Global). share.items)) (sym (map-id c.loop-share.yielded) ∙ all.0)
