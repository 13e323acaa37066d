use Rattle.std.proofs.Common.{◌≡◌, length, sym, ap, ◌∙◌, arith}
use Rattle.std.specs.Vec.Iter.{into_iter_len}
use Rattle.std.proofs.lemmas.List.{map-id}
use Rattle.std.proofs.lemmas.Iterator.Adapters.{YieldsList-from_vec}
use Rattle.std.proofs.lemmas.Iterator.Consumers.{YieldsList-end}
use Rattle.client_link.proofs.lanes.Lanes.new.Goals as goal

pub returns : goal.returns
returns g c =
    let long : into_iter_len c.into_iter-dial-iterator.result ≡ length c.args.dialers.items = omega arith in
    let all = YieldsList-end (YieldsList-from_vec c.args.dialers.items c.into_iter-dial-iterator.ensures.into_iter_gives.0 long) c.loop-dial.yielded _ c.loop-dial.yielded_by c.next.result c.next.new.self c.in-None.is c.next.ensures.steps in
    c.loop-dial.invariant ∙ ap length (sym (map-id c.loop-dial.yielded) ∙ all.0)
