use Rattle.std.proofs.lemmas.Result.{on_ok_weaker}
use Rattle.json_view.specs.Nodes.{node_members}
use Rattle.json_view.proofs.Pushed.{four_put, last_put}
use Rattle.json_view.proofs.node.put_members.Goals as goal

pub returns : goal.returns
unfolding node_members
returns c =
    on_ok_weaker c.put_verify.result
    (λ put. four_put c.args.out.now.items _ _ _ _ _ _ _ _ c.in_ok-extend_from_slice.ensures.items c.in_ok-put_cap.ensures c.in_ok-put_size.ensures (last_put _ _ _ put))
    c.put_verify.ensures
