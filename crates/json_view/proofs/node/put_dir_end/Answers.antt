use Rattle.json_view.proofs.Pushed.{three_put, last_put}
use Rattle.json_view.proofs.node.put_dir_end.Goals as goal

pub returns : goal.returns
returns c =
    three_put c.args.out.now.items _ _ _ _ _ _ c.in_ok-extend_from_slice.ensures.items c.in_ok-put_members.ensures (last_put _ _ _ c.in_ok-extend_from_slice-2.ensures.items)
