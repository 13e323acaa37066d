use Rattle.json_view.proofs.Replies.{dir_put}
use Rattle.json_view.proofs.node.dir_json.Goals as goal

pub returns : goal.returns
returns c =
    dir_put c.args.cap.now c.args.directory.now _ _ _ _ _ c.entries.ensures.same c.new-out.ensures.items
    c.in_ok-put_dir_head.ensures c.in_ok-put_children.ensures c.in_ok-put_dir_end.ensures
