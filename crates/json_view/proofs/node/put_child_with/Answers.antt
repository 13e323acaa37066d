use Rattle.std.proofs.Common.{refl}
use Rattle.json_view.proofs.Replies.{child_put}
use Rattle.json_view.proofs.node.put_child_with.Goals as goal

pub returns : goal.returns
returns c =
    child_put (record c.args.entry.now { metadata = c.args.metadata.now }) _ _ _ _ _ _ _ _ c.as_str.ensures c.node_kind.ensures refl
    c.in_ok-put_string.ensures c.in_ok-put_all.ensures c.in_ok-put_members.ensures c.in_ok-extend_from_slice.ensures.items
