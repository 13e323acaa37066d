use Rattle.std.proofs.Common.{◌≡◌, [], ◌++◌, length, ap, ◌∙◌, arith}
use Rattle.serde_json.specs.Written.{comma_if}
use Rattle.dir_codec.specs.declared.entry.Entry.{Entry}
use Rattle.json_view.specs.Nodes.{child_text}
use Rattle.json_view.proofs.Listings.{child_measured}
use Rattle.json_view.proofs.node.child_len.Goals as goal

pub returns : goal.returns
returns c =
    let entry = c.args.entry.now in
    let comma = comma_if c.args.later in
    let bare : Entry = record entry { metadata = [] } in
    let put : c.put_child_with.new.out.items ≡ comma ++ child_text bare = c.in_ok-put_child_with.ensures ∙ ap (λ t. t ++ child_text bare) (c.in_ok-put_comma.ensures ∙ ap (λ t. t ++ comma) c.clear.ensures.items) in
    omega (arith, ap length put, child_measured comma entry, c.len.ensures, ap length c.as_str.ensures, c.in-Some.ensures.1)
