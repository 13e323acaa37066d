use Rattle.std.proofs.Common.{◌∙◌}
use Rattle.client_core.proofs.ChildrenWritten.{entry_put}
use Rattle.client_core.proofs.children_writer.put_entry.Goals as goal

pub returns : goal.returns
returns c =
    entry_put c.args.entry.now _ _ _ _ _ _ _ _ _ _ _ _ _ c.as_str.ensures c.kind.ensures c.as_str-2.ensures
    (c.as_str-3.ensures.value ∙ c.caps_have_one_text.ensures.one c.args.entry.now.cap _ c.in_ok-cap.ensures)
    c.in_ok-put_string.ensures c.in_ok-push_str.ensures.bytes c.in_ok-push_str-2.ensures.bytes c.in_ok-push_str-3.ensures.bytes
    c.in_ok-push_str-4.ensures.bytes c.in_ok-push_str-5.ensures.bytes c.in_ok-put_string-2.ensures c.in_ok-push_str-6.ensures.bytes
