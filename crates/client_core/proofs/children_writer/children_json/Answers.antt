use Rattle.std.proofs.Common.{sym, ap, ◌∙◌}
use Rattle.std.specs.Str.{is_utf8}
use Rattle.std.proofs.lemmas.Str.{is_utf8-from_IsUtf8, IsUtf8-string_bytes}
use Rattle.children_reader.specs.Children.{making}
use Rattle.client_core.proofs.ChildrenWritten.{whole_put}
use Rattle.client_core.proofs.children_writer.children_json.Goals as goal

pub returns-clause-text : goal.returns-clause-text
returns-clause-text c =
    whole_put c.args.entries.now c.requires _ _ _ c.in_ok-out.ensures.ok c.in_ok-put_entries.ensures c.in_ok-push_str.ensures.bytes

pub returns-clause-made : goal.returns-clause-made
returns-clause-made c =
    let is = whole_put c.args.entries.now c.requires _ _ _ c.in_ok-out.ensures.ok c.in_ok-put_entries.ensures c.in_ok-push_str.ensures.bytes in
    let utf8 = ap is_utf8 (sym is) ∙ is_utf8-from_IsUtf8 _ (IsUtf8-string_bytes c.push_str.new.self) in
    ap making is ∙ c.written_children_are_made.ensures c.args.entries.now c.requires utf8
