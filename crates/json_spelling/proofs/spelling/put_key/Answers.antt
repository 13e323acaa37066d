use Rattle.std.proofs.Common.{◌≡◌, ◌++◌, true, sym, ap, ◌∙◌}
use Rattle.std.specs.List.{list_all}
use Rattle.json.specs.Run.{is_plain}
use Rattle.json.proofs.Printed.Utf8.{IsUtf8-quoted}
use Rattle.json_spelling.proofs.PlainTexts.{key_written, key_utf8}
use Rattle.json_spelling.proofs.spelling.put_key.Goals as goal

pub returns-clause-written : goal.returns-clause-written
returns-clause-written c =
    let name = c.args.name.now in
    let plain : list_all is_plain name ≡ true = ap (list_all is_plain) (sym c.as_bytes.ensures.value) ∙ sym c.is_plain.ensures ∙ c.if-not-is_plain.false in
    let named = c.in_ok-extend_from_slice.ensures.items ∙ ap (λ s. c.push.new.self.items ++ s) c.as_bytes-2.ensures.value in
    key_written c.args.out.now.items c.push.new.self.items c.extend_from_slice.new.self.items c.extend_from_slice-2.new.self.items name plain c.in_ok-push.ensures.items named c.in_ok-extend_from_slice-2.ensures.items

pub returns-clause-utf8 : goal.returns-clause-utf8
returns-clause-utf8 c = key_utf8 c.args.name.now (IsUtf8-quoted c.args.name.now c.utf8.name)
