use Rattle.std.proofs.Common.{◌≡◌, ◌++◌, true, sym, ap, ◌∙◌}
use Rattle.std.specs.List.{list_all}
use Rattle.json.specs.Run.{is_plain}
use Rattle.json.proofs.Printed.Utf8.{IsUtf8-quoted}
use Rattle.json_spelling.proofs.PlainTexts.{text_written}
use Rattle.json_spelling.proofs.spelling.put_string.Goals as goal

pub returns-clause-written : goal.returns-clause-written
returns-clause-written c =
    let text = c.args.text.now in
    let plain : list_all is_plain text ≡ true = ap (list_all is_plain) (sym c.as_bytes.ensures.value) ∙ sym c.is_plain.ensures ∙ c.if-not-is_plain.false in
    let put = c.in_ok-extend_from_slice.ensures.items ∙ ap (λ s. c.push.new.self.items ++ s) c.as_bytes-2.ensures.value in
    text_written c.args.out.now.items c.push.new.self.items c.extend_from_slice.new.self.items c.push-2.new.self.items text plain c.in_ok-push.ensures.items put c.in_ok-push-2.ensures.items

pub returns-clause-utf8 : goal.returns-clause-utf8
returns-clause-utf8 c = IsUtf8-quoted c.args.text.now c.utf8.text
