use Rattle.std.proofs.Common.{◌∷◌, [], ◌++◌, ap, ◌∙◌}
use Rattle.reply_fields.specs.Guesses.{guess_of}
use Rattle.reply_fields.specs.Names.{disposition_of}
use Rattle.reply_fields.specs.declared.naming.Naming.{Naming}
use Rattle.gate_base.specs.Wire.{further_lines}
use Rattle.gate_base.specs.Browsers.{tag_lines, disposition_lines, type_line, type_by, with_file_lines, file_lines}
use Rattle.gate_base.proofs.Browsing.{in_lines}
use Rattle.gate_base.proofs.browsers.file_lines.Goals as goal

pub returns : goal.returns
returns c =
    let naming = c.in_ok-naming.naming in
    in_lines (guess_of naming.name) (type_line (type_by (guess_of naming.name))) (further_lines c.args.given.now.more) (tag_lines c.args.given.now.file) (disposition_lines (disposition_of naming)) _ _ _ _ _
    (c.in_ok-push.ensures.pushed ∙ ap (λ lines. lines ++ c.type_field.result ∷ []) c.new-fields.ensures ∙ ap (λ line. line ∷ []) (c.type_field.ensures ∙ ap (λ guess. type_line (type_by guess)) c.guess_of-guess.ensures))
    c.in_ok-put_further.ensures (c.in_ok-put_guards.ensures ∙ ap (λ guess. with_file_lines guess c.put_further.new.fields) c.guess_of-guess.ensures) c.in_ok-put_tag.ensures
    (c.in_ok-put_disposition.ensures ∙ ap (λ value. c.put_tag.new.fields ++ disposition_lines value) c.in_ok-disposition_of.ensures.value)
    ∙ ap (λ (n : Naming). file_lines n c.args.given.now) c.in_ok-naming.ensures
