use Rattle.std.proofs.Common.{◌≡◌, ◌∷◌, [], ◌++◌, ap, subst, sym, ◌∙◌}
use Rattle.std.proofs.lemmas.Result.{IfOk-weaker}
use Rattle.caps.specs.CapTexts.{cap_text}
use Rattle.caps.specs.declared.cap.Cap.TheVariants.{ChkVerify}
use Rattle.reply_fields.proofs.Plain.{IsPlainText, tag_plain}
use Rattle.reply_fields.proofs.tag.entity_tag.Goals as goal

pub returns-clause-tag : goal.returns-clause-tag
returns-clause-tag c =
    IfOk-weaker c.quoted.result _ _ (λ tag is. is ∙ ap (λ text. 34 ∷ (text ++ 34 ∷ [])) (c.as_str.ensures.value ∙ c.caps_have_one_text.ensures.one (ChkVerify c.args.file.now) _ c.in_ok-text.ensures)) c.quoted.ensures

pub returns-clause-plain : goal.returns-clause-plain
returns-clause-plain c =
    IfOk-weaker c.quoted.result _ _ (λ tag is. subst IsPlainText (sym (is ∙ ap (λ text. 34 ∷ (text ++ 34 ∷ [])) c.as_str.ensures.value)) (tag_plain c.numbers_are_plain.ensures c.args.file.now _ c.in_ok-text.ensures)) c.quoted.ensures
