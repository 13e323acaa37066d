use Rattle.std.proofs.Common.{◌∙◌}
use Rattle.share_repair.proofs.Fronts.{share_text-is}
use Rattle.share_repair.proofs.label.extension_in.Goals as goal

pub returns-in_err-rest : goal.returns-in_err-rest
returns-in_err-rest c t e = absurd (c.in_err-rest.ensures t.version _ (e ∙ share_text-is t))

pub returns-in_err-rest-2 : goal.returns-in_err-rest-2
returns-in_err-rest-2 c t e =
    let t1 = (c.in_ok-rest.ensures t.version _ (e ∙ share_text-is t)).1 in
    absurd (c.in_err-rest-2.ensures t.number _ t1)

pub returns-in_err-extension : goal.returns-in_err-extension
returns-in_err-extension c t e =
    let t1 = (c.in_ok-rest.ensures t.version _ (e ∙ share_text-is t)).1 in
    let t2 = (c.in_ok-rest-2.ensures t.number _ t1).1 in
    absurd (c.in_err-extension.ensures t.extension _ t2)

pub returns : goal.returns
returns c t e =
    let t1 = (c.in_ok-rest.ensures t.version _ (e ∙ share_text-is t)).1 in
    let t2 = (c.in_ok-rest-2.ensures t.number _ t1).1 in
    (c.in_ok-extension.ensures t.extension _ t2).0
