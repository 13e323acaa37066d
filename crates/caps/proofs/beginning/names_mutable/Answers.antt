use Rattle.std.proofs.Common.{◌∙◌, sym}
use Rattle.caps.proofs.BeginningLemmas.{mutable_first, mutable_second, mutable_third, mutable_fourth}
use Rattle.caps.proofs.beginning.names_mutable.Goals as goal

pub returns-then-begins_like : goal.returns-then-begins_like
returns-then-begins_like c = mutable_first c.args.text.now (sym c.begins_like.ensures ∙ c.if-begins_like.true)

pub returns-then-begins_like-2 : goal.returns-then-begins_like-2
returns-then-begins_like-2 c =
    mutable_second c.args.text.now (sym c.begins_like.ensures ∙ c.if-begins_like.false)
    (sym c.begins_like-2.ensures ∙ c.if-begins_like-2.true)

pub returns-then-begins_like-3 : goal.returns-then-begins_like-3
returns-then-begins_like-3 c =
    mutable_third c.args.text.now (sym c.begins_like.ensures ∙ c.if-begins_like.false)
    (sym c.begins_like-2.ensures ∙ c.if-begins_like-2.false) (sym c.begins_like-3.ensures ∙ c.if-begins_like-3.true)

pub returns : goal.returns
returns c =
    mutable_fourth c.args.text.now c.begins_like-4.result (sym c.begins_like.ensures ∙ c.if-begins_like.false)
    (sym c.begins_like-2.ensures ∙ c.if-begins_like-2.false) (sym c.begins_like-3.ensures ∙ c.if-begins_like-3.false)
    c.begins_like-4.ensures
