use Rattle.std.proofs.Common.{sym, ◌∙◌, lit<}
use Rattle.ask_desk.specs.CameIn.{reply_limits}
use Rattle.ask_desk.proofs.Cuts.{same_place, no_more, left_begun}
use Rattle.ask_desk.proofs.laws.replies_have_one_place.Goals as goal

pub returns-clause-place : goal.returns-clause-place
returns-clause-place c = λ d answers front rest o spelled is.
    same_place (λ one two front back other rest. c.one_reply.ensures reply_limits one two front back other rest (lit< tt)) d.replies answers o.front front o.part rest o.spelled spelled (sym o.came ∙ is)

pub returns-clause-all : goal.returns-clause-all
returns-clause-all c = λ d answers front rest o none spelled is.
    no_more (λ one two front back other rest. c.one_reply.ensures reply_limits one two front back other rest (lit< tt)) d.replies answers o.front front o.part rest o.spelled spelled (left_begun d o none) (sym o.came ∙ is)
