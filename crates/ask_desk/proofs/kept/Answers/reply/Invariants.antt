use Rattle.std.proofs.Common.{◌≡◌, eqb, drop}
use Rattle.std.specs.Prelude.{find}
use Rattle.ask_desk.specs.declared.kept.Answer.{Answer}
use Rattle.ask_desk.proofs.kept.Answers.reply.Given as goal

-- what is looked for is none of those in front
abbrev pub invariant-loop-answer : goal.invariant-loop-answer
invariant-loop-answer l = find (λ (a : Answer). eqb a.ticket l.ticket) l.answer-items ≡ find (λ (a : Answer). eqb a.ticket l.ticket) (drop l.answer-index l.answer-items)
