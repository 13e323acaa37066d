use Rattle.std.proofs.Common.{refl}
use Rattle.json_spelling.specs.declared.spelling.Spelled.{Spelled}
use Rattle.json_spelling.proofs.Following.{unended, object_has_ended}
use Rattle.json_spelling.proofs.speller.Speller.spelled.Goals as goal

pub returns-then-self : goal.returns-then-self
returns-then-self c =
    let spelled : Spelled = record { text = c.args.self.out; extent = c.args.self.extent } in
    object_has_ended c.args.self spelled c.if-self.true refl refl

pub returns : goal.returns
returns c = unended c.args.self c.if-self.false
