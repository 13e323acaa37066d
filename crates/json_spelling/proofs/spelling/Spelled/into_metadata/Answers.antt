use Rattle.std.proofs.Common.{ℕ, None, Some, Vec, Global, sym, ap, ◌∙◌}
use Rattle.std.specs.Prelude.{if◌then◌else◌}
use Rattle.json_spelling.proofs.SpelledMetadata.{whole_spelled}
use Rattle.json_spelling.proofs.spelling.Spelled.into_metadata.Goals as goal

pub returns-then-not-is_metadata : goal.returns-then-not-is_metadata
returns-then-not-is_metadata c d sound are =
    ap (λ b. if b then Some c.args.self.text.items else None) (sym c.if-not-is_metadata.true)
    ∙ whole_spelled c.args.self c.is_metadata.result c.is_metadata.ensures d sound are

pub returns-in-Ok : goal.returns-in-Ok
returns-in-Ok c d sound are =
    ap Some (c.from_string.ensures ∙ ap (λ (v : Vec ℕ Global). v.items) c.in-Ok.ensures.ok) ∙ ap (λ b. if b then Some c.args.self.text.items else None) (sym c.if-not-is_metadata.false)
    ∙ whole_spelled c.args.self c.is_metadata.result c.is_metadata.ensures d sound are
