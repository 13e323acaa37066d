use Rattle.std.proofs.Common.{◌≡◌, [], codes, string_bytes, sym, ◌∙◌}
use Rattle.std.proofs.lemmas.Slice.Eq.{bytes_eq-Decides}
use Rattle.json_spelling.proofs.Json.{empty_spelled}
use Rattle.json.specs.Lex.{tokens}
use Rattle.json_spelling.specs.Spelled.{SpellsMetadata}
use Rattle.json_spelling.proofs.OnePass.{no_text, unspelled, spelled_bytes}
use Rattle.json_spelling.proofs.metadata.spell_bytes.Goals as goal

pub returns-in_default : goal.returns-in_default
returns-in_default c = sym (no_text c.args.bytes.now c.in_default.ensures.cases.0)

pub returns-in_default-2 : goal.returns-in_default-2
returns-in_default-2 c =
    sym (unspelled c.args.bytes.now c.in-Ok.text.now c.in-Ok.ensures.cases.0 (rw c.in_default-2.is at c.in_ok-spelling.ensures))

pub returns : goal.returns
returns c =
    let made : SpellsMetadata (tokens c.in-Ok.text.now) [] (string_bytes c.in-Some.spelling) = rw c.in-Some.is at c.in_ok-spelling.ensures in
    rw c.from_string-2.ensures (sym (spelled_bytes c.args.bytes.now c.in-Ok.text.now (string_bytes c.in-Some.spelling) c.in-Ok.ensures.cases.0 c.in-Ok.ensures.cases.1 made))

pub returns-then-eq : goal.returns-then-eq
returns-then-eq c =
    let same : c.args.bytes.now ≡ codes "{}" = (bytes_eq-Decides c.args.bytes.now c.as_slice.result.now).0 (sym c.if-eq.ensures) ∙ c.as_slice.ensures in
    let text : c.from_string.result ≡ codes "{}" = c.from_string.ensures ∙ c.in_ok-from_str.ensures.ok in
    rw (same, text) (sym empty_spelled)
