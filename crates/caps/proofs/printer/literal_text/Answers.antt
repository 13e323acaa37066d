use Rattle.std.proofs.Common.{◌≡◌, ◌++◌, ◌∙◌, ap, string_bytes}
use Rattle.base32_text.specs.Base32.{spelling}
use Rattle.base32_text.proofs.SpellingLemmas.{spells_spelling}
use Rattle.base32_text.proofs.CodingLemmas.{all_fit}
use Rattle.caps.proofs.printer.literal_text.Goals as goal

pub returns : goal.returns
returns c =
    let e : string_bytes c.push_encoded.new.text ≡ c.args.beginning.now ++ spelling c.args.bytes.now =
    c.in_ok-push_encoded.ensures.ok
    ∙ ap (λ s. s ++ spelling c.args.bytes.now) (c.in_ok-push_str.ensures.bytes ∙ ap (λ s. s ++ c.args.beginning.now) c.in_ok-text.ensures.bytes) in
    (spelling c.args.bytes.now, e, spells_spelling c.args.bytes.now (all_fit c.args.bytes.now c.type_inv.bytes))
