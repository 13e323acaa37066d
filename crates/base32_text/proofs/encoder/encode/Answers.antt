use Rattle.std.proofs.Common.{◌≡◌, ◌∙◌, string_bytes, ◌++◌, ap}
use Rattle.base32_text.specs.Base32.{spelling}
use Rattle.base32_text.proofs.SpellingLemmas.{spells_spelling}
use Rattle.base32_text.proofs.CodingLemmas.{all_fit}
use Rattle.base32_text.proofs.encoder.encode.Goals as goal

pub returns : goal.returns
returns c =
    let e : string_bytes c.push_encoded.new.text ≡ spelling c.args.bytes.now =
    c.in_ok-push_encoded.ensures.ok ∙ ap (λ s. s ++ spelling c.args.bytes.now) c.new-text.ensures.bytes in
    rw e (spells_spelling c.args.bytes.now (all_fit _ c.type_inv.bytes))
