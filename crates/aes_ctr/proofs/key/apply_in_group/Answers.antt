use Rattle.std.proofs.Common.{◌≡◌, ◌+◌, ◌-◌, ◌*◌, ◌/◌, ◌%◌, ◌<◌, get_or, drop, bit_xor, ap, ◌∙◌, arith}
use Rattle.std.proofs.lemmas.List.{get_or-take, get_or-drop}
use Rattle.aes_ctr.specs.Keystream.{stream}
use Rattle.aes_ctr.proofs.CryptLemmas.{crypt_from_each}
use Rattle.aes_ctr.proofs.key.apply_in_group.Goals as goal

pub returns : goal.returns
returns c = λ key low expanded.
    let p = c.args.place in
    let bytes = c.args.bytes.now in
    let group = c.group-stream.result in
    crypt_from_each key p bytes c.add.new.bytes c.add.auto.bytes (λ i h.
    let within : i < 256 - p % 256 = omega arith in
    let inside : p % 256 + i < 256 = omega arith in
    let at : 256 * (p / 256) + (p % 256 + i) ≡ p + i = omega arith in
    c.add.ensures i h
    ∙ ap (bit_xor (get_or bytes i 0))
    (get_or-take (256 - p % 256) (drop (p % 256) group) i 0 within ∙ get_or-drop (p % 256) group i 0
    ∙ c.group-stream.ensures key low expanded (p % 256 + i) inside ∙ ap (stream key) at))
