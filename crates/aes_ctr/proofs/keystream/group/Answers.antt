use Rattle.std.proofs.Common.{◌≡◌, ℕ, ◌+◌, ◌*◌, ◌/◌, ◌%◌, List, get_or, ap, ◌∙◌, arith}
use Rattle.aes_ctr.specs.Cipher.{encrypt}
use Rattle.aes_ctr.specs.Keystream.{counter_block, stream}
use Rattle.aes_ctr.proofs.ByteLemmas.{encrypt_low, counter_low}
use Rattle.aes_ctr.proofs.keystream.group.Goals as goal

pub returns : goal.returns
unfolding stream
returns c = λ key low expanded i lt.
    let first = 16 * c.args.number in
    let at = 256 * c.args.number + i in
    let out : ℕ → List ℕ = λ j. encrypt key (counter_block (first + j)) in
    let blocks = c.encrypted-blocks.ensures key (λ j. counter_block (first + j)) low (λ j. counter_low (first + j)) expanded c.counter_planes.ensures in
    let each = c.blocks_of.ensures out (λ j. encrypt_low key (counter_block (first + j)) low) blocks in
    let number : first + i / 16 ≡ at / 16 = omega arith in
    let place : i % 16 ≡ at % 16 = omega arith in
    c.joined.ensures out each i lt
    ∙ ap (λ (n : ℕ). get_or (encrypt key (counter_block n)) (i % 16) 0) number
    ∙ ap (λ (n : ℕ). get_or (encrypt key (counter_block (at / 16))) n 0) place
