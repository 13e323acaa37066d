use Rattle.std.proofs.Common.{◌≡◌, ◌∙◌, ap, sym, length, replicate, eqb-true, eq-eqb}
use Rattle.base32_text.specs.Bits.{bits_of}
use Rattle.base32_text.proofs.BitLemmas.{length-bits_of}
use Rattle.base32_text.proofs.WaitingLemmas.{bits_of-zero, zero_bits}
use Rattle.base32_text.proofs.waiting.Waiting.is_zero.Goals as goal

pub returns : goal.returns
returns c =
    let count : c.self.inside.count ≡ length c.args.self.now = sym (length-bits_of c.self.inside.count c.self.inside.value) ∙ ap length c.self.view_is in (
      λ yes. sym c.self.view_is ∙ ap (bits_of c.self.inside.count) (eqb-true _ _ yes) ∙ bits_of-zero c.self.inside.count
          ∙ ap (λ n. replicate n 0) count,
      λ e. eq-eqb c.self.inside.value 0 (zero_bits c.self.inside.count c.self.inside.value c.self.invariant.1
          (c.self.view_is ∙ e ∙ ap (λ n. replicate n 0) (sym count))),
    )
