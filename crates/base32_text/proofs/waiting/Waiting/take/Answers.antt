use Rattle.std.proofs.Common.{◌≡◌, ◌∙◌, ap, sym, length, arith}
use Rattle.base32_text.proofs.BitLemmas.{length-bits_of}
use Rattle.base32_text.proofs.WaitingLemmas.{take_fits, take_bits}
use Rattle.base32_text.proofs.waiting.Waiting.take.Goals as goal

pub overflow_sub-self : goal.overflow_sub-self
overflow_sub-self c =
    let count : c.self.inside.count ≡ length c.args.self.now = sym (length-bits_of c.self.inside.count c.self.inside.value) ∙ ap length c.self.view_is in
    omega arith

pub returns-clause-fits : goal.returns-clause-fits
returns-clause-fits c =
    let count : c.self.inside.count ≡ length c.args.self.now = sym (length-bits_of c.self.inside.count c.self.inside.value) ∙ ap length c.self.view_is in
    take_fits c.self.inside.count c.self.inside.value c.args.width (omega arith) c.self.invariant.1

pub returns-clause-bits : goal.returns-clause-bits
returns-clause-bits c =
    let count : c.self.inside.count ≡ length c.args.self.now = sym (length-bits_of c.self.inside.count c.self.inside.value) ∙ ap length c.self.view_is in
    sym c.self.view_is
    ∙ take_bits c.self.inside.count c.self.inside.value c.args.width (omega arith) c.self.invariant.0 c.self.invariant.1
