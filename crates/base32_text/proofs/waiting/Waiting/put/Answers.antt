use Rattle.std.proofs.Common.{◌≡◌, ◌+◌, ◌≤◌, ◌∙◌, ◌++◌, ap, sym, length, arith}
use Rattle.base32_text.specs.Bits.{bits_of}
use Rattle.base32_text.proofs.BitLemmas.{length-bits_of}
use Rattle.base32_text.proofs.WaitingLemmas.{put_fits, put_bits}
use Rattle.base32_text.proofs.waiting.Waiting.put.Goals as goal

pub invariant_of-self : goal.invariant_of-self
invariant_of-self c =
    let count : c.self.inside.count ≡ length c.args.self.now = sym (length-bits_of c.self.inside.count c.self.inside.value) ∙ ap length c.self.view_is in
    let room : c.self.inside.count + c.args.width ≤ 16 = omega arith in
    (room, put_fits c.self.inside.count c.self.inside.value c.args.width c.args.number room c.self.invariant.1 c.requires.fits)

pub returns : goal.returns
returns c =
    let count : c.self.inside.count ≡ length c.args.self.now = sym (length-bits_of c.self.inside.count c.self.inside.value) ∙ ap length c.self.view_is in
    let room : c.self.inside.count + c.args.width ≤ 16 = omega arith in
    put_bits c.self.inside.count c.self.inside.value c.args.width c.args.number room c.self.invariant.1 c.requires.fits
    ∙ ap (λ bits. bits ++ bits_of c.args.width c.args.number) c.self.view_is
