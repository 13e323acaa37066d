use Rattle.std.proofs.Common.{◌∙◌, ap, sym, length}
use Rattle.base32_text.proofs.BitLemmas.{length-bits_of}
use Rattle.base32_text.proofs.waiting.Waiting.len.Goals as goal

pub returns : goal.returns
returns c = sym (length-bits_of c.self.inside.count c.self.inside.value) ∙ ap length c.self.view_is
