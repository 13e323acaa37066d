use Rattle.std.proofs.Common.{refl, ap, sym, ◌∙◌, ◌-◌, arith, length}
use Rattle.folder_shelf.specs.Sealed.{seal}
use Rattle.folder_shelf.proofs.Seals.{length-sealed, cut_sealed, is_sealed}
use Rattle.folder_shelf.proofs.file_text.unsealed.Goals as goal

pub returns-then-len-lt-SEAL-clause-rotten : goal.returns-then-len-lt-SEAL-clause-rotten
returns-then-len-lt-SEAL-clause-rotten c = λ bytes e.
    omega (arith, c.if-len-lt-SEAL.true, c.len.ensures, ap length e ∙ length-sealed bytes)

pub returns-clause-whole : goal.returns-clause-whole
returns-clause-whole c =
    let sealing = c.if-not-is_sealed.ensures.0 refl in
    rw c.truncate.ensures.items
    (is_sealed c.args.text.items (c.len-len.result - 8) (sym (rw c.deref.ensures.value at sealing)))

pub returns-then-not-is_sealed-clause-rotten : goal.returns-then-not-is_sealed-clause-rotten
returns-then-not-is_sealed-clause-rotten c = λ bytes e.
    let cut = cut_sealed c.args.text.items bytes (c.len-len.result - 8) e
    (omega (arith, c.if-len-lt-SEAL.false, c.len-len.ensures, c.len.ensures)) in
    let yes = c.is_sealed.ensures.1 (rw c.deref.ensures.value (cut.1 ∙ ap seal (sym cut.0))) in
    cc (yes, c.if-not-is_sealed.true)
