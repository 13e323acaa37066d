use Rattle.std.proofs.Common.{◌≡◌, ◌+◌, ◌/◌, length, arith}
use Rattle.folder_shelf.proofs.Parts.{cut_in_four}
use Rattle.folder_shelf.proofs.file_text.four_parts.Goals as goal

pub returns : goal.returns
returns c =
    let bytes = c.args.bytes.now in
    let quarter : c.div_ceil-quarter.result ≡ (length bytes + 3) / 4 = omega (
      arith,
      c.div_ceil-quarter.ensures,
    ) in
    rw (
      c.cut-3.ensures.front,
      c.cut-3.ensures.back,
      c.cut-2.ensures.front,
      c.cut-2.ensures.back,
      c.cut.ensures.front,
      c.cut.ensures.back,
    ) (cut_in_four bytes c.div_ceil-quarter.result quarter)
