use Rattle.std.proofs.Common.{◌≡◌, ◌+◌, ◌-◌, take, drop, ap, ◌∙◌, arith}
use Rattle.std.specs.Int.{from_be_bytes, w64}
use Rattle.grid.specs.Layout.{long_number_at}
use Rattle.grid.proofs.image_layout.long_number_at.Goals as goal

pub returns : goal.returns
unfolding long_number_at
returns c =
    let eight : c.args.at + 8 - c.args.at ≡ 8 = omega arith in
    c.from_be_bytes.ensures ∙ ap (from_be_bytes w64) (c.copy_from_slice.ensures.after ∙ ap (λ n. take n (drop c.args.at c.args.bytes.now)) eight)
