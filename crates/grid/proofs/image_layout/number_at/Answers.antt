use Rattle.std.proofs.Common.{◌≡◌, ◌+◌, ◌-◌, take, drop, ap, ◌∙◌, arith}
use Rattle.std.specs.Int.{from_be_bytes, w32}
use Rattle.grid.specs.Layout.{u32_at}
use Rattle.grid.proofs.image_layout.number_at.Goals as goal

pub returns : goal.returns
unfolding u32_at
returns c =
    let four : c.args.at + 4 - c.args.at ≡ 4 = omega arith in
    c.from_be_bytes.ensures ∙ ap (from_be_bytes w32) (c.copy_from_slice.ensures.after ∙ ap (λ n. take n (drop c.args.at c.args.bytes.now)) four)
