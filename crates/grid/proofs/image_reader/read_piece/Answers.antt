use Rattle.std.proofs.Common.{rules, ◌≡◌, take, ◌+◌, arith, ap, ◌∙◌}
use Rattle.grid.proofs.ImageReads.{kept_front, piece_told, short_told}
use Rattle.grid.proofs.image_reader.read_piece.Goals as goal

pub returns-clause-told : goal.returns-clause-told
returns-clause-told g c =
    let old = c.args.bytes.now.items in
    let start = c.len-start.result in
    let items = c.as_mut_slice.result.now in
    let front : take start items ≡ old =
    ap (take start) (c.as_mut_slice.ensures.value ∙ c.in_ok-resize.ensures.items) ∙ kept_front old _ start (start + c.args.count) (search rules) (omega arith) in
    piece_told _ _ _ start c.args.count c.in_ok-came.came old items c.fill.new.buffer _ front (search rules) (search rules) (search rules) (search rules) c.if-came-count.false c.in_ok-came.ensures.bound c.in_ok-came.ensures.told

pub returns-then-came-count-clause-told : goal.returns-then-came-count-clause-told
returns-then-came-count-clause-told g c =
    short_told _ _ c.args.count c.in_ok-came.came c.fill.new.buffer (search rules) c.if-came-count.true c.in_ok-came.ensures.told
