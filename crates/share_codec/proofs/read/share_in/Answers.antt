use Rattle.std.proofs.Common.{length, arith, ap, sym, ◌∙◌}
use Rattle.std.specs.Rc.{rc_slice_items}
use Rattle.share_codec.specs.Segments.{cut_blocks}
use Rattle.share_codec.proofs.BlocksAt.{held_at, long_enough}
use Rattle.share_codec.proofs.read.share_in.Goals as goal

pub overflow_sub-end : goal.overflow_sub-end
overflow_sub-end c =
    let r = c.requires in
    let long = long_enough r.texts (rc_slice_items c.args.bytes.now) r.meets.six.text in
    let len = c.len-end.ensures in omega arith

pub overflow_sub-start : goal.overflow_sub-start
overflow_sub-start c =
    let r = c.requires in
    let long = long_enough r.texts (rc_slice_items c.args.bytes.now) r.meets.six.text in
    let all = r.meets.share_tree.all in
    let many = c.blocks_size.ensures.size in
    let len = c.len-end.ensures in omega arith

pub new-requires-clause-all : goal.new-requires-clause-all
new-requires-clause-all c =
    let r = c.requires in
    ap length (held_at (rc_slice_items c.args.bytes.now) (rc_slice_items c.in_ok-clone.field-0) r.texts c.len-end.result c.blocks_size.result c.in_ok-clone.ensures.cases r.meets.six.text c.len-end.ensures (c.blocks_size.ensures.size ∙ sym r.meets.share_tree.all))
    ∙ r.meets.share_tree.all

pub returns : goal.returns
returns c =
    let r = c.requires in
    let there = held_at (rc_slice_items c.args.bytes.now) (rc_slice_items c.in_ok-clone.field-0) r.texts c.len-end.result c.blocks_size.result c.in_ok-clone.ensures.cases r.meets.six.text c.len-end.ensures (c.blocks_size.ensures.size ∙ sym r.meets.share_tree.all) in
    let blocks = ap (cut_blocks c.args.params.now) there ∙ sym r.cut in
    c.new.ensures ∙ (λ i. record { number = sym r.numbered i; ueb = c.ueb.ensures i; blocks = blocks i })
