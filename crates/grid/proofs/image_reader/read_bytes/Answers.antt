use Rattle.std.proofs.Common.{rules, vec_len}
use Rattle.grid.proofs.ImageReads.{bytes_more}
use Rattle.grid.proofs.image_reader.read_bytes.Goals as goal

pub loop-bytes-preserved : goal.loop-bytes-preserved
loop-bytes-preserved g c = record {
  within = search rules;
  told = bytes_more _ _ _ c.loop-bytes.bytes.items c.read_piece.new.bytes.items (vec_len c.loop-bytes.bytes) (vec_len c.read_piece.new.bytes) c.min-piece.result c.in_ok-read_piece.field-0
      (search rules) c.in_ok-read_piece.ensures.length c.loop-bytes.invariant.told c.in_ok-read_piece.ensures.told;
}
