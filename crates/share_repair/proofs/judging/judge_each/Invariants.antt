use Rattle.std.proofs.Common.{◌≡◌, map, take}
use Rattle.std.specs.Prelude.{All}
use Rattle.std.specs.Rc.{rc_slice_items}
use Rattle.grid.specs.Found.{found_bytes}
use Rattle.share_repair.specs.Judged.{IsJudged, found_of}
use Rattle.share_repair.proofs.judging.judge_each.Given as goal

abbrev pub invariant-loop-server : goal.invariant-loop-server
invariant-loop-server l = record {
  same : map found_of l.judged.items ≡ map (found_bytes rc_slice_items) (take l.server-index l.found);
  told : All IsJudged l.judged.items;
}
