use Rattle.std.proofs.Common.{take}
use Rattle.std.specs.Prelude.{All}
use Rattle.std.specs.Rc.{rc_slice_items}
use Rattle.share_codec.specs.GoodShare.{IsCutInBlocks}
use Rattle.share_repair.specs.Repaired.{strings_of}
use Rattle.share_repair.specs.Decoded.{AreRead}
use Rattle.share_repair.proofs.making.read_each.Given as goal

abbrev pub invariant-loop-number : goal.invariant-loop-number
invariant-loop-number l = record {
  read : AreRead (record { params = l.params; ueb = l.ueb }) (strings_of rc_slice_items (take l.number-index l.given)) l.shares.items;
  cut : All (IsCutInBlocks l.params) l.shares.items;
}
