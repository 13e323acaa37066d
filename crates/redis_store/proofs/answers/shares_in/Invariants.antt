use Rattle.std.proofs.Common.{◌≡◌, ◌<◌, length, map}
use Rattle.std.specs.Prelude.{All}
use Rattle.std.specs.Rc.{rc_slice_items}
use Rattle.share_store.specs.NumberedShares.{numbered_bytes}
use Rattle.redis_store.specs.Answers.{GiveShares}
use Rattle.redis_store.proofs.answers.shares_in.Given as goal

abbrev pub invariant-loop-reply : goal.invariant-loop-reply
invariant-loop-reply l = record {
  given : GiveShares 0 l.yielded (map (numbered_bytes rc_slice_items) l.shares.items);
  some : All (λ share. 0 < length share.1) (map (numbered_bytes rc_slice_items) l.shares.items);
  at : l.number ≡ length l.yielded;
}
