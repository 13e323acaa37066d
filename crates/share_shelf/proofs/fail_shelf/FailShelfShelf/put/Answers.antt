use Rattle.std.proofs.Common.{refl}
use Rattle.std.specs.FinMap.{insert}
use Rattle.std.specs.Rc.{rc_slice_items}
use Rattle.share_store.specs.Shares.{Shares}
use Rattle.share_shelf.specs.CrashStates.{IsEither}
use Rattle.share_shelf.proofs.Inside.{keeps_as, goes_as, leaves_as, each_as, maybe_as}
use Rattle.share_shelf.proofs.fail_shelf.FailShelfShelf.put.Goals as goal

pub returns-then-not-fails-clause-done : goal.returns-then-not-fails-clause-done
returns-then-not-fails-clause-done c h m keeps = c.put.ensures.done refl m (keeps_as c.args.self.now.inner c.fails.new.self.inner m c.fails.ensures.inner keeps)

pub returns-then-not-fails-clause-crash : goal.returns-then-not-fails-clause-crash
returns-then-not-fails-clause-crash c h m keeps =
    let leaves = leaves_as c.args.self.now.inner c.fails.new.self.inner c.put.new.self (IsEither m (insert m (c.args.index, c.args.number) (rc_slice_items c.args.bytes))) c.fails.ensures.inner
    (c.put.ensures.crash refl m (keeps_as c.args.self.now.inner c.fails.new.self.inner m c.fails.ensures.inner keeps)) in
    record { later = leaves.later; since = leaves.since }

pub returns-clause-crash : goal.returns-clause-crash
returns-clause-crash c h m keeps =
    let leaves = leaves_as c.args.self.now.inner c.fails.new.self.inner c.put-done.new.self (IsEither m (insert m (c.args.index, c.args.number) (rc_slice_items c.args.bytes))) c.fails.ensures.inner
    (c.put-done.ensures.crash refl m (keeps_as c.args.self.now.inner c.fails.new.self.inner m c.fails.ensures.inner keeps)) in
    record { later = leaves.later; since = leaves.since }

pub returns-then-not-fails-clause-done_each : goal.returns-then-not-fails-clause-done_each
returns-then-not-fails-clause-done_each c h = each_as c.put.result c.args.self.now.inner c.fails.new.self.inner c.put.new.self (λ (d : Shares). insert d (c.args.index, c.args.number) (rc_slice_items c.args.bytes)) c.fails.ensures.inner (c.put.ensures.done_each refl)

pub returns-then-not-fails-clause-crash_each : goal.returns-then-not-fails-clause-crash_each
returns-then-not-fails-clause-crash_each c h =
    let leaves = maybe_as c.args.self.now.inner c.fails.new.self.inner c.put.new.self (λ (d : Shares). insert d (c.args.index, c.args.number) (rc_slice_items c.args.bytes)) c.fails.ensures.inner (c.put.ensures.crash_each refl) in
    record { later = leaves.later; since = leaves.since }

pub returns-clause-crash_each : goal.returns-clause-crash_each
returns-clause-crash_each c h =
    let leaves = maybe_as c.args.self.now.inner c.fails.new.self.inner c.put-done.new.self (λ (d : Shares). insert d (c.args.index, c.args.number) (rc_slice_items c.args.bytes)) c.fails.ensures.inner (c.put-done.ensures.crash_each refl) in
    record { later = leaves.later; since = leaves.since }

pub returns-then-not-fails-clause-history : goal.returns-then-not-fails-clause-history
returns-then-not-fails-clause-history c h m keeps =
    goes_as c.args.self.now.inner c.fails.new.self.inner c.put.new.self (IsEither m (insert m (c.args.index, c.args.number) (rc_slice_items c.args.bytes))) c.fails.ensures.inner
    (c.put.ensures.history refl m (keeps_as c.args.self.now.inner c.fails.new.self.inner m c.fails.ensures.inner keeps))

pub returns-clause-history : goal.returns-clause-history
returns-clause-history c h m keeps =
    goes_as c.args.self.now.inner c.fails.new.self.inner c.put-done.new.self (IsEither m (insert m (c.args.index, c.args.number) (rc_slice_items c.args.bytes))) c.fails.ensures.inner
    (c.put-done.ensures.history refl m (keeps_as c.args.self.now.inner c.fails.new.self.inner m c.fails.ensures.inner keeps))
