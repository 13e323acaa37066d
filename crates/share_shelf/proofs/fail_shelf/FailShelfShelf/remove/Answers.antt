use Rattle.std.proofs.Common.{refl}
use Rattle.std.specs.FinMap.{remove}
use Rattle.share_store.specs.Shares.{Shares}
use Rattle.share_shelf.specs.CrashStates.{IsEither}
use Rattle.share_shelf.proofs.Inside.{keeps_as, goes_as, leaves_as, each_as, maybe_as}
use Rattle.share_shelf.proofs.fail_shelf.FailShelfShelf.remove.Goals as goal

pub returns-then-not-fails-clause-done : goal.returns-then-not-fails-clause-done
returns-then-not-fails-clause-done c h m keeps = c.remove.ensures.done refl m (keeps_as c.args.self.now.inner c.fails.new.self.inner m c.fails.ensures.inner keeps)

pub returns-then-not-fails-clause-crash : goal.returns-then-not-fails-clause-crash
returns-then-not-fails-clause-crash c h m keeps =
    let leaves = leaves_as c.args.self.now.inner c.fails.new.self.inner c.remove.new.self (IsEither m (remove m (c.args.index, c.args.number))) c.fails.ensures.inner
    (c.remove.ensures.crash refl m (keeps_as c.args.self.now.inner c.fails.new.self.inner m c.fails.ensures.inner keeps)) in
    record { later = leaves.later; since = leaves.since }

pub returns-clause-crash : goal.returns-clause-crash
returns-clause-crash c h m keeps =
    let leaves = leaves_as c.args.self.now.inner c.fails.new.self.inner c.remove-done.new.self (IsEither m (remove m (c.args.index, c.args.number))) c.fails.ensures.inner
    (c.remove-done.ensures.crash refl m (keeps_as c.args.self.now.inner c.fails.new.self.inner m c.fails.ensures.inner keeps)) in
    record { later = leaves.later; since = leaves.since }

pub returns-then-not-fails-clause-done_each : goal.returns-then-not-fails-clause-done_each
returns-then-not-fails-clause-done_each c h = each_as c.remove.result c.args.self.now.inner c.fails.new.self.inner c.remove.new.self (λ (d : Shares). remove d (c.args.index, c.args.number)) c.fails.ensures.inner (c.remove.ensures.done_each refl)

pub returns-then-not-fails-clause-crash_each : goal.returns-then-not-fails-clause-crash_each
returns-then-not-fails-clause-crash_each c h =
    let leaves = maybe_as c.args.self.now.inner c.fails.new.self.inner c.remove.new.self (λ (d : Shares). remove d (c.args.index, c.args.number)) c.fails.ensures.inner (c.remove.ensures.crash_each refl) in
    record { later = leaves.later; since = leaves.since }

pub returns-clause-crash_each : goal.returns-clause-crash_each
returns-clause-crash_each c h =
    let leaves = maybe_as c.args.self.now.inner c.fails.new.self.inner c.remove-done.new.self (λ (d : Shares). remove d (c.args.index, c.args.number)) c.fails.ensures.inner (c.remove-done.ensures.crash_each refl) in
    record { later = leaves.later; since = leaves.since }

pub returns-then-not-fails-clause-history : goal.returns-then-not-fails-clause-history
returns-then-not-fails-clause-history c h m keeps =
    goes_as c.args.self.now.inner c.fails.new.self.inner c.remove.new.self (IsEither m (remove m (c.args.index, c.args.number))) c.fails.ensures.inner
    (c.remove.ensures.history refl m (keeps_as c.args.self.now.inner c.fails.new.self.inner m c.fails.ensures.inner keeps))

pub returns-clause-history : goal.returns-clause-history
returns-clause-history c h m keeps =
    goes_as c.args.self.now.inner c.fails.new.self.inner c.remove-done.new.self (IsEither m (remove m (c.args.index, c.args.number))) c.fails.ensures.inner
    (c.remove-done.ensures.history refl m (keeps_as c.args.self.now.inner c.fails.new.self.inner m c.fails.ensures.inner keeps))
