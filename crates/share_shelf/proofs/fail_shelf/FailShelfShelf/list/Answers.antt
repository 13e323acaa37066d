use Rattle.std.proofs.Common.{refl}
use Rattle.share_shelf.proofs.Inside.{keeps_as}
use Rattle.share_shelf.proofs.fail_shelf.FailShelfShelf.list.Goals as goal

pub returns-clause-found : goal.returns-clause-found
returns-clause-found c h m keeps = c.list.ensures.found refl m (keeps_as c.args.self.now.inner c.fails.new.self.inner m c.fails.ensures.inner keeps)
