use Rattle.std.proofs.Common.{◌≡◌, IfOk, refl, subst}
use Rattle.std.specs.FinMap.{get}
use Rattle.std.specs.Option.{option_map}
use Rattle.std.specs.Rc.{rc_slice_items}
use Rattle.share_store.specs.Shares.{Shares}
use Rattle.share_shelf.specs.declared.mem_shelf.MemShelf.{MemShelf}
use Rattle.share_shelf.proofs.Inside.{moment_of, left_of, keeps_as}
use Rattle.share_shelf.proofs.fail_shelf.FailShelfShelf.read.Goals as goal

pub returns-clause-found : goal.returns-clause-found
returns-clause-found c h m keeps = c.read.ensures.found refl m (keeps_as c.args.self.now.inner c.fails.new.self.inner m c.fails.ensures.inner keeps)

pub returns-clause-given : goal.returns-clause-given
returns-clause-given c h =
    subst (λ (s : MemShelf). IfOk c.read.result (λ bytes. (x : Shares) × left_of s (moment_of s) x × (option_map rc_slice_items bytes ≡ get x (c.args.index, c.args.number)))) c.fails.ensures.inner (c.read.ensures.given refl)
