use Rattle.std.proofs.Common.{List, ℕ, sym, subst}
use Rattle.chk_file.specs.Amid.{IsKeptOrSeen}
use Rattle.chk_file.proofs.reader.begin.Goals as goal

pub returns-in-Ok-clause-seen : goal.returns-in-Ok-clause-seen
returns-in-Ok-clause-seen g c all =
    subst (λ (bytes : List ℕ). IsKeptOrSeen c.args.cache.now c.args.grid.now c.fetch.new.grid c.args.fields.now bytes) (sym c.whole.ensures.left) (c.in-Ok.ensures.seen all)
