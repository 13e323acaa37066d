use Rattle.std.proofs.Common.{List, Contains, subst}
use Rattle.chk_file.specs.Cached.{CacheEntry}
use Rattle.gate_core.proofs.foresight.let_go_of_read.Goals as goal

pub returns : goal.returns
returns c entry there =
    c.let_go_of_read.ensures entry
    (subst (λ (entries : List CacheEntry). Contains entries entry) c.let_go_of_check.ensures (c.let_go_of_look.ensures entry (c.let_go_of_listing.ensures entry there)))
