use Rattle.std.proofs.Common.{List, Contains, subst}
use Rattle.chk_file.specs.Cached.{CacheEntry}
use Rattle.gate_core.proofs.foresight.PreparedFor.leaves.Goals as goal

pub returns : goal.returns
returns c entry there = subst (λ (entries : List CacheEntry). Contains entries entry) c.leaves_upload.ensures (c.leaves_read.ensures entry there)
