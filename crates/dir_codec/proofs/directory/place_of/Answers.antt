use Rattle.std.proofs.Common.{rules}
use Rattle.std.proofs.lemmas.Fn.{always_returns_same}
use Rattle.dir_codec.proofs.Halves.{compared, searched}
use Rattle.dir_codec.proofs.directory.place_of.Goals as goal

pub returns : goal.returns
returns c =
    let by_name = c.binary_search_by.ensures.position (compared c.args.name.now) (always_returns_same _ _ _ (λ a r f called. search rules)) in
    rw c.ok.ensures.value (searched c.args.name.now c.args.entries.now c.binary_search_by.result c.requires c.binary_search_by.ensures.bound by_name)
