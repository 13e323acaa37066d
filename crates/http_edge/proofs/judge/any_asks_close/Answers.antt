use Rattle.std.proofs.Common.{rules, tests}
use Rattle.std.proofs.lemmas.Iterator.{YieldsList-from_slice}
use Rattle.std.proofs.lemmas.Iterator.Search.{any_from_yields_List}
use Rattle.http_edge.specs.Judge.{asks_close}
use Rattle.http_edge.proofs.judge.any_asks_close.Goals as goal

pub returns : goal.returns
returns c =
    any_from_yields_List asks_close _ _ _ c.any.ensures.ran
    (YieldsList-from_slice c.args.fields.now (cc)) (λ x b q k. search (rules, tests))
