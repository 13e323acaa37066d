use Rattle.std.proofs.Common.{rules, tests}
use Rattle.std.specs.Str.{bytes_eq}
use Rattle.std.proofs.lemmas.Iterator.{YieldsList-from_slice}
use Rattle.std.proofs.lemmas.Iterator.Search.{find_from_yields_List}
use Rattle.gate_base.specs.declared.pages.Page.{Page}
use Rattle.gate_base.proofs.pages.Pages.at.Goals as goal

pub returns : goal.returns
returns c =
    find_from_yields_List (λ (page : Page). bytes_eq page.path c.args.path.now) _ _ _ c.find.ensures.ran
    (YieldsList-from_slice c.args.self.now (cc)) (λ x b q k. search (rules, tests))
