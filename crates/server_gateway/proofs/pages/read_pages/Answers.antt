use Rattle.std.proofs.Common.{◌≡◌, [], ◌∷◌, All, sym, subst}
use Rattle.std.proofs.lemmas.List.Elements.{All-nil, All-cons, All-append}
use Rattle.server_gateway.specs.Pages.{IsFilePage}
use Rattle.server_gateway.proofs.pages.read_pages.Goals as goal

pub loop-entry-preserved : goal.loop-entry-preserved
loop-entry-preserved g c =
    subst (All IsFilePage) (sym c.in_ok-push.ensures.items)
    (All-append IsFilePage _ _ c.loop-entry.invariant (All-cons IsFilePage _ [] c.in_ok-page.ensures.page (All-nil IsFilePage)))

pub returns : goal.returns
returns g c = subst (All IsFilePage) (sym c.from_vec.ensures) c.loop-entry.invariant
