use Rattle.std.proofs.Common.{◌≡◌, ℕ, List, Option, Some, None, refl, sym, ap, ◌∙◌}
use Rattle.std.specs.Option.{option_copied}
use Rattle.web_request.specs.declared.fault.WebFault.{WebFault}
use Rattle.web_request.specs.declared.fault.WebFault.TheVariants.{NoMemory}
use Rattle.gate_base.specs.declared.pages.Page.{Page}
use Rattle.gate_base.specs.Pages.{page_read}
use Rattle.gate_base.proofs.pages.elsewhere.Goals as goal

none_some : (page : Page) → None ≡ Some page → ⊥
none_some page e = cc

-- where memory was refused no page is read
nothing_read : (pages : List Page) (method target : List ℕ) → page_read pages method target NoMemory ≡ None
unfolding page_read
nothing_read pages method target = refl

read_none : (pages : List Page) (method target : List ℕ) (fault : WebFault) (o : Option Page) → o ≡ page_read pages method target fault → fault ≡ NoMemory → o ≡ None
read_none pages method target fault o is memory = is ∙ ap (page_read pages method target) memory ∙ nothing_read pages method target

pub returns-in-Some-clause-no_memory : goal.returns-in-Some-clause-no_memory
returns-in-Some-clause-no_memory c memory = absurd (none_some _ (sym (read_none _ _ _ _ _ c.page_read.ensures memory) ∙ ap option_copied c.in-Some.is))
