use Rattle.std.proofs.Common.{◌≡◌, ℕ, List, codes, refl, sym, subst, string_bytes}
use Rattle.client_tasks.specs.Lines.{HasNoMark}
use Rattle.client_tasks.proofs.NoMark.{no_mark}
use Rattle.client_tasks.proofs.messages.untold.Goals as goal

pub invariant_of-result-clause-no_cap : goal.invariant_of-result-clause-no_cap
invariant_of-result-clause-no_cap c =
    let text : string_bytes c.in_ok-text.text ≡ codes "woz: a message that can't be told" = c.in_ok-text.ensures.ok in
    subst (λ (t : List ℕ). HasNoMark t) (sym text) (no_mark (codes "woz: a message that can't be told") refl)
