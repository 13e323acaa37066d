use Rattle.std.proofs.Common.{◌≡◌, ◌∙◌, ℕ, List, [], ◌∷◌, ap, sym, subst, IfErr}
use Rattle.gate_tasks.specs.Arguments.{IsWrongToServe, IsRefusedFor}
use Rattle.gate_tasks.proofs.Asks.{two_words, three_words}
use Rattle.gate_tasks.proofs.arguments.read_arguments.Goals as goal

pub returns-in-2-clause-refused : goal.returns-in-2-clause-refused
returns-in-2-clause-refused c =
    let address = c.as_slice in
    let count = c.as_slice-in-2 in
    let is : c.args.arguments.now ≡ address.result.now ∷ count.result.now ∷ [] =
    two_words c.args.arguments.now c.index-arguments-0.result c.index-arguments-1.result c.in-2.is c.index-arguments-0.is c.index-arguments-1.is
    ∙ ap (λ (w : List ℕ). w ∷ c.index-arguments-1.result ∷ []) (sym address.ensures) ∙ ap (λ (w : List ℕ). address.result.now ∷ w ∷ []) (sym count.ensures) in
    subst (λ (words : List (List ℕ)). IfErr c.read_service.result (λ fault. IsRefusedFor (IsWrongToServe words) fault)) (sym is) c.read_service.ensures.refused

pub returns-in-3-clause-refused : goal.returns-in-3-clause-refused
returns-in-3-clause-refused c =
    let address = c.as_slice-in-3 in
    let count = c.as_slice-in-3-2 in
    let secret = c.as_slice-in-3-3 in
    let is : c.args.arguments.now ≡ address.result.now ∷ count.result.now ∷ secret.result.now ∷ [] =
    three_words c.args.arguments.now c.index-arguments-0-in-3.result c.index-arguments-1-in-3.result c.index-arguments-2.result c.in-3.is c.index-arguments-0-in-3.is c.index-arguments-1-in-3.is c.index-arguments-2.is
    ∙ ap (λ (w : List ℕ). w ∷ c.index-arguments-1-in-3.result ∷ c.index-arguments-2.result ∷ []) (sym address.ensures) ∙ ap (λ (w : List ℕ). address.result.now ∷ w ∷ c.index-arguments-2.result ∷ []) (sym count.ensures)
    ∙ ap (λ (w : List ℕ). address.result.now ∷ count.result.now ∷ w ∷ []) (sym secret.ensures) in
    subst (λ (words : List (List ℕ)). IfErr c.read_service-in-3.result (λ fault. IsRefusedFor (IsWrongToServe words) fault)) (sym is) c.read_service-in-3.ensures.refused
