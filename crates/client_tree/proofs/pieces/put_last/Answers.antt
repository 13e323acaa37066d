use Rattle.std.proofs.Common.{◌≡◌, List, ◌++◌, ◌∷◌, [], ◌∙◌, subst}
use Rattle.caps.specs.declared.cap.Cap.{Cap}
use Rattle.client_tree.specs.Stored.{HasParts}
use Rattle.client_tree.proofs.Running.{ok_more}
use Rattle.client_tree.proofs.Read.{more_parts_stored}
use Rattle.client_tree.proofs.pieces.put_last.Goals as goal

pub returns : goal.returns
returns g c =
    let last : Cap = c.in_ok-put_piece.field-0 in
    let caps : c.deref-2.result.now ≡ c.args.caps.items ++ last ∷ [] = c.deref-2.ensures.value ∙ c.in_ok-push.ensures.items in
    ok_more c.join_parts.result _ _
    (λ cap has pieces bound size. more_parts_stored c.args.caps.items last cap c.in_ok-size.size pieces c.args.last.items
    (subst (λ (cs : List Cap). HasParts cs c.in_ok-size.size cap) caps has) bound c.in_ok-put_piece.ensures)
    c.join_parts.ensures
