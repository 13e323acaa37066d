use Rattle.std.proofs.Common.{ℕ, ◌++◌, ◌∷◌, [], List, get_or, None, refl, sym, ap, ◌∙◌, append_assoc}
use Rattle.std.proofs.Math.ListN.{drop_of_length-le}
use Rattle.std.proofs.lemmas.Result.{on_ok_weaker}
use Rattle.health_json.proofs.Sharemap.{left_text, map_put, one_put}
use Rattle.health_json.proofs.report.put_sharemap.Goals as goal

pub loop-server-init : goal.loop-server-init
loop-server-init c =
    let old : List ℕ = c.args.out.now.items in
    let places : List (ℕ × ℕ) = c.args.places.now in
    ap (λ t. t ++ left_text None places) c.in_ok-extend_from_slice.ensures.items
    ∙ append_assoc old (123 ∷ []) (left_text None places)
    ∙ ap (λ t. old ++ t) (map_put places)

pub loop-server-preserved : goal.loop-server-preserved
loop-server-preserved c =
    one_put c.loop-server.before c.args.places.now c.loop-server.server-index (0, 0) (get_or c.args.places.now c.loop-server.server-index (0, 0)) _ _ _ c.loop-server-test.true refl
    c.loop-server.invariant c.in_ok-put_place.ensures

pub returns : goal.returns
returns c =
    let places : List (ℕ × ℕ) = c.args.places.now in
    on_ok_weaker c.put_end.result
    (λ put. put ∙ ap (λ ps. c.loop-server.out.items ++ left_text c.loop-server.before ps) (sym (drop_of_length-le places c.loop-server-test.false)) ∙ c.loop-server.invariant)
    c.put_end.ensures
