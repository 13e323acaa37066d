use Rattle.std.proofs.Common.{◌≡◌, ℕ, ◌==◌, List, length, decimal, rules, ap, ◌∙◌}
use Rattle.std.proofs.lemmas.Result.{on_ok_weaker}
use Rattle.health_json.specs.Checks.{truth}
use Rattle.health_json.proofs.Replies.{counts_put}
use Rattle.health_json.proofs.report.put_counts.Goals as goal

pub returns : goal.returns
returns c =
    let health = c.args.health.now in
    let shares : c.as_slice.result.now ≡ health.corrupt = search rules in
    let corrupt : c.as_bytes.result.now ≡ decimal (length health.corrupt) = c.as_bytes.ensures.value ∙ c.format.ensures.text ∙ ap (λ (xs : List (ℕ × ℕ)). decimal (length xs)) shares in
    let expected : c.as_bytes-2.result.now ≡ decimal health.expected = search (rules, c.health.view_is) in
    let good : c.as_bytes-3.result.now ≡ decimal health.good = search (rules, c.health.view_is) in
    let needed : c.as_bytes-4.result.now ≡ decimal health.needed = search (rules, c.health.view_is) in
    let healthy : c.truth.result.now ≡ truth (health.good == health.expected) = search (rules, c.health.view_is) in
    on_ok_weaker c.put_all.result (counts_put health _ _ _ _ _ _ _ corrupt expected good needed healthy) c.put_all.ensures
