use Rattle.std.proofs.Common.{ℕ, ◌++◌, ◌∷◌, [], List, take, get_or, sym, ap, ◌∙◌}
use Rattle.std.proofs.lemmas.List.{append_assoc, map_more}
use Rattle.file_shares.specs.Gathered.{places_at}
use Rattle.file_shares.proofs.tally.put_places.Goals as goal

pub loop-server-preserved : goal.loop-server-preserved
loop-server-preserved c =
    let number = c.args.number in
    let servers : List ℕ = c.args.servers.now in
    let at : ℕ = c.loop-server.server-index in
    let item : ℕ = get_or servers at 0 in
    let old : List (ℕ × ℕ) = c.args.places.now.items in
    let before : List (ℕ × ℕ) = places_at number (take at servers) in
    c.in_ok-push.ensures.items
    ∙ ap (λ (ys : List (ℕ × ℕ)). ys ++ (item, number) ∷ []) c.loop-server.invariant
    ∙ append_assoc old before ((item, number) ∷ [])
    ∙ ap (λ ys. old ++ ys) (sym (map_more (λ (server : ℕ). (server, number)) servers at 0 c.loop-server-test.true))
