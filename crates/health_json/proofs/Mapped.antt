-- The JSON of a check that says where the shares are as the text of a value.
use Rattle.std.proofs.Common.{◌≡◌, ℕ, ◌==◌, ◌<◌, ◌≤◌, ◌^◌, nat_le, Bool, true, false, cond, List, [], ◌∷◌, ◌++◌, length, map, codes, decimal, refl, sym, ap, ◌∙◌, append_assoc, append-nil, Some, arith}
use Rattle.std.specs.Prelude.{All}
use Rattle.std.specs.List.{join_with_byte}
use Rattle.std.proofs.lemmas.List.Elements.{All-head, All-tail}
use Rattle.serde_json.specs.Data.{object, items_depth, members_depth}
use Rattle.serde_json.specs.Read.{read}
use Rattle.serde_json.specs.Written.{comma_if, items_text, members_text, compact_text}
use Rattle.serde_json.proofs.OnLiterals.{serde_json_on_literals}
use Rattle.base32_text.specs.Base32.{spelling}
use Rattle.file_shares.specs.Check.{HealthValue}
use Rattle.json_view.specs.Strings.{quoted}
use Rattle.health_json.specs.Checks.{truth, bad_share_text, counts_text, with_place, sharemap, servers_text, sharemap_text, mapped_check_text}
use Rattle.health_json.specs.Values.{shares_value, servers_value, sharemap_value, mapped_check_value, in_key_order, IsCounted}
use Rattle.health_json.proofs.Checks.{Fits, shares_written, shares_shallow, truth_written, before}
use Rattle.json_view.specs.Listings.{with_commas}
use Rattle.json_view.proofs.Commas.{parted_joined}
use Rattle.health_json.proofs.Ordered.{IsWhole, ItemsAreWhole, MembersAreWhole, ordered_read}
use Rattle.health_json.proofs.Sharemap.{group_put}

-- ---- servers under their numbers

item_closed : (a b c d : List ℕ) → a ++ (b ++ (c ++ d)) ≡ (a ++ (b ++ c)) ++ d
item_closed a b c d = simp append_assoc

servers_written : (later : Bool) (servers more : List ℕ) → with_commas later (map decimal servers) (93 ∷ more) ≡ items_text later (servers_value servers) ++ more
servers_written later [] more = refl
servers_written later (server ∷ servers) more =
    ap (λ t. comma_if later ++ (decimal server ++ t)) (servers_written true servers more)
    ∙ item_closed (comma_if later) (decimal server) (items_text true (servers_value servers)) more

groups_written : (later : Bool) (groups : List (ℕ × List ℕ)) → with_commas later (map servers_text groups) (125 ∷ []) ≡ members_text later (sharemap_value groups)
unfolding quoted
groups_written later [] = refl
groups_written later (group ∷ more) =
    ap (λ t. comma_if later ++ (servers_text group ++ t)) (groups_written true more)
    ∙ ap (λ t. comma_if later ++ t) (group_put group (members_text true (sharemap_value more)))
    ∙ ap (λ t. comma_if later ++ (quoted (decimal group.0) ++ 58 ∷ 91 ∷ t)) (servers_written false group.1 (members_text true (sharemap_value more)))

map_written : (places : List (ℕ × ℕ)) → sharemap_text places ≡ compact_text (object (sharemap_value (sharemap places)))
unfolding sharemap_text
map_written places =
    ap (λ t. 123 ∷ t) (sym (parted_joined (map servers_text (sharemap places)) (125 ∷ [])) ∙ groups_written false (sharemap places))

-- ---- what is whole

abbrev IsServed : ℕ × ℕ → Type 0
IsServed place = place.0 < 2 ^ 64

place_whole : (place : ℕ × ℕ) (groups : List (ℕ × List ℕ)) → IsServed place → MembersAreWhole (sharemap_value groups) → MembersAreWhole (sharemap_value (with_place place groups))
place_whole place [] fits whole = ((fits, tt), tt)
place_whole place (group ∷ more) fits whole = by_case (place.1 == group.0)
  where
    by_case : (same : Bool) → MembersAreWhole (sharemap_value (cond same ((place.1, place.0 ∷ group.1) ∷ more) ((place.1, place.0 ∷ []) ∷ group ∷ more)))
    by_case true = ((fits, whole.0), whole.1)
    by_case false = ((fits, tt), whole)

map_whole : (places : List (ℕ × ℕ)) → All IsServed places → MembersAreWhole (sharemap_value (sharemap places))
map_whole [] all = tt
map_whole (place ∷ more) all = place_whole place (sharemap more) (All-head IsServed place more all) (map_whole more (All-tail IsServed place more all))

shares_whole : (index : List ℕ) (shares : List (ℕ × ℕ)) → All Fits shares → ItemsAreWhole (shares_value index shares)
shares_whole index [] fit = tt
shares_whole index (share ∷ more) fit =
    let first = All-head Fits share more fit in
    ((first.0, (tt, (first.1, tt))), shares_whole index more (All-tail Fits share more fit))

servers_shallow : (servers : List ℕ) → items_depth (servers_value servers) ≤ 0
servers_shallow [] = omega arith
servers_shallow (server ∷ more) = let rest = servers_shallow more in omega (arith, rest)

groups_shallow : (groups : List (ℕ × List ℕ)) → members_depth (sharemap_value groups) ≤ 1
groups_shallow [] = omega arith
groups_shallow (group ∷ more) =
    let first = servers_shallow group.1 in
    let rest = groups_shallow more in
    omega (arith, first, rest)

-- ---- checks

mapped_closed : (a n b e c g d k h t l s r u m p i q : List ℕ)
    → (a ++ (n ++ (b ++ (e ++ (c ++ (g ++ (d ++ (k ++ (h ++ (t ++ (l ++ []))))))))))) ++ (s ++ (93 ∷ (r ++ (u ++ (m ++ (p ++ 125 ∷ (i ++ (q ++ 125 ∷ []))))))))
    ≡ a ++ ((n ++ (b ++ (e ++ (c ++ (g ++ (d ++ (k ++ (h ++ (t ++ (l ++ ((s ++ 93 ∷ []) ++ (r ++ (u ++ (m ++ (p ++ 125 ∷ []))))))))))))))) ++ (i ++ (q ++ 125 ∷ [])))
mapped_closed a n b e c g d k h t l s r u m p i q = simp (append_assoc, append-nil)

pub mapped_check_written : (index : List ℕ) (health : HealthValue) → mapped_check_text index health ≡ compact_text (mapped_check_value index health)
unfolding serde_json_on_literals quoted counts_text mapped_check_text before
mapped_check_written index health =
    let healthy = truth_written (health.good == health.expected) in
    let recoverable = truth_written (nat_le health.needed health.good) in
    let shares = sym (parted_joined (map (bad_share_text (quoted (spelling index))) health.corrupt) (93 ∷ [])) ∙ shares_written false index health.corrupt in
    let mapped = map_written health.places in
    mapped_closed (codes "{\"results\":{\"count-corrupt-shares\":") (decimal (length health.corrupt)) (codes ",\"count-shares-expected\":") (decimal health.expected)
    (codes ",\"count-shares-good\":") (decimal health.good) (codes ",\"count-shares-needed\":") (decimal health.needed) (codes ",\"healthy\":") (truth (health.good == health.expected))
    (codes ",\"list-corrupt-shares\":[") (join_with_byte 44 (map (bad_share_text (quoted (spelling index))) health.corrupt)) (codes ",\"recoverable\":") (truth (nat_le health.needed health.good))
    (codes ",\"sharemap\":") (sharemap_text health.places) (codes ",\"storage-index\":") (quoted (spelling index))
    ∙ (λ i. codes "{\"results\":{\"count-corrupt-shares\":"
    ++ (before health (healthy i ++ (codes ",\"list-corrupt-shares\":[" ++ (shares i ++ (codes ",\"recoverable\":" ++ (recoverable i ++ (codes ",\"sharemap\":" ++ (mapped i ++ 125 ∷ [])))))))
    ++ (codes ",\"storage-index\":" ++ (quoted (spelling index) ++ 125 ∷ []))))

pub mapped_check_read : (index : List ℕ) (health : HealthValue) → IsCounted health → All (λ place. place.0 < 2 ^ 64) health.places
    → read (mapped_check_text index health) ≡ Some (in_key_order (mapped_check_value index health))
mapped_check_read index health counted served =
    let shallow = shares_shallow index health.corrupt in
    let flat = groups_shallow (sharemap health.places) in
    let shares = shares_whole index health.corrupt counted.shares in
    let mapped = map_whole health.places served in
    let whole : IsWhole (mapped_check_value index health) =
    ((counted.corrupt, (counted.expected, (counted.good, (counted.needed, (tt, (shares, (tt, (mapped, tt)))))))), (tt, tt)) in
    ap read (mapped_check_written index health) ∙ ordered_read (mapped_check_value index health) whole (omega (arith, shallow, flat))
