-- The JSON of a check as the text of a value.
use Rattle.std.proofs.Common.{◌≡◌, ℕ, ◌==◌, ◌<◌, ◌≤◌, ◌^◌, nat_le, Bool, true, false, List, [], ◌∷◌, ◌++◌, length, map, codes, decimal, refl, sym, ◌∙◌, append_assoc, append-nil, Some, arith, rules}
use Rattle.std.specs.Prelude.{All}
use Rattle.std.specs.List.{join_with_byte}
use Rattle.std.proofs.lemmas.List.Elements.{All-head, All-tail}
use Rattle.serde_json.specs.Data.{boolean, items_depth}
use Rattle.serde_json.specs.Read.{read}
use Rattle.serde_json.specs.Written.{items_have_float, comma_if, items_text, compact_text}
use Rattle.serde_json.proofs.OnLiterals.{serde_json_on_literals}
use Rattle.base32_text.specs.Base32.{spelling}
use Rattle.file_shares.specs.Check.{HealthValue}
use Rattle.json_spelling.specs.Sound.{ItemsAreSound}
use Rattle.json_view.specs.Strings.{quoted}
use Rattle.health_json.specs.Checks.{truth, bad_share_text, counts_text, check_text, literal_check_text}
use Rattle.health_json.specs.Values.{share_value, shares_value, check_value, literal_check_value, IsCounted}
use Rattle.json_view.specs.Listings.{with_commas}
use Rattle.json_view.proofs.Commas.{parted_joined}
use Rattle.json_view.proofs.ReadBack.{ValuesAreReadBack, read_as}

-- ---- shares

share_written : (index : List ℕ) (share : ℕ × ℕ) → bad_share_text (quoted (spelling index)) share ≡ compact_text (share_value index share)
unfolding quoted bad_share_text
share_written index share = refl

pub shares_written : (later : Bool) (index : List ℕ) (shares : List (ℕ × ℕ)) → with_commas later (map (bad_share_text (quoted (spelling index))) shares) (93 ∷ []) ≡ items_text later (shares_value index shares)
shares_written later index [] = refl
shares_written later index (share ∷ more) =
    let first = share_written index share in
    let rest = shares_written true index more in
    (λ i. comma_if later ++ (first i ++ rest i))

abbrev pub Fits : ℕ × ℕ → Type 0
Fits share = (share.0 < 2 ^ 64) × (share.1 < 2 ^ 64)

shares_sound : (index : List ℕ) (shares : List (ℕ × ℕ)) → All Fits shares → ItemsAreSound (shares_value index shares)
shares_sound index [] fit = tt
shares_sound index (share ∷ more) fit =
    let first = All-head Fits share more fit in
    ((first.0, (tt, (first.1, tt))), shares_sound index more (All-tail Fits share more fit))

shares_whole : (index : List ℕ) (shares : List (ℕ × ℕ)) → items_have_float (shares_value index shares) ≡ false
shares_whole index [] = refl
shares_whole index (share ∷ more) = shares_whole index more

pub shares_shallow : (index : List ℕ) (shares : List (ℕ × ℕ)) → items_depth (shares_value index shares) ≤ 1
shares_shallow index [] = omega arith
shares_shallow index (share ∷ more) = let rest = shares_shallow index more in omega (arith, rest)

-- ---- checks

pub truth_written : (value : Bool) → truth value ≡ compact_text (boolean value)
truth_written true = refl
truth_written false = refl

check_closed : (a n b e c g d k h t l s r u i q : List ℕ)
    → (a ++ (n ++ (b ++ (e ++ (c ++ (g ++ (d ++ (k ++ (h ++ (t ++ (l ++ []))))))))))) ++ (s ++ (93 ∷ (r ++ (u ++ 125 ∷ (i ++ (q ++ 125 ∷ []))))))
    ≡ a ++ ((n ++ (b ++ (e ++ (c ++ (g ++ (d ++ (k ++ (h ++ (t ++ (l ++ ((s ++ 93 ∷ []) ++ (r ++ (u ++ 125 ∷ []))))))))))))) ++ (i ++ (q ++ 125 ∷ [])))
check_closed a n b e c g d k h t l s r u i q = simp (append_assoc, append-nil)

unfoldable pub before : HealthValue → List ℕ → List ℕ
before health more =
    decimal (length health.corrupt) ++ (codes ",\"count-shares-expected\":" ++ (decimal health.expected ++ (codes ",\"count-shares-good\":" ++ (decimal health.good
    ++ (codes ",\"count-shares-needed\":" ++ (decimal health.needed ++ (codes ",\"healthy\":" ++ more)))))))

pub check_written : (index : List ℕ) (health : HealthValue) → check_text index health ≡ compact_text (check_value index health)
unfolding serde_json_on_literals quoted counts_text check_text before
check_written index health =
    let healthy = truth_written (health.good == health.expected) in
    let recoverable = truth_written (nat_le health.needed health.good) in
    let shares = sym (parted_joined (map (bad_share_text (quoted (spelling index))) health.corrupt) (93 ∷ [])) ∙ shares_written false index health.corrupt in
    check_closed (codes "{\"results\":{\"count-corrupt-shares\":") (decimal (length health.corrupt)) (codes ",\"count-shares-expected\":") (decimal health.expected)
    (codes ",\"count-shares-good\":") (decimal health.good) (codes ",\"count-shares-needed\":") (decimal health.needed) (codes ",\"healthy\":") (truth (health.good == health.expected))
    (codes ",\"list-corrupt-shares\":[") (join_with_byte 44 (map (bad_share_text (quoted (spelling index))) health.corrupt)) (codes ",\"recoverable\":") (truth (nat_le health.needed health.good))
    (codes ",\"storage-index\":") (quoted (spelling index))
    ∙ (λ i. codes "{\"results\":{\"count-corrupt-shares\":"
    ++ (before health (healthy i ++ (codes ",\"list-corrupt-shares\":[" ++ (shares i ++ (codes ",\"recoverable\":" ++ (recoverable i ++ 125 ∷ [])))))
    ++ (codes ",\"storage-index\":" ++ (quoted (spelling index) ++ 125 ∷ []))))

pub check_read : ValuesAreReadBack → (index : List ℕ) (health : HealthValue) → IsCounted health → read (check_text index health) ≡ Some (check_value index health)
check_read back index health counted =
    let shares = shares_sound index health.corrupt counted.shares in
    let shallow = shares_shallow index health.corrupt in
    read_as back (check_text index health) (check_value index health) (check_written index health)
    (search (rules, shares, counted.needed, counted.expected, counted.good, counted.corrupt))
    (rw (shares_whole index health.corrupt) refl)
    (omega (arith, shallow))

pub literal_check_written : literal_check_text ≡ compact_text literal_check_value
unfolding serde_json_on_literals literal_check_text
literal_check_written = refl

pub literal_check_read : ValuesAreReadBack → read literal_check_text ≡ Some literal_check_value
literal_check_read back = read_as back literal_check_text literal_check_value literal_check_written (search rules) refl (omega arith)
