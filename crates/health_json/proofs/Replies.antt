-- Whole replies, from the pieces that were put.
use Rattle.std.proofs.Common.{◌≡◌, ℕ, ◌==◌, nat_le, List, [], ◌∷◌, ◌++◌, length, map, codes, decimal, ap, ◌∙◌, append_assoc}
use Rattle.std.specs.List.{concat, join_with_byte}
use Rattle.base32_text.specs.Base32.{spelling}
use Rattle.file_shares.specs.Check.{HealthValue}
use Rattle.json_view.specs.Strings.{quoted}
use Rattle.json_view.proofs.Pushed.{three_put}
use Rattle.health_json.specs.Checks.{truth, bad_share_text, counts_text, check_text, sharemap_text, mapped_check_text}

pub check_put : (index : List ℕ) (health : HealthValue) (i j t : List ℕ) (shares : List (ℕ × ℕ)) (x y new : List ℕ)
    → i ≡ quoted (spelling index) → shares ≡ health.corrupt → t ≡ truth (nat_le health.needed health.good) → j ≡ quoted (spelling index)
    → x ≡ counts_text health → y ≡ x ++ join_with_byte 44 (map (bad_share_text i) shares)
    → new ≡ y ++ concat (codes "],\"recoverable\":" ∷ t ∷ codes "},\"storage-index\":" ∷ j ∷ codes "}" ∷ [])
    → new ≡ check_text index health
unfolding check_text
check_put index health i j t shares x y new pi ps pt pj one two three =
    three_put [] (counts_text health) (join_with_byte 44 (map (bad_share_text (quoted (spelling index))) health.corrupt)) _ x y new one
    (two ∙ (λ k. x ++ join_with_byte 44 (map (bad_share_text (pi k)) (ps k))))
    (three ∙ (λ k. y ++ concat (codes "],\"recoverable\":" ∷ pt k ∷ codes "},\"storage-index\":" ∷ pj k ∷ codes "}" ∷ [])))

head_regroup : (a b c rest : List ℕ) → (a ++ (b ++ c)) ++ rest ≡ a ++ (b ++ (c ++ rest))
head_regroup a b c rest = simp append_assoc

pub mapped_put : (index : List ℕ) (health : HealthValue) (i j t : List ℕ) (shares places : List (ℕ × ℕ)) (x y u v z w new : List ℕ)
    → i ≡ quoted (spelling index) → shares ≡ health.corrupt → t ≡ truth (nat_le health.needed health.good) → places ≡ health.places → j ≡ quoted (spelling index)
    → x ≡ counts_text health → y ≡ x ++ join_with_byte 44 (map (bad_share_text i) shares)
    → u ≡ y ++ codes "],\"recoverable\":" → v ≡ u ++ t → z ≡ v ++ codes ",\"sharemap\":" → w ≡ z ++ sharemap_text places
    → new ≡ w ++ concat (codes "},\"storage-index\":" ∷ j ∷ codes "}" ∷ [])
    → new ≡ mapped_check_text index health
unfolding mapped_check_text
mapped_put index health i j t shares places x y u v z w new pi ps pt pp pj one two begun told named four five =
    let listed = join_with_byte 44 (map (bad_share_text (quoted (spelling index))) health.corrupt) in
    let recoverable = truth (nat_le health.needed health.good) in
    let head = codes "],\"recoverable\":" ++ (recoverable ++ codes ",\"sharemap\":") in
    let end = concat (codes "},\"storage-index\":" ∷ quoted (spelling index) ∷ codes "}" ∷ []) in
    three_put [] (counts_text health) listed (head ++ (sharemap_text health.places ++ end)) x y new one
    (two ∙ (λ k. x ++ join_with_byte 44 (map (bad_share_text (pi k)) (ps k))))
    (three_put y head (sharemap_text health.places) end z w new
    (three_put y (codes "],\"recoverable\":") recoverable (codes ",\"sharemap\":") u v z begun (told ∙ ap (λ s. u ++ s) pt) named)
    (four ∙ (λ k. z ++ sharemap_text (pp k)))
    (five ∙ (λ k. w ++ concat (codes "},\"storage-index\":" ∷ pj k ∷ codes "}" ∷ []))))
    ∙ ap (λ s. counts_text health ++ (listed ++ s))
    (head_regroup (codes "],\"recoverable\":") recoverable (codes ",\"sharemap\":") (sharemap_text health.places ++ end))

pub counts_put : (health : HealthValue) (a b d e t old new : List ℕ)
    → a ≡ decimal (length health.corrupt) → b ≡ decimal health.expected → d ≡ decimal health.good → e ≡ decimal health.needed → t ≡ truth (health.good == health.expected)
    → new ≡ old ++ concat (codes "{\"results\":{\"count-corrupt-shares\":" ∷ a ∷ codes ",\"count-shares-expected\":" ∷ b ∷ codes ",\"count-shares-good\":" ∷ d
    ∷ codes ",\"count-shares-needed\":" ∷ e ∷ codes ",\"healthy\":" ∷ t ∷ codes ",\"list-corrupt-shares\":[" ∷ [])
    → new ≡ old ++ counts_text health
unfolding counts_text
counts_put health a b d e t old new pa pb pd pe pt put =
    put ∙ (λ k. old ++ concat (codes "{\"results\":{\"count-corrupt-shares\":" ∷ pa k ∷ codes ",\"count-shares-expected\":" ∷ pb k ∷ codes ",\"count-shares-good\":" ∷ pd k
    ∷ codes ",\"count-shares-needed\":" ∷ pe k ∷ codes ",\"healthy\":" ∷ pt k ∷ codes ",\"list-corrupt-shares\":[" ∷ []))
