-- The key's block, and what is hashed behind it.
use Rattle.std.proofs.Common.{◌≡◌, ℕ, ◌+◌, ◌-◌, ◌<◌, ◌≤◌, true, false, nat_lt, List, [], ◌∷◌, ◌++◌, length, take, drop, set, get_or, bit_xor, replicate, ap, sym, ◌∙◌, refl, arith, append_assoc}
use Rattle.std.proofs.lemmas.Bool.Decides.{nat_tests}
use Rattle.std.proofs.lemmas.List.{drop-replicate, drop_more, take_more, map-append, set_at, get_or_at, length-map, length-take-le}
use Rattle.sha2.specs.Sha256.{sha256}
use Rattle.hmac_sha256.specs.Hmac.{added_to_each, block_key, inner_key, outer_key, hmac_sha256}

is_long : (n : ℕ) → 64 < n → nat_lt 64 n ≡ true
is_long n h = grind (arith, nat_tests)

is_short : (n : ℕ) → n ≤ 64 → nat_lt 64 n ≡ false
is_short n h = grind (arith, nat_tests)

-- a longer key's digest, with as many zeros behind it
pub block_of_long : (key digest : List ℕ) → 64 < length key → digest ≡ sha256 key → length digest ≡ 32 → digest ++ replicate 32 0 ≡ block_key key
unfolding block_key
block_of_long key digest h e l =
    let count : 64 - length digest ≡ 32 = omega arith in
    rw (is_long (length key) h, ← e, count) refl

-- another key, with zeros behind it
pub block_of_short : (key : List ℕ) → length key ≤ 64 → key ++ drop (length key) (replicate 64 0) ≡ block_key key
unfolding block_key
block_of_short key h = rw (is_short (length key) h, drop-replicate {X = ℕ} (length key) 64 0) refl

-- the same is added to one more byte
pub added_to_more : (pad : ℕ) (block items : List ℕ) (i : ℕ) → i < length block
    → items ≡ added_to_each pad (take i block) ++ drop i block
    → set items i (bit_xor (get_or items i 0) pad) ≡ added_to_each pad (take (i + 1) block) ++ drop (i + 1) block
added_to_more pad block items i h e =
    let x : ℕ = get_or block i 0 in
    let before : List ℕ = added_to_each pad (take i block) in
    let rest : List ℕ = drop (i + 1) block in
    let count : length before ≡ i = length-map (take i block) (λ byte. bit_xor byte pad) ∙ length-take-le i block (omega arith) in
    let split : items ≡ before ++ x ∷ rest = e ∙ ap (λ t. before ++ t) (drop_more block i 0 h) in
    let here : get_or items i 0 ≡ x = ap (λ t. get_or t i 0) split ∙ get_or_at before x rest 0 i count in
    ap (λ t. set t i (bit_xor (get_or items i 0) pad)) split
    ∙ set_at before x rest (bit_xor (get_or items i 0) pad) i count
    ∙ ap (λ y. before ++ bit_xor y pad ∷ rest) here
    ∙ sym (append_assoc before (bit_xor x pad ∷ []) rest)
    ∙ ap (λ t. t ++ rest) (sym (map-append (λ byte. bit_xor byte pad) (take i block) (x ∷ [])))
    ∙ ap (λ t. added_to_each pad t ++ rest) (sym (take_more block i 0 h))

-- the outer hash over the inner one
pub hash_of_hashes : (key message block inner digest outer code : List ℕ) → block ≡ block_key key
    → inner ≡ added_to_each 0x36 block → digest ≡ sha256 (inner ++ message)
    → outer ≡ added_to_each 0x5c block → code ≡ sha256 (outer ++ digest) → code ≡ hmac_sha256 key message
unfolding hmac_sha256 inner_key outer_key
hash_of_hashes key message block inner digest outer code b i d o e =
    e ∙ ap (λ t. sha256 (t ++ digest)) (o ∙ ap (added_to_each 0x5c) b)
    ∙ ap (λ t. sha256 (added_to_each 0x5c (block_key key) ++ t)) (d ∙ ap (λ t. sha256 (t ++ message)) (i ∙ ap (added_to_each 0x36) b))
