-- Digests, their lengths, and what they fix where no two strings collide.
use Rattle.std.proofs.Common.{◌≡◌, ℕ, zero, suc, ◌*◌, List, ◌++◌, length, get_or, refl, sym, ◌∙◌, ⊎_elim, arith, length-append, length-take}
use Rattle.std.specs.Prelude.{Contains}
use Rattle.std.specs.Int.{to_be_bytes, w32}
use Rattle.std.proofs.lemmas.List.{take_all}
use Rattle.std.proofs.lemmas.List.Elements.{Contains-append_left, Contains-append_right, Contains-append_cases}
use Rattle.sha2.specs.Sha256.{sha256, digest_bytes, final_hash, initial_hash_256}
use Rattle.tag_hash.specs.Netstring.{netstring}
use Rattle.tag_hash.specs.Use.{Use, digest, double_sha256}
use Rattle.tag_hash.specs.Tagged.{tagged, tagged16, tagged_text, tagged_use, tagged16_use}
use Rattle.tag_hash.specs.Pair.{pair, pair_text, pair_use}
use Rattle.tag_hash.specs.Collisions.{NoCollision, Includes}
use Rattle.tag_hash.proofs.NetstringLemmas.{netstring_parts, netstring_injective}

length-word : (x : ℕ) → length (to_be_bytes w32 x) ≡ 4
length-word x = refl

length-digest_bytes : (h : List ℕ) (n : ℕ) → length (digest_bytes h n) ≡ n * 4
unfolding digest_bytes
length-digest_bytes h zero = refl
length-digest_bytes h (suc n) = omega (arith, length-append (digest_bytes h n) (to_be_bytes w32 (get_or h n 0)), length-digest_bytes h n, length-word (get_or h n 0))

length-sha256 : (m : List ℕ) → length (sha256 m) ≡ 32
unfolding sha256
length-sha256 m = length-digest_bytes (final_hash initial_hash_256 m) 8

pub length-double_sha256 : (m : List ℕ) → length (double_sha256 m) ≡ 32
unfolding double_sha256
length-double_sha256 m = length-sha256 (sha256 m)

pub length-tagged : (tag value : List ℕ) → length (tagged tag value) ≡ 32
unfolding tagged
length-tagged tag value = length-double_sha256 (tagged_text tag value)

pub length-tagged16 : (tag value : List ℕ) → length (tagged16 tag value) ≡ 16
unfolding tagged16
length-tagged16 tag value = omega (arith, length-take 16 (tagged tag value), length-tagged tag value)

pub length-pair : (tag first second : List ℕ) → length (pair tag first second) ≡ 32
unfolding pair
length-pair tag first second = length-double_sha256 (pair_text tag first second)

-- the digest of each use is the hash that it stands for
pub digest-tagged_use : (tag value : List ℕ) → digest (tagged_use tag value) ≡ tagged tag value
unfolding tagged
digest-tagged_use tag value = take_all 32 (double_sha256 (tagged_text tag value)) (let e = length-double_sha256 (tagged_text tag value) in omega arith)

pub digest-tagged16_use : (tag value : List ℕ) → digest (tagged16_use tag value) ≡ tagged16 tag value
unfolding tagged tagged16
digest-tagged16_use tag value = refl

pub digest-pair_use : (tag first second : List ℕ) → digest (pair_use tag first second) ≡ pair tag first second
unfolding pair
digest-pair_use tag first second = take_all 32 (double_sha256 (pair_text tag first second)) (let e = length-double_sha256 (pair_text tag first second) in omega arith)

-- ---- texts fix their parts

pub tagged_text_parts : (tag tag' value value' : List ℕ) → tagged_text tag value ≡ tagged_text tag' value' → (tag ≡ tag') × (value ≡ value')
unfolding tagged_text
tagged_text_parts tag tag' value value' e = netstring_parts tag tag' value value' e

pub pair_text_parts : (tag tag' first first' second second' : List ℕ) → pair_text tag first second ≡ pair_text tag' first' second' → (tag ≡ tag') × (first ≡ first') × (second ≡ second')
unfolding pair_text
pair_text_parts tag tag' first first' second second' e =
    let front = netstring_parts tag tag' (netstring first ++ netstring second) (netstring first' ++ netstring second') e in
    let values = netstring_parts first first' (netstring second) (netstring second') front.1 in
    (front.0, values.0, netstring_injective second second' values.1)

-- ---- uses that do not collide

pub NoCollision-part : (uses part : List Use) → NoCollision uses → Includes uses part → NoCollision part
NoCollision-part uses part apart among one other here there size same = apart one other (among one here) (among other there) size same

pub tagged_parts : (uses : List Use) (tag tag' value value' : List ℕ) → NoCollision uses → Contains uses (tagged_use tag value) → Contains uses (tagged_use tag' value') → tagged tag value ≡ tagged tag' value' → (tag ≡ tag') × (value ≡ value')
tagged_parts uses tag tag' value value' apart here there e =
    tagged_text_parts tag tag' value value'
    (apart (tagged_use tag value) (tagged_use tag' value') here there refl (digest-tagged_use tag value ∙ e ∙ sym (digest-tagged_use tag' value')))

pub tagged16_parts : (uses : List Use) (tag tag' value value' : List ℕ) → NoCollision uses → Contains uses (tagged16_use tag value) → Contains uses (tagged16_use tag' value') → tagged16 tag value ≡ tagged16 tag' value' → (tag ≡ tag') × (value ≡ value')
tagged16_parts uses tag tag' value value' apart here there e =
    tagged_text_parts tag tag' value value'
    (apart (tagged16_use tag value) (tagged16_use tag' value') here there refl (digest-tagged16_use tag value ∙ e ∙ sym (digest-tagged16_use tag' value')))

pub pair_parts : (uses : List Use) (tag tag' first first' second second' : List ℕ) → NoCollision uses → Contains uses (pair_use tag first second) → Contains uses (pair_use tag' first' second') → pair tag first second ≡ pair tag' first' second' → (tag ≡ tag') × (first ≡ first') × (second ≡ second')
pair_parts uses tag tag' first first' second second' apart here there e =
    pair_text_parts tag tag' first first' second second'
    (apart (pair_use tag first second) (pair_use tag' first' second') here there refl (digest-pair_use tag first second ∙ e ∙ sym (digest-pair_use tag' first' second')))

-- the parts of joined lists
pub Includes-append : (uses first second : List Use) → Includes uses first → Includes uses second → Includes uses (first ++ second)
Includes-append uses first second mine theirs one among = ⊎_elim (mine one) (theirs one) (Contains-append_cases first second one among)

pub Includes-append_left : (uses first second : List Use) → Includes uses (first ++ second) → Includes uses first
Includes-append_left uses first second among one here = among one (Contains-append_left first second one here)

pub Includes-append_right : (uses first second : List Use) → Includes uses (first ++ second) → Includes uses second
Includes-append_right uses first second among one here = among one (Contains-append_right first second one here)
