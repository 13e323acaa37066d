-- The segments of a download.
use Rattle.std.proofs.Common.{◌≡◌, ◌⊎◌, inl, inr, ◌≤◌, ◌<◌, ℕ, ◌+◌, ◌-◌, ◌*◌, ◌/◌, List, [], length, map, take, drop, min, get_or, sym, ap, ◌∙◌, arith, length-drop}
use Rattle.std.specs.Int.{div_ceil}
use Rattle.std.specs.List.{range_with_len}
use Rattle.std.proofs.Math.Nat.{div-mul-le_self}
use Rattle.std.proofs.lemmas.Grind.{div_ceil_times}
use Rattle.std.proofs.lemmas.List.{take_min, drop_all, drop-drop}
use Rattle.std.proofs.lemmas.List.FromFn.{get_or-map-range_with_len}
use Rattle.aes_ctr.specs.Crypt.{crypt, crypt_from}
use Rattle.share_codec.specs.Params.{ParamsValue}
use Rattle.share_codec.specs.Segments.{block_size, segment_size, segment_count, segment_length, segments}
use Rattle.share_codec.specs.GoodShare.{GoodShare}
use Rattle.file_shares.specs.Fit.{segment_from, crypttext_from}
use Rattle.file_shares.specs.Downloads.{download_left}

-- the next piece of what is left from a place on
pub piece_given : (xs : List ℕ) (at each n : ℕ) → n ≡ min each (length xs - at) → take ((at + n) - at) (drop at xs) ≡ take each (drop at xs)
piece_given xs at each n is =
    let e : (at + n) - at ≡ n = omega arith in
    ap (λ k. take k (drop at xs)) (e ∙ is ∙ ap (min each) (sym (length-drop at xs))) ∙ take_min each (drop at xs)

pub piece_left : (xs : List ℕ) (at each n : ℕ) → n ≡ min each (length xs - at) → drop (at + n) xs ≡ drop each (drop at xs)
piece_left xs at each n is = by_case (grind arith) ∙ sym (drop-drop each at xs)
  where
    by_case : (each ≤ length xs - at) ⊎ (length xs - at ≤ each) → drop (at + n) xs ≡ drop (at + each) xs
    by_case (inl within) = let e : at + n ≡ at + each = omega (arith, is) in ap (λ k. drop k xs) e
    by_case (inr past) = drop_all (at + n) xs (omega (arith, is)) ∙ sym (drop_all (at + each) xs (omega (arith, is)))

-- from the next segment on
pub next_left : (p : ParamsValue) (plain : List ℕ) (at : ℕ) → (download_left p plain (at + 1)).left ≡ drop (segment_size p) (download_left p plain at).left
next_left p plain at =
    let e : (at + 1) * segment_size p ≡ at * segment_size p + segment_size p = grind arith in
    ap (λ n. drop n plain) e ∙ sym (drop-drop (segment_size p) (at * segment_size p) plain)

-- from a later segment on
pub later_left : (p : ParamsValue) (plain : List ℕ) (at n : ℕ) → (download_left p plain (at + n)).left ≡ drop (n * segment_size p) (download_left p plain at).left
later_left p plain at n =
    let e : (at + n) * segment_size p ≡ at * segment_size p + n * segment_size p = grind arith in
    ap (λ m. drop m plain) e ∙ sym (drop-drop (n * segment_size p) (at * segment_size p) plain)

-- a segment that begins within the file is one of its segments
pub begins_within : (p : ParamsValue) (at : ℕ) → 0 < segment_size p → at * segment_size p < p.size → at < segment_count p
unfolding segment_count
begins_within p at some within =
    let covers : p.size ≤ div_ceil p.size (segment_size p) * segment_size p = (div_ceil_times p.size (segment_size p) some).0 in
    grind (arith, covers, within)

-- so many pieces are no more than their bytes
pub counted_within : (n each size : ℕ) → 0 < each → n * each < size → n < size
counted_within n each size some within = grind (arith, some, within)

-- so does the one in which a byte is that is left
pub passes_within : (p : ParamsValue) (plain : List ℕ) (at bytes : ℕ) → 0 < segment_size p → length plain ≡ p.size → bytes < length (download_left p plain at).left
    → (at + bytes / segment_size p) * segment_size p < p.size
passes_within p plain at bytes some long lt =
    let each : ℕ = segment_size p in
    let n : ℕ = bytes / each in
    let le : n * each ≤ bytes = div-mul-le_self bytes each in
    let e : (at + n) * each ≡ at * each + n * each = grind arith in
    omega (arith, le, e, length-drop (at * each) plain, long, lt)

-- a segment has a byte, and no more than are left
pub segment_some : (p : ParamsValue) → 0 < p.k → 0 < p.size → 0 < segment_size p
unfolding segment_size block_size
segment_some p parts some =
    let covers : min 131072 p.size ≤ div_ceil (min 131072 p.size) p.k * p.k = (div_ceil_times (min 131072 p.size) p.k parts).0 in
    omega arith

pub length_within : (p : ParamsValue) (at : ℕ) → segment_length p at ≤ p.size - at * segment_size p
unfolding segment_length
length_within p at = omega arith

-- no byte is left past the last segment
pub none_left : (p : ParamsValue) (plain : List ℕ) (at : ℕ) → 0 < segment_size p → length plain ≡ p.size → at ≡ segment_count p → (download_left p plain at).left ≡ []
unfolding segment_count
none_left p plain at some long is =
    let covers : p.size ≤ div_ceil p.size (segment_size p) * segment_size p = (div_ceil_times p.size (segment_size p) some).0 in
    let e : at * segment_size p ≡ segment_count p * segment_size p = ap (λ n. n * segment_size p) is in
    drop_all (at * segment_size p) plain (omega (arith, covers, e, long))

-- what the laws of the cipher say of parts
abbrev pub CryptFront : Type 0
CryptFront = (key : List ℕ) (p : ℕ) (bytes : List ℕ) (n : ℕ) → take n (crypt_from key p bytes) ≡ crypt_from key p (take n bytes)

abbrev pub CryptBack : Type 0
CryptBack = (key : List ℕ) (p : ℕ) (bytes : List ℕ) (n : ℕ) → drop n (crypt_from key p bytes) ≡ crypt_from key (p + n) (drop n bytes)

abbrev pub CryptWhole : Type 0
CryptWhole = (key bytes : List ℕ) → crypt key bytes ≡ crypt_from key 0 bytes

pub decrypted_at : CryptFront → CryptBack → CryptWhole → (key crypttext : List ℕ) (start each : ℕ) → crypt_from key start (take each (drop start crypttext)) ≡ take each (drop start (crypt key crypttext))
decrypted_at front back whole key crypttext start each =
    let zero_start : 0 + start ≡ start = omega arith in
    sym (front key start (drop start crypttext) each)
    ∙ ap (λ n. take each (crypt_from key n (drop start crypttext))) (sym zero_start)
    ∙ ap (take each) (sym (back key 0 crypttext start))
    ∙ ap (λ b. take each (drop start b)) (sym (whole key crypttext))

-- a segment of the crypttext
pub segment_is : (p : ParamsValue) (shares : List GoodShare) (at : ℕ) → segments p (crypttext_from p shares) ≡ map (segment_from p shares) (range_with_len 0 (segment_count p))
    → get_or (segments p (crypttext_from p shares)) at [] ≡ take (segment_size p) (drop (at * segment_size p) (crypttext_from p shares)) → at < segment_count p
    → segment_from p shares at ≡ take (segment_size p) (drop (at * segment_size p) (crypttext_from p shares))
segment_is p shares at parts each inside =
    sym (get_or-map-range_with_len (segment_from p shares) 0 (segment_count p) at at [] inside (omega arith)) ∙ sym (ap (λ l. get_or l at []) parts) ∙ each
