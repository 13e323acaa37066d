-- Bytes that are read in parts.
use Rattle.std.proofs.Common.{◌≡◌, ◌<◌, ◌≤◌, ◌+◌, ◌-◌, ℕ, List, [], ◌++◌, length, take, drop, Option, Some, None, IfSome, refl, sym, ap, subst, ◌∙◌, arith, take_at, drop_at, length-take-le, append-nil, length-append, length-drop, Bool, true, false}
use Rattle.std.specs.Prelude.{MatchBool}
use Rattle.std.proofs.lemmas.List.{take-append-le, take_all, drop_all, drop-drop, length-take}
use Rattle.std.proofs.Math.Seq.{take-add}
use Rattle.std.specs.Io.KnownBytes.{Consumes}
use Rattle.std.proofs.KnownBytes.{Consumes-trans}
use borrow.Rule.Slice.PartMut.{put_mid, post_of}

-- what a buffer holds in front, once n bytes came behind the first a
pub front_more : (a k n : ℕ) (xs ys : List ℕ) → a ≤ length xs → n ≤ length ys → take (a + n) (put_mid a k xs ys) ≡ take a xs ++ take n ys
front_more a k n xs ys within fits =
    let rest = ys ++ post_of a k xs in
    let long : length (take a xs) ≡ a = length-take-le a xs within in
    take-add a n (take a xs ++ rest)
    ∙ ap (λ l. l ++ take n (drop a (take a xs ++ rest))) (take_at (take a xs) rest a long)
    ∙ ap (λ l. take a xs ++ take n l) (drop_at (take a xs) rest a long)
    ∙ ap (λ l. take a xs ++ l) (take-append-le n ys (post_of a k xs) fits)

pub taken_more : (r0 r1 r2 : Option (List ℕ)) (a k n : ℕ) (xs ys : List ℕ) → a ≤ length xs → n ≤ length ys → Consumes r0 r1 (take a xs) → Consumes r1 r2 (take n ys) → Consumes r0 r2 (take (a + n) (put_mid a k xs ys))
taken_more r0 r1 r2 a k n xs ys within fits before now = subst (Consumes r0 r2) (sym (front_more a k n xs ys within fits)) (Consumes-trans r0 r1 r2 (take a xs) (take n ys) before now)

-- a vector that was made longer begins with what it held
pub kept_front : (old pad : List ℕ) (start n : ℕ) → start ≡ length old → start ≤ n → take start (take n old ++ pad) ≡ old
kept_front old pad start n same le = ap (λ l. take start (l ++ pad)) (take_all n old (omega arith)) ∙ take_at old pad start (sym same)

-- The piece that was read stands behind what stood before.
read_behind : (len start : ℕ) (old items piece behind : List ℕ) → take start items ≡ old → start ≤ length items → length items ≡ len → length piece ≡ length items - start
    → take len (put_mid start (length items - start) items piece ++ behind) ≡ old ++ piece
read_behind len start old items piece behind front within same long =
    let none : post_of start (length items - start) items ≡ [] = drop_all (length items - start) (drop start items) (omega (arith, length-drop start items)) in
    let whole : put_mid start (length items - start) items piece ≡ old ++ piece =
    ap (λ l. take start items ++ (piece ++ l)) none ∙ ap (λ l. take start items ++ l) (append-nil piece) ∙ ap (λ l. l ++ piece) front in
    ap (λ l. take len (l ++ behind)) whole
    ∙ take_at (old ++ piece) behind len (omega (arith, length-append old piece, ap length front, length-take-le start items within))

pub piece_told : (r0 r1 : Option (List ℕ)) (len start count came : ℕ) (old items piece behind : List ℕ) → take start items ≡ old → start ≤ length items → length items ≡ len → length piece ≡ length items - start
    → len ≡ start + count → count ≤ came → came ≤ length piece → IfSome r0 (λ left. (take came piece ≡ take (length piece) left) × (r1 ≡ Some (drop (length piece) left)))
    → IfSome r0 (λ left. (count ≤ length left) × (take len (put_mid start (length items - start) items piece ++ behind) ≡ old ++ take count left) × (r1 ≡ Some (drop count left)))
piece_told None r1 len start count came old items piece behind front within same long sum enough bound told = tt
piece_told (Some left) r1 len start count came old items piece behind front within same long sum enough bound told =
    let size : length piece ≡ count = omega arith in
    let all : take came piece ≡ piece = take_all came piece (omega arith) in
    let is : piece ≡ take count left = sym all ∙ told.0 ∙ ap (λ n. take n left) size in
    let many : count ≤ length left = omega (arith, ap length is, length-take count left) in
    (many, read_behind len start old items piece behind front within same long ∙ ap (λ l. old ++ l) is, told.1 ∙ ap (λ n. Some (drop n left)) size)

-- the reader's bytes ended before
pub short_told : (r0 r1 : Option (List ℕ)) (count came : ℕ) (piece : List ℕ) → length piece ≡ count → came < count
    → IfSome r0 (λ left. (take came piece ≡ take (length piece) left) × (r1 ≡ Some (drop (length piece) left))) → IfSome r0 (λ left. length left < count)
short_told None r1 count came piece size less told = tt
short_told (Some left) r1 count came piece size less told =
    omega (arith, ap length told.0, length-take-le came piece (omega arith), length-take (length piece) left)

-- one more piece of a share's bytes was read
pub bytes_more : (r0 r1 r2 : Option (List ℕ)) (old new : List ℕ) (n m count : ℕ) (whole : Bool) → whole ≡ true → m ≡ n + count
    → IfSome r0 (λ left. (n ≤ length left) × (old ≡ take n left) × (r1 ≡ Some (drop n left)))
    → IfSome r1 (λ left. MatchBool whole ((count ≤ length left) × (new ≡ old ++ take count left) × (r2 ≡ Some (drop count left))) (length left < count))
    → IfSome r0 (λ left. (m ≤ length left) × (new ≡ take m left) × (r2 ≡ Some (drop m left)))
bytes_more None r1 r2 old new n m count whole is sum before now = tt
bytes_more (Some left) None r2 old new n m count whole is sum before now = let no = before.2 in cc
bytes_more (Some left) (Some rest) r2 old new n m count false is sum before now = cc
bytes_more (Some left) (Some rest) r2 old new n m count true is sum before now =
    let told : Some rest ≡ Some (drop n left) = before.2 in
    let same : rest ≡ drop n left = cc in
    let many : m ≤ length left = omega (arith, now.0, ap length same, length-drop n left) in (
      many,
      now.1 ∙ ap (λ l. l ++ take count rest) before.1 ∙ ap (λ l. take n left ++ take count l) same ∙ sym (take-add n count left) ∙ ap (λ k. take k left) (sym sum),
      now.2 ∙ ap (λ l. Some (drop count l)) same ∙ ap Some (drop-drop count n left) ∙ ap (λ k. Some (drop k left)) (sym sum),
    )

-- before any piece
pub bytes_none : (r : Option (List ℕ)) → IfSome r (λ left. (0 ≤ length left) × ([] ≡ take 0 left) × (r ≡ Some (drop 0 left)))
bytes_none None = tt
bytes_none (Some left) = (omega arith, refl, refl)

-- all the bytes came
pub bytes_all : (r0 r1 : Option (List ℕ)) (bytes : List ℕ) (n count : ℕ) → n ≡ count → IfSome r0 (λ left. (n ≤ length left) × (bytes ≡ take n left) × (r1 ≡ Some (drop n left)))
    → IfSome r0 (λ left. (count ≤ length left) × (bytes ≡ take count left) × (r1 ≡ Some (drop count left)))
bytes_all r0 r1 bytes n count same told = subst (λ k. IfSome r0 (λ left. (k ≤ length left) × (bytes ≡ take k left) × (r1 ≡ Some (drop k left)))) same told
