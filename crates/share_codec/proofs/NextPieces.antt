-- The next pieces of a list that is cut, and their hashes.
use Rattle.std.proofs.Common.{◌≡◌, ℕ, zero, suc, ◌+◌, ◌-◌, ◌*◌, ◌<◌, ◌≤◌, min, Bool, true, false, if◌then◌else◌, List, [], ◌∷◌, ◌++◌, Bor, length, take, drop, map, refl, sym, ap, ◌∙◌, subst, arith}
use Rattle.std.specs.Simd.{first_chunks}
use Rattle.std.proofs.lemmas.List.{drop-drop, drop_all}
use Rattle.std.proofs.Math.Nat.{mul-le-mul_right}
use Rattle.std.proofs.Math.Seq.{take-nil}
use Rattle.erasure.specs.Given.{contents_of}
use Rattle.share_codec.specs.Maker.{AreFirstHashes}
use Rattle.share_codec.proofs.Cuts.{length-chunks, start_within}
use Rattle.share_codec.proofs.Making.{hashed_pieces}
use Rattle.share_codec.proofs.Steps.{more_first, made_next, take_min}

take_chunks : (n m count : ℕ) (xs : List ℕ) → m ≤ count → take m (first_chunks n count xs) ≡ first_chunks n m xs
take_chunks n zero count xs within = refl
take_chunks n (suc m) zero xs within = absurd (omega arith)
take_chunks n (suc m) (suc count) xs within = ap (λ ps. take n xs ∷ ps) (take_chunks n m count (drop n xs) (omega arith))

drop_chunks : (n done count : ℕ) (xs : List ℕ) → done ≤ count → drop done (first_chunks n count xs) ≡ first_chunks n (count - done) (drop (done * n) xs)
drop_chunks n zero count xs within =
    let none : 0 * n ≡ 0 = omega arith in
    let all : count - 0 ≡ count = omega arith in
    λ i. first_chunks n (sym all i) (drop (sym none i) xs)
drop_chunks n (suc done) zero xs within = absurd (omega arith)
drop_chunks n (suc done) (suc count) xs within =
    let next : n + done * n ≡ suc done * n = grind arith in
    let rest : count - done ≡ suc count - suc done = omega arith in
    drop_chunks n done count (drop n xs) (omega arith)
    ∙ (λ i. first_chunks n (rest i) ((drop-drop (done * n) n xs ∙ ap (λ m. drop m xs) next) i))

-- they are cut out of what stands behind the others
pub next_pieces : (n count done most m : ℕ) (xs : List ℕ) → done < count → m ≡ min most (count - done)
    → first_chunks n m (drop (done * n) xs) ≡ take most (drop done (first_chunks n count xs))
next_pieces n count done most m xs below is =
    let all : drop done (first_chunks n count xs) ≡ first_chunks n (count - done) (drop (done * n) xs) = drop_chunks n done count xs (omega arith) in
    let many : length (first_chunks n (count - done) (drop (done * n) xs)) ≡ count - done = length-chunks n (count - done) (drop (done * n) xs) in
    let whole : m ≡ min most (length (first_chunks n (count - done) (drop (done * n) xs))) = is ∙ ap (min most) (sym many) in
    sym (take_chunks n m (count - done) (drop (done * n) xs) (omega arith))
    ∙ ap (λ k. take k (first_chunks n (count - done) (drop (done * n) xs))) whole
    ∙ take_min most (first_chunks n (count - done) (drop (done * n) xs))
    ∙ ap (take most) (sym all)

-- and fit into it
pub next_fit : (n count done most m len rest : ℕ) → done < count → m ≡ min most (count - done) → count * n ≤ len + n → rest ≡ len - done * n → m * n ≤ rest + n
next_fit n count done most m len rest below is fit is_rest =
    let start : done * n ≤ len = start_within n count done len below fit in
    let more : (m + done) * n ≤ count * n = mul-le-mul_right n (omega arith) in
    let sum : (m + done) * n ≡ m * n + done * n = grind arith in
    omega arith

-- none stand behind all
pub none_next : (n count done most : ℕ) (xs : List ℕ) → count ≤ done → [] ≡ take most (drop done (first_chunks n count xs))
none_next n count done most xs above =
    let many : length (first_chunks n count xs) ≡ count = length-chunks n count xs in
    sym (ap (take most) (drop_all done (first_chunks n count xs) (omega arith)) ∙ take-nil most)

-- their hashes stand behind those of the others, where there was memory for them
pub with_next : (hash : List ℕ → List ℕ) (pieces : List (List ℕ)) (next : List (Bor (List ℕ))) (old hashes new : List (List ℕ)) (most : ℕ) (ok : Bool)
    → AreFirstHashes old (map hash pieces) → contents_of next ≡ take most (drop (length old) pieces) → hashes ≡ map (λ (piece : Bor (List ℕ)). hash piece.now) next
    → new ≡ (if ok then old ++ hashes else old) → AreFirstHashes new (map hash pieces)
with_next hash pieces next old hashes new most true first are made is =
    more_first old (map hash pieces) hashes new most first (made ∙ hashed_pieces hash next (take most (drop (length old) pieces)) are ∙ made_next hash pieces (length old) most) is
with_next hash pieces next old hashes new most false first are made is = subst (λ (hs : List (List ℕ)). AreFirstHashes hs (map hash pieces)) (sym is) first
