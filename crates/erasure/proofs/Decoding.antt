-- The steps of encoding and decoding: lists that grow by one, and what the results are.
use Rattle.std.proofs.Common.{◌≡◌, ℕ, zero, suc, ◌+◌, ◌<◌, ◌≤◌, List, [], ◌∷◌, ◌++◌, length, get_or, take, slice_index, slice_index_or, All, Bor, Result, Ok, Err, IfOk, refl, sym, ap, ◌∙◌, subst, arith}
use Rattle.std.specs.List.{concat}
use Rattle.std.proofs.lemmas.List.{take_more, map-append, length-map, append-nil}
use Rattle.std.proofs.lemmas.List.Folds.{concat-append}
use Rattle.std.proofs.lemmas.List.FromFn.{map-range_with_len_more}
use Rattle.erasure.specs.Code.{place_of, AreBytes, IsBlock}
use Rattle.erasure.specs.Blocks.{size_of, block_through, first_places, block_of, primary_from}
use Rattle.erasure.specs.Given.{contents_of, numbered_of, numbers_of, blocks_of, AreNumbers, HaveOneLength}
use Rattle.erasure.proofs.Coding.{places_of, length-places_of, place_of_number, places_bytes, places_distinct, through_block, first_blocks, through_is_block, is_block_only, length-primary_from, primary_from-are, first_place_at, first_places_bytes, first_places_apart, length-first_places}

pub if_ok : {T E : Type 0} (r : Result T E) (P Q : T → Type 0) → ((v : T) → P v → Q v) → IfOk r P → IfOk r Q
if_ok (Ok v) P Q f h = f v h
if_ok (Err e) P Q f h = h

-- ---- one more of each list
pub places_more : (given : List (ℕ × Bor (List ℕ))) (i : ℕ) (d : ℕ × Bor (List ℕ)) (places : List ℕ) (p : ℕ) → i < length given
    → places ≡ places_of (numbered_of (take i given)) → p ≡ place_of (get_or given i d).0
    → places ++ p ∷ [] ≡ places_of (numbered_of (take (i + 1) given))
places_more given i d places p lt h e =
    let g : ℕ × Bor (List ℕ) = get_or given i d in
    ap (λ (xs : List ℕ). xs ++ p ∷ []) h
    ∙ ap (λ (q : ℕ). places_of (numbered_of (take i given)) ++ q ∷ []) e
    ∙ sym
    (ap (λ (xs : List (ℕ × Bor (List ℕ))). places_of (numbered_of xs)) (take_more given i d lt)
    ∙ ap places_of (map-append (λ (b : ℕ × Bor (List ℕ)). (b.0, b.1.now)) (take i given) (g ∷ []))
    ∙ map-append (λ (b : ℕ × List ℕ). place_of b.0) (numbered_of (take i given)) ((g.0, g.1.now) ∷ []))

pub blocks_more : (given : List (ℕ × Bor (List ℕ))) (i : ℕ) (d : ℕ × Bor (List ℕ)) (blocks : List (Bor (List ℕ))) (b : Bor (List ℕ)) → i < length given
    → contents_of blocks ≡ blocks_of (numbered_of (take i given)) → b ≡ (get_or given i d).1
    → contents_of (blocks ++ b ∷ []) ≡ blocks_of (numbered_of (take (i + 1) given))
blocks_more given i d blocks b lt h e =
    let g : ℕ × Bor (List ℕ) = get_or given i d in
    map-append (λ (c : Bor (List ℕ)). c.now) blocks (b ∷ [])
    ∙ ap (λ (xs : List (List ℕ)). xs ++ b.now ∷ []) h
    ∙ ap (λ (c : Bor (List ℕ)). blocks_of (numbered_of (take i given)) ++ c.now ∷ []) e
    ∙ sym
    (ap (λ (xs : List (ℕ × Bor (List ℕ))). blocks_of (numbered_of xs)) (take_more given i d lt)
    ∙ ap blocks_of (map-append (λ (b : ℕ × Bor (List ℕ)). (b.0, b.1.now)) (take i given) (g ∷ []))
    ∙ map-append (λ (b : ℕ × List ℕ). b.1) (numbered_of (take i given)) ((g.0, g.1.now) ∷ []))

pub first_blocks_more : (places : List ℕ) (blocks : List (List ℕ)) (j : ℕ) (made : List (List ℕ)) (b : List ℕ)
    → made ≡ first_blocks places blocks j → b ≡ block_through places blocks (place_of j) → made ++ b ∷ [] ≡ first_blocks places blocks (j + 1)
first_blocks_more places blocks j made b h e =
    ap (λ (xs : List (List ℕ)). xs ++ b ∷ []) h
    ∙ ap (λ (c : List ℕ). first_blocks places blocks j ++ c ∷ []) e
    ∙ sym (map-range_with_len_more (λ j. block_through places blocks (place_of j)) 0 j j (omega arith))

pub joined_more : (places : List ℕ) (blocks : List (List ℕ)) (j : ℕ)
    → concat (first_blocks places blocks j) ++ block_through places blocks (place_of j) ≡ concat (first_blocks places blocks (j + 1))
joined_more places blocks j =
    let block : List ℕ = block_through places blocks (place_of j) in
    sym
    (ap concat (map-range_with_len_more (λ j. block_through places blocks (place_of j)) 0 j j (omega arith))
    ∙ concat-append (first_blocks places blocks j) (block ∷ [])
    ∙ ap (λ (ys : List ℕ). concat (first_blocks places blocks j) ++ ys) (append-nil block))

-- ---- a block that is at hand
pub block_at_hand : (given : List (ℕ × List ℕ)) (at number : ℕ) → AreNumbers (numbers_of given) → HaveOneLength (blocks_of given)
    → at < length given → slice_index (numbers_of given) at ≡ number → length (blocks_of given) ≡ length given
    → AreBytes (slice_index_or (blocks_of given) at [])
    → slice_index_or (blocks_of given) at [] ≡ block_through (places_of given) (blocks_of given) (place_of number)
block_at_hand given at number numbers same lt e long bytes =
    sym
    (ap (block_through (places_of given) (blocks_of given)) (ap place_of (sym e) ∙ sym (place_of_number given at 0 lt))
    ∙ through_block (places_of given) (blocks_of given) at (places_bytes given) (places_distinct given numbers)
    (length-places_of given ∙ sym long) (omega arith) (same at [] (omega arith)) bytes)

pub primary_at_hand : (primary : List (List ℕ)) (i : ℕ) → length primary ≤ 256 → HaveOneLength primary → i < length primary
    → AreBytes (slice_index_or primary i []) → slice_index_or primary i [] ≡ block_of primary i
primary_at_hand primary i few same lt bytes =
    let k : ℕ = length primary in
    sym
    (ap (block_through (first_places k) primary) (sym (first_place_at k i 0 lt))
    ∙ through_block (first_places k) primary i (first_places_bytes k) (first_places_apart k few) (length-first_places k) lt (same i [] lt) bytes)

-- ---- the blocks that were given are blocks of the result
length-second : (given : List (ℕ × List ℕ)) → length (blocks_of given) ≡ length given
length-second given = length-map given (λ g. g.1)

number_of : (given : List (ℕ × List ℕ)) (a : ℕ) (d : ℕ × List ℕ) → a < length given → slice_index (numbers_of given) a ≡ (get_or given a d).0
number_of [] a d lt = absurd (omega arith)
number_of (g ∷ gs) zero d lt = refl
number_of (g ∷ gs) (suc a) d lt = number_of gs a d (omega arith)

bytes_of : (given : List (ℕ × List ℕ)) (a : ℕ) (d : ℕ × List ℕ) → a < length given → slice_index_or (blocks_of given) a [] ≡ (get_or given a d).1
bytes_of [] a d lt = absurd (omega arith)
bytes_of (g ∷ gs) zero d lt = refl
bytes_of (g ∷ gs) (suc a) d lt = bytes_of gs a d (omega arith)

pub given_are_blocks : (given : List (ℕ × List ℕ)) → AreNumbers (numbers_of given) → HaveOneLength (blocks_of given) → All AreBytes (blocks_of given)
    → All (λ g. IsBlock (primary_from (length given) given) (size_of (blocks_of given)) g.0 g.1) given
given_are_blocks given numbers same bytes a d lt =
    let long = length-second given in
    let at : slice_index_or (blocks_of given) a [] ≡ block_through (places_of given) (blocks_of given) (place_of (get_or given a d).0) =
    block_at_hand given a (get_or given a d).0 numbers same lt (number_of given a d lt) long (bytes a [] (omega arith)) in
    let is = through_is_block (places_of given) (blocks_of given) (get_or given a d).0 in
    subst (λ (b : List ℕ). IsBlock (primary_from (length given) given) (size_of (blocks_of given)) (get_or given a d).0 b)
    (sym at ∙ bytes_of given a d lt)
    (subst (λ (k : ℕ). IsBlock (primary_from k given) (size_of (blocks_of given)) (get_or given a d).0 (block_through (places_of given) (blocks_of given) (place_of (get_or given a d).0)))
    (length-places_of given) is)

-- ---- what decoding the first k blocks gives, from decoding as many
pub length-numbered_of : (given : List (ℕ × Bor (List ℕ))) → length (numbered_of given) ≡ length given
length-numbered_of given = length-map given (λ (b : ℕ × Bor (List ℕ)). (b.0, b.1.now))

pub decoded_blocks : (given : List (ℕ × Bor (List ℕ))) (primary : List (List ℕ)) → All AreBytes (blocks_of (numbered_of given))
    → primary ≡ primary_from (length given) (numbered_of given)
    → AreNumbers (numbers_of (numbered_of given)) × HaveOneLength (blocks_of (numbered_of given))
    → All (λ g. IsBlock primary (size_of (blocks_of (numbered_of given))) g.0 g.1) (numbered_of given)
decoded_blocks given primary bytes e h a d lt =
    let is = given_are_blocks (numbered_of given) h.0 h.1 bytes a d lt in
    let same : primary_from (length (numbered_of given)) (numbered_of given) ≡ primary =
    ap (λ (k : ℕ). primary_from k (numbered_of given)) (length-numbered_of given) ∙ sym e in
    subst (λ (p : List (List ℕ)). IsBlock p (size_of (blocks_of (numbered_of given))) (get_or (numbered_of given) a d).0 (get_or (numbered_of given) a d).1) same is

pub given_are_coded : (k : ℕ) (given : List (ℕ × List ℕ)) → 0 < k → k ≤ 256 → length given ≡ k → AreNumbers (numbers_of given) → HaveOneLength (blocks_of given)
    → All AreBytes (blocks_of given) → All (λ g. g.1 ≡ block_of (primary_from k given) g.0) given
given_are_coded k given some few many numbers same bytes a d lt =
    let primary : List (List ℕ) = primary_from k given in
    let long : length primary ≡ k = length-primary_from k given in
    let is = subst (λ (n : ℕ). IsBlock (primary_from n given) (size_of (blocks_of given)) (get_or given a d).0 (get_or given a d).1) many (given_are_blocks given numbers same bytes a d lt) in
    is_block_only (size_of (blocks_of given)) primary (get_or given a d).0 (get_or given a d).1 (omega arith) (omega arith) (primary_from-are k given) is
