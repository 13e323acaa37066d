-- The code: blocks through their places, and that any k of them give the primary ones.
use Rattle.std.proofs.Common.{◌≡◌, ℕ, zero, suc, ◌<◌, ◌≤◌, List, [], ◌∷◌, length, get_or, slice_index, slice_index_or, map, All, refl, sym, ap, ◌∙◌, subst, arith}
use Rattle.std.specs.List.{range_with_len}
use Rattle.std.proofs.lemmas.List.{get_or_default, same_lists}
use Rattle.std.proofs.lemmas.List.FromFn.{fill_by_all, length-map-range_with_len, get_or-map-range_with_len}
use Rattle.erasure.specs.Polynomial.{value_at}
use Rattle.erasure.specs.Code.{place_of, AreBytes, column, PassesThrough, AreBlocks, AreCoded, IsBlock}
use Rattle.erasure.specs.Blocks.{value_through, size_of, block_through, first_places, block_of, primary_from}
use Rattle.erasure.specs.Given.{numbers_of, blocks_of, AreDistinct, AreNumbers}
use Rattle.erasure.proofs.Lagrange.{through_place, coefficients_of, value-coefficients_of, bytes-coefficients_of, length-coefficients_of, through_is}
use Rattle.erasure.proofs.Polynomials.{value_lt, same_coefficients}
use Rattle.erasure.proofs.Places.{place_lt, places_apart}
use Rattle.erasure.proofs.Combining.{length-column, column_at, length-block_through, block_through_at}

-- ---- the places of the first k blocks
pub length-first_places : (k : ℕ) → length (first_places k) ≡ k
length-first_places k = length-map-range_with_len place_of 0 k

pub first_place_at : (k j d : ℕ) → j < k → get_or (first_places k) j d ≡ place_of j
first_place_at k j d lt = get_or-map-range_with_len place_of 0 k j j d lt (omega arith)

pub first_places_bytes : (k : ℕ) → AreBytes (first_places k)
first_places_bytes k i d lt = rw (first_place_at k i d (omega (arith, length-first_places k))) (place_lt i)

pub first_places_apart : (k : ℕ) → k ≤ 256 → AreDistinct (first_places k)
first_places_apart k le i j d lt less e =
    let j_in : j < k = omega (arith, length-first_places k) in
    let same = places_apart i j (omega arith) (omega arith)
    (sym (first_place_at k i d (omega arith)) ∙ e ∙ first_place_at k j d j_in) in
    omega arith

-- ---- the places of numbered blocks
abbrev pub places_of : List (ℕ × List ℕ) → List ℕ
places_of given = map (λ g. place_of g.0) given

pub length-places_of : (given : List (ℕ × List ℕ)) → length (places_of given) ≡ length given
length-places_of [] = refl
length-places_of (g ∷ gs) = ap suc (length-places_of gs)

length-numbers : (given : List (ℕ × List ℕ)) → length (numbers_of given) ≡ length given
length-numbers [] = refl
length-numbers (g ∷ gs) = ap suc (length-numbers gs)

length-blocks : (given : List (ℕ × List ℕ)) → length (blocks_of given) ≡ length given
length-blocks [] = refl
length-blocks (g ∷ gs) = ap suc (length-blocks gs)

pub place_of_number : (given : List (ℕ × List ℕ)) (a d : ℕ) → a < length given
    → get_or (places_of given) a d ≡ place_of (slice_index (numbers_of given) a)
place_of_number [] a d lt = absurd (omega arith)
place_of_number (g ∷ gs) zero d lt = refl
place_of_number (g ∷ gs) (suc a) d lt = place_of_number gs a d (omega arith)

pub places_bytes : (given : List (ℕ × List ℕ)) → AreBytes (places_of given)
places_bytes given a d lt =
    rw (place_of_number given a d (omega (arith, length-places_of given))) (place_lt (slice_index (numbers_of given) a))

pub places_distinct : (given : List (ℕ × List ℕ)) → AreNumbers (numbers_of given) → AreDistinct (places_of given)
places_distinct given h i j d lt less e =
    let j_in : j < length given = omega (arith, length-places_of given) in
    let i_in : i < length given = omega arith in
    let long = length-numbers given in
    let same = places_apart (slice_index (numbers_of given) i) (slice_index (numbers_of given) j)
    (h.small i 0 (omega arith)) (h.small j 0 (omega arith))
    (sym (place_of_number given i d i_in) ∙ e ∙ place_of_number given j d j_in) in
    h.distinct i j 0 lt (omega arith) same

-- ---- at the place of one of the blocks stands this block
pub through_block : (places : List ℕ) (blocks : List (List ℕ)) (a : ℕ) → AreBytes places → AreDistinct places
    → length places ≡ length blocks → a < length blocks → length (slice_index_or blocks a []) ≡ size_of blocks
    → AreBytes (slice_index_or blocks a []) → block_through places blocks (slice_index places a) ≡ slice_index_or blocks a []
through_block places blocks a bytes apart long lt size small =
    same_lists (block_through places blocks (slice_index places a)) (slice_index_or blocks a [])
    (length-block_through places blocks (slice_index places a) ∙ sym size)
    (λ p d less.
    let at : p < size_of blocks = omega (arith, length-block_through places blocks (slice_index places a)) in
    let there : slice_index (column blocks p) a ≡ slice_index (slice_index_or blocks a []) p = column_at blocks p a lt in
    let byte : slice_index (slice_index_or blocks a []) p < 256 = small p 0 (omega arith) in
    get_or_default (block_through places blocks (slice_index places a)) p d 0 less
    ∙ block_through_at places blocks (slice_index places a) p at
    ∙ through_place places (column blocks p) bytes apart a (omega arith) (omega arith)
    ∙ there
    ∙ get_or_default (slice_index_or blocks a []) p 0 d (omega arith))

-- ---- the blocks through these are a code
-- the first k blocks of the polynomials through these blocks
abbrev pub first_blocks : List ℕ → List (List ℕ) → ℕ → List (List ℕ)
first_blocks places blocks k = map (λ j. block_through places blocks (place_of j)) (range_with_len 0 k)

first_block_at : (places : List ℕ) (blocks : List (List ℕ)) (k j : ℕ) (d : List ℕ) → j < k
    → get_or (first_blocks places blocks k) j d ≡ block_through places blocks (place_of j)
first_block_at places blocks k j d lt =
    get_or-map-range_with_len (λ j. block_through places blocks (place_of j)) 0 k j j d lt (omega arith)

pub through_passes : (places : List ℕ) (blocks : List (List ℕ)) (at : ℕ) → at < size_of blocks
    → PassesThrough (coefficients_of places (column blocks at)) (column (first_blocks places blocks (length places)) at)
through_passes places blocks at lt =
    let long : length (column (first_blocks places blocks (length places)) at) ≡ length places =
    length-column (first_blocks places blocks (length places)) at
    ∙ length-map-range_with_len (λ j. block_through places blocks (place_of j)) 0 (length places) in
    record {
      as_many = length-coefficients_of places (column blocks at) ∙ sym long;
      elements = bytes-coefficients_of places (column blocks at);
      at_place = λ j less.
          let inside : j < length places = omega arith in
          value-coefficients_of places (column blocks at) (place_of j)
          ∙ sym (block_through_at places blocks (place_of j) at lt)
          ∙ ap (λ (b : List ℕ). slice_index b at) (sym (first_block_at places blocks (length places) j [] inside))
          ∙ sym (column_at (first_blocks places blocks (length places)) at j
          (omega (arith, length-map-range_with_len (λ j. block_through places blocks (place_of j)) 0 (length places))));
    }

pub through_is_block : (places : List ℕ) (blocks : List (List ℕ)) (i : ℕ)
    → IsBlock (first_blocks places blocks (length places)) (size_of blocks) i (block_through places blocks (place_of i))
through_is_block places blocks i = record {
  as_long = length-block_through places blocks (place_of i);
  byte_at = λ at lt. (
    coefficients_of places (column blocks at),
    through_passes places blocks at lt,
    value-coefficients_of places (column blocks at) (place_of i) ∙ sym (block_through_at places blocks (place_of i) at lt),
  );
}

-- ---- primary blocks
pub size_is : (size : ℕ) (primary : List (List ℕ)) → 0 < length primary → AreBlocks size primary → size_of primary ≡ size
size_is size primary some h = (h 0 [] some).0

pub block_of_primary : (size : ℕ) (primary : List (List ℕ)) (j : ℕ) → length primary ≤ 256 → AreBlocks size primary → j < length primary
    → block_of primary j ≡ slice_index_or primary j []
block_of_primary size primary j few h lt =
    let k : ℕ = length primary in
    let at : slice_index (first_places k) j ≡ place_of j = first_place_at k j 0 lt in
    let same : length (slice_index_or primary j []) ≡ size_of primary = (h j [] lt).0 ∙ sym (size_is size primary (omega arith) h) in
    ap (block_through (first_places k) primary) (sym at)
    ∙ through_block (first_places k) primary j (first_places_bytes k) (first_places_apart k few) (length-first_places k) lt same (h j [] lt).1

first_blocks_primary : (size : ℕ) (primary : List (List ℕ)) → length primary ≤ 256 → AreBlocks size primary
    → first_blocks (first_places (length primary)) primary (length primary) ≡ primary
first_blocks_primary size primary few h =
    sym (fill_by_all (λ j. block_of primary j) primary (length primary) [] refl (λ j lt. sym (block_of_primary size primary j few h lt)))

pub block_of_is_block : (size : ℕ) (primary : List (List ℕ)) (i : ℕ) → 0 < length primary → length primary ≤ 256 → AreBlocks size primary
    → IsBlock primary size i (block_of primary i)
block_of_is_block size primary i some few h =
    let k : ℕ = length primary in
    let is = through_is_block (first_places k) primary i in
    let same : first_blocks (first_places k) primary (length (first_places k)) ≡ primary =
    ap (first_blocks (first_places k) primary) (length-first_places k) ∙ first_blocks_primary size primary few h in
    subst (λ (s : ℕ). IsBlock primary s i (block_of primary i)) (size_is size primary some h)
    (subst (λ (p : List (List ℕ)). IsBlock p (size_of primary) i (block_of primary i)) same is)

-- a polynomial through the primary bytes has the formula's value everywhere
pub passes_is : (cs primary : List ℕ) (x : ℕ) → length primary ≤ 256 → AreBytes primary → PassesThrough cs primary
    → value_through (first_places (length primary)) primary x ≡ value_at cs x
passes_is cs primary x few bytes p =
    let k : ℕ = length primary in
    through_is (first_places k) primary cs (first_places_bytes k) (first_places_apart k few) p.elements
    (omega (arith, p.as_many, length-first_places k))
    (λ i lt.
    let inside : i < k = omega (arith, length-first_places k) in
    (bytes i 0 inside, ap (value_at cs) (first_place_at k i 0 inside) ∙ p.at_place i inside))
    x

column_bytes : (size : ℕ) (primary : List (List ℕ)) (at : ℕ) → AreBlocks size primary → at < size → AreBytes (column primary at)
column_bytes size primary at h lt j d less =
    let inside : j < length primary = omega (arith, length-column primary at) in
    let there : get_or (column primary at) j d ≡ slice_index (slice_index_or primary j []) at =
    get_or_default (column primary at) j d 0 less ∙ column_at primary at j inside in
    let byte : slice_index (slice_index_or primary j []) at < 256 = (h j [] inside).1 at 0 (omega (arith, (h j [] inside).0)) in
    omega arith

-- the blocks of the code are no others
pub is_block_only : (size : ℕ) (primary : List (List ℕ)) (i : ℕ) (block : List ℕ) → 0 < length primary → length primary ≤ 256
    → AreBlocks size primary → IsBlock primary size i block → block ≡ block_of primary i
is_block_only size primary i block some few h b =
    let k : ℕ = length primary in
    let total = size_is size primary some h in
    same_lists block (block_of primary i) (b.as_long ∙ sym (length-block_through (first_places k) primary (place_of i) ∙ total))
    (λ p d less.
    let at : p < size = omega (arith, b.as_long) in
    let found = b.byte_at p at in
    let long : length (column primary p) ≡ k = length-column primary p in
    get_or_default block p d 0 less
    ∙ sym found.2
    ∙ sym (passes_is found.0 (column primary p) (place_of i) (omega arith) (column_bytes size primary p h at) found.1)
    ∙ ap (λ (m : ℕ). value_through (first_places m) (column primary p) (place_of i)) long
    ∙ sym (block_through_at (first_places k) primary (place_of i) p (omega arith))
    ∙ get_or_default (block_of primary i) p 0 d (omega (arith, length-block_through (first_places k) primary (place_of i))))

-- ---- any k blocks give the primary ones
-- these are blocks of the code of the primary ones
abbrev pub AreTrue : List (List ℕ) → List (ℕ × List ℕ) → Type 0
AreTrue primary given = All (λ g. g.1 ≡ block_of primary g.0) given

true_at : (primary : List (List ℕ)) (given : List (ℕ × List ℕ)) (a : ℕ) → AreTrue primary given → a < length given
    → slice_index_or (blocks_of given) a [] ≡ block_of primary (slice_index (numbers_of given) a)
true_at primary [] a h lt = absurd (omega arith)
true_at primary (g ∷ gs) zero h lt = h 0 g (omega arith)
true_at primary (g ∷ gs) (suc a) h lt = true_at primary gs a (λ k d less. h (suc k) d (omega arith)) (omega arith)

restored_at : (size : ℕ) (primary : List (List ℕ)) (given : List (ℕ × List ℕ)) (j p : ℕ) → 0 < length primary → length primary ≤ 256
    → AreBlocks size primary → length primary ≤ length given → AreNumbers (numbers_of given) → AreTrue primary given
    → j < length primary → p < size
    → value_through (places_of given) (column (blocks_of given) p) (place_of j) ≡ slice_index (slice_index_or primary j []) p
restored_at size primary given j p some few h many numbers truth lt at =
    let k : ℕ = length primary in
    let total = size_is size primary some h in
    let cs : List ℕ = coefficients_of (first_places k) (column primary p) in
    let value : (x : ℕ) → value_at cs x ≡ value_through (first_places k) (column primary p) x =
    λ x. value-coefficients_of (first_places k) (column primary p) x in
    through_is (places_of given) (column (blocks_of given) p) cs (places_bytes given) (places_distinct given numbers)
    (bytes-coefficients_of (first_places k) (column primary p))
    (omega (arith, length-coefficients_of (first_places k) (column primary p), length-first_places k, length-places_of given))
    (λ a less.
    let inside : a < length given = omega (arith, length-places_of given) in
    let number : ℕ = slice_index (numbers_of given) a in
    let byte : slice_index (column (blocks_of given) p) a ≡ value_at cs (place_of number) =
    column_at (blocks_of given) p a (omega (arith, length-blocks given))
    ∙ ap (λ (b : List ℕ). slice_index b p) (true_at primary given a truth inside)
    ∙ block_through_at (first_places k) primary (place_of number) p (omega arith)
    ∙ sym (value (place_of number)) in
    let small = value_lt cs (place_of number) (bytes-coefficients_of (first_places k) (column primary p)) in
    (omega arith, ap (value_at cs) (place_of_number given a 0 inside) ∙ sym byte))
    (place_of j)
    ∙ value (place_of j)
    ∙ sym (block_through_at (first_places k) primary (place_of j) p (omega arith))
    ∙ ap (λ (b : List ℕ). slice_index b p) (block_of_primary size primary j few h lt)

size_of_true : (size : ℕ) (primary : List (List ℕ)) (given : List (ℕ × List ℕ)) → 0 < length primary → AreBlocks size primary
    → 0 < length given → AreTrue primary given → size_of (blocks_of given) ≡ size
size_of_true size primary given some h more truth =
    ap length (true_at primary given 0 truth more)
    ∙ length-block_through (first_places (length primary)) primary (place_of (slice_index (numbers_of given) 0))
    ∙ size_is size primary some h

pub restored : (size : ℕ) (primary : List (List ℕ)) (given : List (ℕ × List ℕ)) → 0 < length primary → length primary ≤ 256
    → AreBlocks size primary → length primary ≤ length given → AreNumbers (numbers_of given) → AreTrue primary given
    → primary_from (length primary) given ≡ primary
restored size primary given some few h many numbers truth =
    let total = size_of_true size primary given some h (omega arith) truth in
    sym (fill_by_all (λ j. block_through (places_of given) (blocks_of given) (place_of j)) primary (length primary) [] refl
    (λ j lt.
    same_lists (slice_index_or primary j []) (block_through (places_of given) (blocks_of given) (place_of j))
    ((h j [] lt).0 ∙ sym (length-block_through (places_of given) (blocks_of given) (place_of j) ∙ total))
    (λ p d less.
    let at : p < size = omega (arith, (h j [] lt).0) in
    get_or_default (slice_index_or primary j []) p d 0 less
    ∙ sym (restored_at size primary given j p some few h many numbers truth lt at)
    ∙ sym (block_through_at (places_of given) (blocks_of given) (place_of j) p (omega arith))
    ∙ get_or_default (block_through (places_of given) (blocks_of given) (place_of j)) p 0 d
    (omega (arith, length-block_through (places_of given) (blocks_of given) (place_of j))))))

-- ---- what the laws say
pub coefficients_only : (primary cs ds : List ℕ) → length primary ≤ 256 → PassesThrough cs primary → PassesThrough ds primary → cs ≡ ds
coefficients_only primary cs ds few p q =
    let k : ℕ = length primary in
    let long = length-first_places k in
    same_coefficients (first_places k) cs ds (p.as_many ∙ sym long) (q.as_many ∙ sym long) (first_places_bytes k) p.elements q.elements
    (first_places_apart k few)
    (λ j d lt.
    let inside : j < k = omega arith in
    ap (value_at cs) (first_place_at k j d inside) ∙ p.at_place j inside ∙ sym (q.at_place j inside) ∙ sym (ap (value_at ds) (first_place_at k j d inside)))

coded_at : (primary : List (List ℕ)) (n i : ℕ) (d : List ℕ) → i < n → get_or (map (λ i. block_of primary i) (range_with_len 0 n)) i d ≡ block_of primary i
coded_at primary n i d lt = get_or-map-range_with_len (λ i. block_of primary i) 0 n i i d lt (omega arith)

pub are_coded : (size n : ℕ) (primary : List (List ℕ)) → 0 < length primary → length primary ≤ 256 → AreBlocks size primary
    → AreCoded primary (map (λ i. block_of primary i) (range_with_len 0 n)) size
are_coded size n primary some few h =
    let k : ℕ = length primary in
    let total = size_is size primary some h in
    let blocks : List (List ℕ) = map (λ i. block_of primary i) (range_with_len 0 n) in
    let long : length blocks ≡ n = length-map-range_with_len (λ i. block_of primary i) 0 n in
    record {
      sizes = λ i d lt.
          ap length (coded_at primary n i d (omega arith))
          ∙ length-block_through (first_places k) primary (place_of i)
          ∙ total;
      columns = λ at lt.
          let same : first_blocks (first_places k) primary (length (first_places k)) ≡ primary =
          ap (first_blocks (first_places k) primary) (length-first_places k) ∙ first_blocks_primary size primary few h in
          record {
            coefficients = coefficients_of (first_places k) (column primary at);
            passes = subst (λ (p : List (List ℕ)). PassesThrough (coefficients_of (first_places k) (column primary at)) (column p at)) same
                (through_passes (first_places k) primary at (omega arith));
            byte_at = λ i less.
                let inside : i < n = omega (arith, length-column blocks at) in
                value-coefficients_of (first_places k) (column primary at) (place_of i)
                ∙ sym (block_through_at (first_places k) primary (place_of i) at (omega arith))
                ∙ ap (λ (b : List ℕ). slice_index b at) (sym (coded_at primary n i [] inside))
                ∙ sym (column_at blocks at i (omega arith));
          };
    }

pub determined : (size : ℕ) (primary other : List (List ℕ)) (given : List (ℕ × List ℕ)) → 0 < length primary → length primary ≤ 256
    → length other ≡ length primary → AreBlocks size primary → AreBlocks size other → length primary ≤ length given → AreNumbers (numbers_of given)
    → All (λ g. IsBlock primary size g.0 g.1) given → All (λ g. IsBlock other size g.0 g.1) given → primary ≡ other
determined size primary other given some few e h g many numbers p q =
    let first = restored size primary given some few h many numbers
    (λ k d lt. is_block_only size primary (get_or given k d).0 (get_or given k d).1 some few h (p k d lt)) in
    let second = restored size other given (omega arith) (omega arith) g (omega arith) numbers
    (λ k d lt. is_block_only size other (get_or given k d).0 (get_or given k d).1 (omega arith) (omega arith) g (q k d lt)) in
    sym first ∙ ap (λ (k : ℕ). primary_from k given) (sym e) ∙ second

-- ---- what blocks decode to
through_bytes : (places : List ℕ) (blocks : List (List ℕ)) (x : ℕ) → AreBytes (block_through places blocks x)
through_bytes places blocks x p d less =
    let inside : p < size_of blocks = omega (arith, length-block_through places blocks x) in
    let cs : List ℕ = coefficients_of places (column blocks p) in
    let at : get_or (block_through places blocks x) p d ≡ value_at cs x =
    get_or_default (block_through places blocks x) p d 0 less ∙ block_through_at places blocks x p inside ∙ sym (value-coefficients_of places (column blocks p) x) in
    let small = value_lt cs x (bytes-coefficients_of places (column blocks p)) in
    omega arith

pub length-primary_from : (k : ℕ) (given : List (ℕ × List ℕ)) → length (primary_from k given) ≡ k
length-primary_from k given = length-map-range_with_len (λ j. block_through (places_of given) (blocks_of given) (place_of j)) 0 k

pub primary_from-are : (k : ℕ) (given : List (ℕ × List ℕ)) → AreBlocks (size_of (blocks_of given)) (primary_from k given)
primary_from-are k given j d lt =
    let places : List ℕ = places_of given in
    let blocks : List (List ℕ) = blocks_of given in
    let inside : j < k = omega (arith, length-primary_from k given) in
    subst (λ (b : List ℕ). (length b ≡ size_of blocks) × AreBytes b) (sym (first_block_at places blocks k j d inside))
    (length-block_through places blocks (place_of j), through_bytes places blocks (place_of j))
