-- The hashes of blocks, by segments and by shares.
use Rattle.std.proofs.Common.{◌≡◌, ℕ, zero, suc, ◌+◌, ◌<◌, ◌≤◌, List, [], ◌∷◌, ◌++◌, length, map, take, get_or, refl, sym, ap, ◌∙◌, arith, Vec, Global}
use Rattle.std.specs.Prelude.{All}
use Rattle.std.specs.List.{range_with_len}
use Rattle.std.proofs.lemmas.List.{length-map, map-append, take_more}
use Rattle.std.proofs.lemmas.List.FromFn.{length-map-range_with_len, get_or-map-range_with_len}
use Rattle.std.proofs.lemmas.Simd.{map-map}
use Rattle.erasure.specs.Blocks.{block_of}
use Rattle.merkle.specs.Tree.{root}
use Rattle.share_codec.specs.Params.{ParamsValue}
use Rattle.share_codec.specs.declared.ueb.Ueb.{Ueb}
use Rattle.share_codec.specs.Segments.{segments, primary_blocks}
use Rattle.share_codec.specs.Tags.{block_hash, extension_hash}
use Rattle.share_codec.specs.Ueb.{ueb_text}
use Rattle.share_codec.specs.Shares.{blocks, block_root, share_leaves, roots_of, ueb_of, ueb_hash}
use Rattle.cap_binding.specs.BlockHashes.{block_row, hashes_of_share}

module _ (p : ParamsValue) where
  abbrev hash_at : ℕ → List ℕ → List ℕ
  hash_at i segment = block_hash (block_of (primary_blocks p.k segment) i)

  pub length-block_row : (segment : List ℕ) → length (block_row p segment) ≡ p.n
  unfolding block_row
  length-block_row segment = length-map-range_with_len (λ i. hash_at i segment) 0 p.n

  at-block_row : (segment : List ℕ) (i : ℕ) → i < p.n → get_or (block_row p segment) i [] ≡ hash_at i segment
  unfolding block_row
  at-block_row segment i below = get_or-map-range_with_len (λ i. hash_at i segment) 0 p.n i i [] below (omega arith)

  -- the hashes of a share in the rows of some segments
  column_is : (i : ℕ) → i < p.n → (some : List (List ℕ)) → map (λ row. get_or row i []) (map (block_row p) some) ≡ map block_hash (map (λ segment. block_of (primary_blocks p.k segment) i) some)
  column_is i below [] = refl
  column_is i below (segment ∷ more) =
      let first = at-block_row segment i below in
      let rest = column_is i below more in
      λ j. first j ∷ rest j

  pub root_is : (crypttext : List ℕ) (i : ℕ) → i < p.n → root (hashes_of_share (map (block_row p) (segments p crypttext)) i) ≡ block_root (blocks p crypttext i)
  unfolding hashes_of_share block_root blocks
  root_is crypttext i below = ap root (column_is i below (segments p crypttext))

range_agrees : {X : Type 0} (f g : ℕ → X) (a n : ℕ) → ((i : ℕ) → a ≤ i → i < a + n → f i ≡ g i) → map f (range_with_len a n) ≡ map g (range_with_len a n)
range_agrees f g a zero each = refl
range_agrees f g a (suc n) each =
    let first = each a (omega arith) (omega arith) in
    let rest = range_agrees f g (a + 1) n (λ i low high. each i (omega arith) (omega arith)) in
    λ j. first j ∷ rest j

-- the roots over the columns are the leaves of the share tree
pub leaves_are : (p : ParamsValue) (crypttext : List ℕ) (rows : List (List (List ℕ))) → rows ≡ map (block_row p) (segments p crypttext)
    → map (λ i. root (hashes_of_share rows i)) (range_with_len 0 p.n) ≡ share_leaves p crypttext
unfolding share_leaves
leaves_are p crypttext rows e =
    ap (λ (rs : List (List (List ℕ))). map (λ i. root (hashes_of_share rs i)) (range_with_len 0 p.n)) e
    ∙ range_agrees (λ i. root (hashes_of_share (map (block_row p) (segments p crypttext)) i)) (λ i. block_root (blocks p crypttext i)) 0 p.n (λ i low high. root_is p crypttext i (omega arith))

-- the hash of a file by the two roots
pub hash_is : (p : ParamsValue) (crypttext : List ℕ) (roots : Ueb) (hash : List ℕ) → roots.crypttext_root ≡ (roots_of p crypttext).crypttext_root
    → roots.share_root ≡ root (share_leaves p crypttext) → hash ≡ extension_hash (ueb_text p roots) → hash ≡ ueb_hash p crypttext
unfolding ueb_hash ueb_of roots_of
hash_is p crypttext roots hash e f g =
    let same : roots ≡ roots_of p crypttext = λ i. record { crypttext_root = e i; share_root = f i } in
    g ∙ ap (λ (r : Ueb). extension_hash (ueb_text p r)) same

-- each of these is as wide
pub all_wide : (n : ℕ) (f : List ℕ → List (List ℕ)) (some : List (List ℕ)) (rows : List (Vec (List ℕ) Global)) → ((segment : List ℕ) → length (f segment) ≡ n)
    → map (λ (row : Vec (List ℕ) Global). row.items) rows ≡ map f some → All (λ (row : Vec (List ℕ) Global). length row.items ≡ n) rows
all_wide n f [] [] wide e k d below = absurd (omega arith)
all_wide n f [] (row ∷ rows) wide e k d below = absurd (let h : suc (length (map (λ (row : Vec (List ℕ) Global). row.items) rows)) ≡ 0 = ap length e in omega arith)
all_wide n f (s ∷ some) [] wide e k d below = absurd (omega arith)
all_wide n f (s ∷ some) (row ∷ rows) wide e zero d below = ap (λ (rs : List (List (List ℕ))). length (get_or rs 0 [])) e ∙ wide s
all_wide n f (s ∷ some) (row ∷ rows) wide e (suc k) d below = all_wide n f some rows wide (ap tail e) k d (omega arith)
  where
    tail : List (List (List ℕ)) → List (List (List ℕ))
    tail [] = []
    tail (x ∷ xs) = xs

pub length-hashes_of_share : (rows : List (List (List ℕ))) (n : ℕ) → length (hashes_of_share rows n) ≡ length rows
unfolding hashes_of_share
length-hashes_of_share rows n = length-map rows (λ row. get_or row n [])

-- one row more
pub column_more : (rows : List (Vec (List ℕ) Global)) (i n : ℕ) (row : Vec (List ℕ) Global) (hash : List ℕ) → i < length rows → row ≡ get_or rows i row → hash ≡ get_or row.items n []
    → hashes_of_share (map (λ (r : Vec (List ℕ) Global). r.items) (take i rows)) n ++ hash ∷ [] ≡ hashes_of_share (map (λ (r : Vec (List ℕ) Global). r.items) (take (i + 1) rows)) n
unfolding hashes_of_share
column_more rows i n row hash below is e =
    let items = λ (r : Vec (List ℕ) Global). r.items in
    let at = λ (r : List (List ℕ)). get_or r n [] in
    let more : take (i + 1) rows ≡ take i rows ++ row ∷ [] = take_more rows i row below ∙ ap (λ (r : Vec (List ℕ) Global). take i rows ++ r ∷ []) (sym is) in
    ap (λ h. map at (map items (take i rows)) ++ h ∷ []) e
    ∙ sym (map-append at (map items (take i rows)) (row.items ∷ []))
    ∙ ap (map at) (sym (map-append items (take i rows) (row ∷ [])))
    ∙ ap (λ (rs : List (Vec (List ℕ) Global)). map at (map items rs)) (sym more)

-- the hashes of blocks that were made of their numbers
pub row_is : (blocks : List (Vec ℕ Global)) (primary cut : List (List ℕ)) (n : ℕ) → map (λ (b : Vec ℕ Global). b.items) blocks ≡ map (block_of primary) (range_with_len 0 n) → primary ≡ cut
    → map (λ (b : Vec ℕ Global). block_hash b.items) blocks ≡ map (λ i. block_hash (block_of cut i)) (range_with_len 0 n)
row_is blocks primary cut n made same =
    sym (map-map block_hash (λ (b : Vec ℕ Global). b.items) blocks) ∙ ap (map block_hash) made ∙ map-map block_hash (block_of primary) (range_with_len 0 n)
    ∙ ap (λ (bs : List (List ℕ)). map (λ i. block_hash (block_of bs i)) (range_with_len 0 n)) same

pub block_row-is : (p : ParamsValue) (segment : List ℕ) (cut : List (List ℕ)) → cut ≡ primary_blocks p.k segment → map (λ i. block_hash (block_of cut i)) (range_with_len 0 p.n) ≡ block_row p segment
unfolding block_row
block_row-is p segment cut e = ap (λ (bs : List (List ℕ)). map (λ i. block_hash (block_of bs i)) (range_with_len 0 p.n)) e
