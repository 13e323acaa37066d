-- The shares of a file decode to its crypttext.
use Rattle.std.proofs.Common.{◌≡◌, ℕ, ◌+◌, ◌*◌, ◌<◌, ◌≤◌, List, [], ◌∷◌, ◌++◌, Bor, length, take, drop, map, get_or, refl, sym, ap, subst, ◌∙◌, arith}
use Rattle.std.specs.Prelude.{All}
use Rattle.std.specs.List.{concat}
use Rattle.std.specs.Int.{div_ceil}
use Rattle.std.proofs.lemmas.List.{get_or-map, length-map, append-nil, take_all, take_more}
use Rattle.std.proofs.lemmas.List.Elements.{All-take, All-drop, All-map}
use Rattle.std.proofs.lemmas.List.Folds.{concat-append}
use Rattle.erasure.specs.Blocks.{block_of, primary_from}
use Rattle.erasure.specs.Code.{AreBytes, AreBlocks}
use Rattle.erasure.specs.Given.{numbered_of, numbers_of, blocks_of, AreDistinct, AreNumbers, Repeats, HasAnotherLength}
use Rattle.share_codec.specs.Params.{ParamsValue}
use Rattle.share_codec.specs.Segments.{segment_size, segment_count, segment_length, block_length, segments, primary_blocks}
use Rattle.share_codec.specs.Shares.{blocks}
use Rattle.share_codec.specs.GoodShare.{GoodShare, IsCutInBlocks}
use Rattle.share_repair.specs.Decoded.{AreGoodOf, numbered_blocks}

-- what the laws of the code and of segments say
abbrev pub TrueBlocks : Type 0
TrueBlocks = (size : ℕ) (primary : List (List ℕ)) (given : List (ℕ × List ℕ)) → 0 < length primary → length primary ≤ 256 → AreBlocks size primary → length primary ≤ length given → AreNumbers (numbers_of given)
    → All (λ g. g.1 ≡ block_of primary g.0) given → primary_from (length primary) given ≡ primary

abbrev pub SegmentCount : Type 0
SegmentCount = (p : ParamsValue) (bytes : List ℕ) → length (segments p bytes) ≡ segment_count p

abbrev pub SegmentAt : Type 0
SegmentAt = (p : ParamsValue) (bytes : List ℕ) (at : ℕ) → at < segment_count p → get_or (segments p bytes) at [] ≡ take (segment_size p) (drop (at * segment_size p) bytes)

abbrev pub PrimaryCount : Type 0
PrimaryCount = (k : ℕ) (segment : List ℕ) → length (primary_blocks k segment) ≡ k

abbrev pub PrimaryAre : Type 0
PrimaryAre = (k : ℕ) (segment : List ℕ) → 0 < k → AreBytes segment → AreBlocks (div_ceil (length segment) k) (primary_blocks k segment)

abbrev pub SegmentJoined : Type 0
SegmentJoined = (k : ℕ) (segment : List ℕ) → 0 < k → take (length segment) (concat (primary_blocks k segment)) ≡ segment

abbrev pub SegmentLengths : Type 0
SegmentLengths = (p : ParamsValue) (bytes : List ℕ) (at : ℕ) → length bytes ≡ p.size → at < segment_count p → length (get_or (segments p bytes) at []) ≡ segment_length p at

pub any_share : GoodShare
any_share = record { number = 0; ueb = record { crypttext_root = []; share_root = [] }; blocks = [] }

pub numbers-numbered : (shares : List GoodShare) (at : ℕ) → numbers_of (numbered_blocks shares at) ≡ map (λ (share : GoodShare). share.number) shares
numbers-numbered [] at = refl
numbers-numbered (share ∷ shares) at = ap (λ ns. share.number ∷ ns) (numbers-numbered shares at)

contents-numbered : (shares : List GoodShare) (at : ℕ) → blocks_of (numbered_blocks shares at) ≡ map (λ (share : GoodShare). get_or share.blocks at []) shares
contents-numbered [] at = refl
contents-numbered (share ∷ shares) at = ap (λ bs. get_or share.blocks at [] ∷ bs) (contents-numbered shares at)

pub never_repeats : (numbers : List ℕ) → AreDistinct numbers → Repeats numbers → ⊥
never_repeats numbers apart (i, j, lt, below, e) = apart i j 0 lt below e

-- the blocks of a segment have its length
block_long : (p : ParamsValue) (shares : List GoodShare) (at : ℕ) → at < segment_count p → All (IsCutInBlocks p) shares → (i : ℕ) → i < length shares → length (get_or (blocks_of (numbered_blocks shares at)) i []) ≡ block_length p at
block_long p shares at inside cut i below =
    let block : GoodShare → List ℕ = λ share. get_or share.blocks at [] in
    ap (λ bs. length (get_or bs i [])) (contents-numbered shares at)
    ∙ ap length (get_or-map block shares i any_share [] below)
    ∙ (cut i any_share below).lengths at inside

-- so none is of another
pub one_length : (p : ParamsValue) (shares : List GoodShare) (at : ℕ) → at < segment_count p → All (IsCutInBlocks p) shares → HasAnotherLength (blocks_of (numbered_blocks shares at)) → ⊥
one_length p shares at inside cut (i, below, e) =
    let long : length (blocks_of (numbered_blocks shares at)) ≡ length shares =
    ap length (contents-numbered shares at) ∙ length-map shares (λ (share : GoodShare). get_or share.blocks at []) in
    let within : i < length shares = omega arith in
    e (block_long p shares at inside cut i within ∙ sym (block_long p shares at inside cut 0 (omega arith)))

-- what holds of each of the images holds of each
from_images : {X Y : Type 0} (P : Y → Type 0) (f : X → Y) (xs : List X) → All P (map f xs) → All (λ x. P (f x)) xs
from_images P f xs all k d below = subst P (get_or-map f xs k d (f d) below) (all k (f d) (let h = length-map xs f in omega arith))

below_at : (p : ParamsValue) (shares : List GoodShare) (at : ℕ) → All (IsCutInBlocks p) shares → All (λ (g : ℕ × List ℕ). g.0 < p.n) (numbered_blocks shares at)
below_at p shares at cut =
    All-map (λ (g : ℕ × List ℕ). g.0 < p.n) (λ (share : GoodShare). (share.number, get_or share.blocks at [])) shares (λ k d below. (cut k d below).below)

-- numbers of blocks are below n
pub all_below : (p : ParamsValue) (k n : ℕ) (given : List (ℕ × Bor (List ℕ))) (shares : List GoodShare) (at : ℕ) → n ≡ p.n → All (IsCutInBlocks p) shares → numbered_of given ≡ numbered_blocks shares at
    → All (λ (b : ℕ × Bor (List ℕ)). b.0 < n) (take k given)
all_below p k n given shares at same cut e =
    let all : All (λ (g : ℕ × List ℕ). g.0 < p.n) (numbered_of given) = subst (All (λ (g : ℕ × List ℕ). g.0 < p.n)) (sym e) (below_at p shares at cut) in
    subst (λ m. All (λ (b : ℕ × Bor (List ℕ)). b.0 < m) (take k given)) (sym same)
    (All-take (λ (b : ℕ × Bor (List ℕ)). b.0 < p.n) k given
    (from_images (λ (g : ℕ × List ℕ). g.0 < p.n) (λ (b : ℕ × Bor (List ℕ)). (b.0, b.1.now)) given all))

-- the blocks that are passed are k, so all of them are looked at
pub given_long : (given : List (ℕ × Bor (List ℕ))) (shares : List GoodShare) (at : ℕ) → numbered_of given ≡ numbered_blocks shares at → length given ≡ length shares
given_long given shares at e = sym (length-map given (λ b. (b.0, b.1.now))) ∙ ap length e ∙ length-map shares _

pub looked_at : (k : ℕ) (given : List (ℕ × Bor (List ℕ))) (shares : List GoodShare) (at : ℕ) → numbered_of given ≡ numbered_blocks shares at → length shares ≡ k → numbered_of (take k given) ≡ numbered_blocks shares at
looked_at k given shares at e many =
    let long = given_long given shares at e in
    ap numbered_of (take_all k given (omega arith)) ∙ e

numbered : List (List ℕ) → List ℕ → List (ℕ × List ℕ)
numbered primary numbers = map (λ i. (i, block_of primary i)) numbers

module _ (true_blocks : TrueBlocks) (count : SegmentCount) (cut : SegmentAt) (as_many : PrimaryCount) (are : PrimaryAre)
    (p : ParamsValue) (crypttext : List ℕ) where
  segment : ℕ → List ℕ
  segment at = get_or (segments p crypttext) at []

  block_at : (i at : ℕ) → at < segment_count p → get_or (blocks p crypttext i) at [] ≡ block_of (primary_blocks p.k (segment at)) i
  unfolding blocks segment
  block_at i at below =
      get_or-map (λ s. block_of (primary_blocks p.k s) i) (segments p crypttext) at [] [] (let e = count p crypttext in omega arith)

  given_blocks : (at : ℕ) → at < segment_count p → (shares : List GoodShare) → All (λ (share : GoodShare). (share.number < p.n) × (share.blocks ≡ blocks p crypttext share.number)) shares
      → All (λ (g : ℕ × List ℕ). g.1 ≡ block_of (primary_blocks p.k (segment at)) g.0) (numbered_blocks shares at)
  given_blocks at below shares each =
      All-map (λ (g : ℕ × List ℕ). g.1 ≡ block_of (primary_blocks p.k (segment at)) g.0) (λ (share : GoodShare). (share.number, get_or share.blocks at [])) shares
      (λ k d inside. ap (λ bs. get_or bs at []) (each k d inside).1 ∙ block_at (get_or shares k d).number at below)

  segment_bytes : AreBytes crypttext → (at : ℕ) → at < segment_count p → AreBytes (segment at)
  unfolding segment
  segment_bytes bytes at below =
      subst AreBytes (sym (cut p crypttext at below)) (All-take (λ b. b < 256) (segment_size p) (drop (at * segment_size p) crypttext) (All-drop (λ b. b < 256) (at * segment_size p) crypttext bytes))

  numbers_small : (shares : List GoodShare) (at : ℕ) → AreGoodOf p crypttext shares → AreNumbers (numbers_of (numbered_blocks shares at))
  numbers_small shares at good =
      subst AreNumbers (sym (numbers-numbered shares at))
      (record {
        small = All-map (λ number. number < 256) (λ (share : GoodShare). share.number) shares (λ k d inside. let h = (good.each k d inside).0 in let l = good.sharing.limit in omega arith);
        distinct = good.apart;
      })

  -- at each segment they give its primary blocks
  pub decoded_primary : (shares : List GoodShare) → AreGoodOf p crypttext shares → (at : ℕ) → at < segment_count p
      → primary_from p.k (numbered_blocks shares at) ≡ primary_blocks p.k (get_or (segments p crypttext) at [])
  unfolding segment
  decoded_primary shares good at below =
      let primary = primary_blocks p.k (segment at) in
      let given = numbered_blocks shares at in
      let n : length primary ≡ p.k = as_many p.k (segment at) in
      let long : length given ≡ length shares = length-map shares (λ (share : GoodShare). (share.number, get_or share.blocks at [])) in
      let many = good.many in
      let some : 0 < length primary = (let h = good.sharing.some in omega arith) in
      let few : length primary ≤ 256 = (let h = good.sharing.enough in let g = good.sharing.limit in omega arith) in
      subst (λ m. primary_from m given ≡ primary) n
      (true_blocks (div_ceil (length (segment at)) p.k) primary given some few (are p.k (segment at) good.sharing.some (segment_bytes good.bytes at below)) (omega arith)
      (numbers_small shares at good)
      (given_blocks at below shares good.each))

-- the segments of a list, one after the other
pub concat_more : (parts : List (List ℕ)) (at : ℕ) → at < length parts → concat (take (at + 1) parts) ≡ concat (take at parts) ++ get_or parts at []
concat_more parts at below =
    ap concat (take_more parts at [] below) ∙ concat-append (take at parts) (get_or parts at [] ∷ [])
    ∙ ap (λ ys. concat (take at parts) ++ ys) (append-nil (get_or parts at []))
