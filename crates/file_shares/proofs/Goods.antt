-- Good shares that were taken from a row.
use Rattle.std.proofs.Common.{◌≡◌, ℕ, zero, suc, ◌+◌, ◌<◌, ◌≤◌, min, List, [], ◌∷◌, ◌++◌, length, take, map, get_or, cond, Option, Some, None, refl, sym, ap, subst, ◌∙◌, arith, length-take}
use Rattle.std.specs.Prelude.{All, IfSome, is_some, filter, option_to_list}
use Rattle.std.specs.Option.{option_or}
use Rattle.std.specs.List.{range_with_len, filter_map, cons_option}
use Rattle.std.proofs.lemmas.List.{get_or-map, length-map, take-map, length-take-le}
use Rattle.std.proofs.lemmas.Option.{IfSome_then}
use Rattle.std.proofs.lemmas.List.Elements.{All-take, All-map, filter_map-append}
use Rattle.octets.specs.Sharing.{IsSharing}
use Rattle.erasure.specs.Blocks.{size_of}
use Rattle.erasure.specs.Given.{AreDistinct, numbers_of, blocks_of, Repeats, HaveOneLength, HasAnotherLength}
use Rattle.share_codec.specs.Params.{ParamsValue}
use Rattle.share_codec.specs.Segments.{segment_count, block_length}
use Rattle.share_codec.specs.Tags.{extension_hash}
use Rattle.share_codec.specs.GoodShare.{GoodShare, IsCutInBlocks}
use Rattle.share_codec.specs.GoodShare.{good_share}
use Rattle.file_shares.specs.Row.{ShareTable, ServerShare, places, first_good, good_at, good_shares}
use Rattle.file_shares.specs.Check.{if_bad, bad_places, if_good, good_places}
use Rattle.file_shares.specs.Taken.{AreTaken}
use Rattle.file_shares.specs.Fit.{blocks_at}
use Rattle.file_shares.proofs.Tools.{All-filter_map, filtered_apart, cons_alone, pairs_taken}
use Rattle.file_shares.proofs.Sealed.{IsSealed, ReadFrom, GoodIsCut}

pub numbers-blocks_at : (shares : List GoodShare) (at : ℕ) → numbers_of (blocks_at shares at) ≡ map (λ (share : GoodShare). share.number) shares
numbers-blocks_at [] at = refl
numbers-blocks_at (share ∷ shares) at = ap (λ ns. share.number ∷ ns) (numbers-blocks_at shares at)

pub contents-blocks_at : (shares : List GoodShare) (at : ℕ) → blocks_of (blocks_at shares at) ≡ map (λ (share : GoodShare). get_or share.blocks at []) shares
contents-blocks_at [] at = refl
contents-blocks_at (share ∷ shares) at = ap (λ bs. get_or share.blocks at [] ∷ bs) (contents-blocks_at shares at)

pub never_repeats : (numbers : List ℕ) → AreDistinct numbers → Repeats numbers → ⊥
never_repeats numbers apart (i, j, lt, below, e) = apart i j 0 lt below e

pub any_share : GoodShare
any_share = record { number = 0; ueb = record { crypttext_root = []; share_root = [] }; blocks = [] }

-- the blocks of a segment have its length
block_long : (p : ParamsValue) (shares : List GoodShare) (at : ℕ) → at < segment_count p → All (IsCutInBlocks p) shares → (i : ℕ) → i < length shares → length (get_or (blocks_of (blocks_at shares at)) i []) ≡ block_length p at
block_long p shares at inside cut i below =
    let block : GoodShare → List ℕ = λ share. get_or share.blocks at [] in
    ap (λ bs. length (get_or bs i [])) (contents-blocks_at shares at)
    ∙ ap length (get_or-map block shares i any_share [] below)
    ∙ (cut i any_share below).lengths at inside

length-contents : (shares : List GoodShare) (at : ℕ) → length (blocks_of (blocks_at shares at)) ≡ length shares
length-contents shares at = ap length (contents-blocks_at shares at) ∙ length-map shares (λ (share : GoodShare). get_or share.blocks at [])

pub first_long : (p : ParamsValue) (shares : List GoodShare) (at : ℕ) → at < segment_count p → All (IsCutInBlocks p) shares → 0 < length shares → size_of (blocks_of (blocks_at shares at)) ≡ block_length p at
first_long p shares at inside cut many = block_long p shares at inside cut 0 many

-- so all are of one length
pub one_length : (p : ParamsValue) (shares : List GoodShare) (at : ℕ) → at < segment_count p → All (IsCutInBlocks p) shares → HasAnotherLength (blocks_of (blocks_at shares at)) → ⊥
one_length p shares at inside cut (i, below, e) =
    let within : i < length shares = (let h = length-contents shares at in omega arith) in
    e (block_long p shares at inside cut i within ∙ sym (first_long p shares at inside cut (omega arith)))

pub same_lengths : (p : ParamsValue) (shares : List GoodShare) (at : ℕ) → at < segment_count p → All (IsCutInBlocks p) shares → HaveOneLength (blocks_of (blocks_at shares at))
same_lengths p shares at inside cut i d below =
    let within : i < length shares = (let h = length-contents shares at in omega arith) in
    ap length (get_or-d (blocks_of (blocks_at shares at)) i d [] below)
    ∙ block_long p shares at inside cut i within ∙ sym (first_long p shares at inside cut (omega arith))
  where
    get_or-d : {X : Type 0} (xs : List X) (i : ℕ) (d e : X) → i < length xs → get_or xs i d ≡ get_or xs i e
    get_or-d [] i d e below = absurd (omega arith)
    get_or-d (x ∷ xs) zero d e below = refl
    get_or-d (x ∷ xs) (suc i) d e below = get_or-d xs i d e (omega arith)

-- what holds of each of the images holds of each
pub from_images : {X Y : Type 0} (P : Y → Type 0) (f : X → Y) (xs : List X) → All P (map f xs) → All (λ x. P (f x)) xs
from_images P f xs all k d below = subst P (get_or-map f xs k d (f d) below) (all k (f d) (let h = length-map xs f in omega arith))

pub below_at : (p : ParamsValue) (shares : List GoodShare) (at : ℕ) → All (IsCutInBlocks p) shares → All (λ (g : ℕ × List ℕ). g.0 < p.n) (blocks_at shares at)
below_at p shares at cut =
    All-map (λ (g : ℕ × List ℕ). g.0 < p.n) (λ (share : GoodShare). (share.number, get_or share.blocks at [])) shares (λ k d below. (cut k d below).below)

both_none : {X : Type 0} (one other : Option X) → option_or one other ≡ None → (one ≡ None) × (other ≡ None)
both_none None other e = (refl, e)
both_none (Some x) other e = cc

pub or_none : {X : Type 0} (o : Option X) → option_or o None ≡ o
or_none None = refl
or_none (Some x) = refl

pub or_assoc : {X : Type 0} (a b c : Option X) → option_or (option_or a b) c ≡ option_or a (option_or b c)
or_assoc None b c = refl
or_assoc (Some x) b c = refl

-- ---- how they are taken

module _ (read : ReadFrom) (is_cut : GoodIsCut) (p : ParamsValue) (ueb : List ℕ) where
  -- a good share of a number
  pub record IsOf (number : ℕ) (share : GoodShare) : Type 0 where
    pub numbered : share.number ≡ number
    pub cut : IsCutInBlocks p share
    pub sealed : IsSealed p ueb share

  of_good : (s : List ℕ) (number : ℕ) (o : Option GoodShare) → good_share s number p ueb ≡ o → IfSome o (IsOf number)
  of_good s number None e = tt
  of_good s number (Some share) e =
      let from = read s number p ueb share e in
      record {
        numbered = from.numbered;
        cut = is_cut s number p ueb share e;
        sealed = record { hashes = from.meets.extension.hashes; extension = ap extension_hash (sym from.meets.extension.text) ∙ from.meets.hash };
      }

  pub of_first : (number : ℕ) (found : List ServerShare) → IfSome (first_good p ueb number found) (IsOf number)
  of_first number [] = tt
  of_first number (place ∷ found) = either (good_share place.1 number p ueb) (first_good p ueb number found) (of_good place.1 number (good_share place.1 number p ueb) refl) (of_first number found)
    where
      either : (one other : Option GoodShare) → IfSome one (IsOf number) → IfSome other (IsOf number) → IfSome (option_or one other) (IsOf number)
      either None other first second = second
      either (Some share) other first second = first

  -- what is known of each of them
  pub record IsKnown (share : GoodShare) : Type 0 where
    pub cut : IsCutInBlocks p share
    pub sealed : IsSealed p ueb share

  module _ (f : ℕ → Option GoodShare) (each : (number : ℕ) → IfSome (f number) (IsOf number)) where
    pub all_known : (n : ℕ) → All IsKnown (filter_map f (range_with_len 0 n))
    all_known n =
        All-filter_map IsKnown f (range_with_len 0 n)
        (λ number. IfSome_then (f number) (each number) (λ share is. record { cut = is.cut; sealed = is.sealed }))

    one_kept : (a : ℕ) (o : Option GoodShare) (rest : List GoodShare) (ns : List ℕ) → IfSome o (IsOf a) → map (λ (share : GoodShare). share.number) rest ≡ ns
        → map (λ (share : GoodShare). share.number) (cons_option o rest) ≡ cond (is_some o) (a ∷ ns) ns
    one_kept a None rest ns is e = e
    one_kept a (Some share) rest ns is e = λ i. is.numbered i ∷ e i

    numbers_kept : (a n : ℕ) → map (λ (share : GoodShare). share.number) (filter_map f (range_with_len a n)) ≡ filter (λ number. is_some (f number)) (range_with_len a n)
    numbers_kept a zero = refl
    numbers_kept a (suc n) =
        one_kept a (f a) (filter_map f (range_with_len (a + 1) n)) (filter (λ number. is_some (f number)) (range_with_len (a + 1) n)) (each a) (numbers_kept (a + 1) n)

    -- no number stands twice
    pub all_apart : (n : ℕ) → AreDistinct (map (λ (share : GoodShare). share.number) (filter_map f (range_with_len 0 n)))
    all_apart n = subst AreDistinct (sym (numbers_kept 0 n)) (filtered_apart (λ number. is_some (f number)) 0 n)

    -- the first k, where there are as many
    pub all_taken : IsSharing p.k p.n → (n : ℕ) (shares : List GoodShare) → shares ≡ take p.k (filter_map f (range_with_len 0 n)) → p.k ≤ length shares → AreTaken p shares
    all_taken sharing n shares is many =
        let goods = filter_map f (range_with_len 0 n) in
        let known : All IsKnown (take p.k goods) = All-take IsKnown p.k goods (all_known n) in
        let long : length (take p.k goods) ≡ min p.k (length goods) = length-take p.k goods in
        let same : length shares ≡ length (take p.k goods) = ap length is in
        let fits : p.k ≤ length goods = omega arith in
        let at_least_one : 0 < length (take p.k goods) = (let h = sharing.some in omega arith) in
        let all : AreTaken p (take p.k goods) = record {
          sharing = sharing;
          some = (known 0 any_share at_least_one).cut.some;
          many = length-take-le p.k goods fits;
          cut = λ k d below. (known k d below).cut;
          apart = subst AreDistinct (take-map (λ (share : GoodShare). share.number) p.k goods)
              (pairs_taken p.k (map (λ (share : GoodShare). share.number) goods)
              (let h = length-map goods (λ (share : GoodShare). share.number) in omega arith)
              (all_apart n));
        } in
        subst (AreTaken p) (sym is) all

-- ---- one place more

module _ (p : ParamsValue) (ueb : List ℕ) (number : ℕ) where
  -- the first that is good
  pub first_found : (places : List ServerShare) (i : ℕ) (place : ServerShare) (share : GoodShare) → i < length places → place ≡ get_or places i place → first_good p ueb number (take i places) ≡ None
      → good_share place.1 number p ueb ≡ Some share → first_good p ueb number places ≡ Some share
  first_found [] i place share below is none good = absurd (omega arith)
  first_found (x ∷ places) zero place share below is none good = ap (λ o. option_or o (first_good p ueb number places)) (ap (λ (q : ServerShare). good_share q.1 number p ueb) (sym is) ∙ good)
  first_found (x ∷ places) (suc i) place share below is none good =
      let parts = both_none (good_share x.1 number p ueb) (first_good p ueb number (take i places)) none in
      ap (λ o. option_or o (first_good p ueb number places)) parts.0 ∙ first_found places i place share (omega arith) is parts.1 good

  first_append : (one other : List ServerShare) → first_good p ueb number (one ++ other) ≡ option_or (first_good p ueb number one) (first_good p ueb number other)
  first_append [] other = refl
  first_append (x ∷ one) other =
      ap (option_or (good_share x.1 number p ueb)) (first_append one other)
      ∙ sym (or_assoc (good_share x.1 number p ueb) (first_good p ueb number one) (first_good p ueb number other))

  pub first_more : (places : List ServerShare) (place : ServerShare) → first_good p ueb number (places ++ place ∷ []) ≡ option_or (first_good p ueb number places) (good_share place.1 number p ueb)
  first_more places place = first_append places (place ∷ []) ∙ ap (option_or (first_good p ueb number places)) (or_none (good_share place.1 number p ueb))

  pub bad_more : (places : List ServerShare) (place : ServerShare) → bad_places p ueb number (places ++ place ∷ []) ≡ bad_places p ueb number places ++ option_to_list (if_bad place.0 number (good_share place.1 number p ueb))
  bad_more places place =
      filter_map-append (λ (q : ServerShare). if_bad q.0 number (good_share q.1 number p ueb)) places (place ∷ [])
      ∙ ap (λ ys. bad_places p ueb number places ++ ys) (cons_alone (if_bad place.0 number (good_share place.1 number p ueb)))

  pub good_more : (places : List ServerShare) (place : ServerShare) → good_places p ueb number (places ++ place ∷ []) ≡ good_places p ueb number places ++ option_to_list (if_good place.0 number (good_share place.1 number p ueb))
  good_more places place =
      filter_map-append (λ (q : ServerShare). if_good q.0 number (good_share q.1 number p ueb)) places (place ∷ [])
      ∙ ap (λ ys. good_places p ueb number places ++ ys) (cons_alone (if_good place.0 number (good_share place.1 number p ueb)))

-- ---- the good shares of a row

module _ (read : ReadFrom) (is_cut : GoodIsCut) (p : ParamsValue) (ueb : List ℕ) (row : ShareTable) where
  pub row_known : All (IsKnown read is_cut p ueb) (good_shares p ueb row)
  row_known = all_known read is_cut p ueb (good_at p ueb row) (λ number. of_first read is_cut p ueb number (places row number)) p.n

  pub row_apart : AreDistinct (map (λ (share : GoodShare). share.number) (good_shares p ueb row))
  row_apart = all_apart read is_cut p ueb (good_at p ueb row) (λ number. of_first read is_cut p ueb number (places row number)) p.n
