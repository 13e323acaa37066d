-- The numbers of the two layouts.
use Rattle.std.proofs.Common.{◌≡◌, ◌<◌, ◌≤◌, ◌+◌, ◌^◌, ℕ, zero, suc, List, [], ◌∷◌, ◌++◌, length, take, drop, All, Option, Some, None, Bool, true, false, nat_eq, if◌then◌else◌, get_or, refl, sym, ap, ◌∙◌, arith, append-nil, length-take-le, take_at, drop_at}
use Rattle.std.specs.Int.{from_be_bytes, w32, w64}
use Rattle.std.specs.Cmp.Lexicographic.{pointwise}
use Rattle.std.proofs.lemmas.List.{length-drop}
use Rattle.std.proofs.lemmas.Nat.{be_bytes_4, be_bytes_8, from_be_bytes-to_be_bytes_4, from_be_bytes-to_be_bytes_8}
use Rattle.grid.specs.Layout.{name, layout_said, wide, be32, be64, u32_at, long_number_at, count_bytes, count_at, count_limit}
use Rattle.grid.specs.declared.image_layout.Layout.{Layout}
use Rattle.grid.specs.declared.image_layout.Layout.TheVariants.{VersionOne, VersionTwo}
use Rattle.grid.proofs.Entries.{same_bytes}

-- ---- names

pub length-name : (layout : Layout) → length (name layout) ≡ 8
length-name VersionOne = refl
length-name VersionTwo = refl

pub named_back : (layout : Layout) → layout_said (name layout) ≡ Some layout
named_back VersionOne = refl
named_back VersionTwo = refl

-- the tests of a name
abbrev name_tested : Bool → Bool → Option Layout
name_tested b0 b1 = if b0 then Some VersionOne else if b1 then Some VersionTwo else None

pub name_of : (bytes : List ℕ) (layout : Layout) → layout_said bytes ≡ Some layout → bytes ≡ name layout
name_of bytes layout said =
    by_tests (pointwise nat_eq bytes (name VersionOne)) (pointwise nat_eq bytes (name VersionTwo)) layout (same_bytes bytes (name VersionOne)) (same_bytes bytes (name VersionTwo)) said
  where
    by_tests : (b0 b1 : Bool) (l : Layout) → (b0 ≡ true → bytes ≡ name VersionOne) → (b1 ≡ true → bytes ≡ name VersionTwo) → name_tested b0 b1 ≡ Some l → bytes ≡ name l
    by_tests true b1 l one two is = let same : VersionOne ≡ l = cc in one refl ∙ ap name same
    by_tests false true l one two is = let same : VersionTwo ≡ l = cc in two refl ∙ ap name same
    by_tests false false l one two is = cc

pub no_name : (bytes : List ℕ) → layout_said bytes ≡ None → (layout : Layout) → bytes ≡ name layout → ⊥
no_name bytes said layout same =
    let no : Some layout ≡ None = sym (named_back layout) ∙ ap layout_said (sym same) ∙ said in
    cc

-- ---- numbers

pub wide_some : (layout : Layout) → 4 ≤ wide layout
wide_some VersionOne = omega arith
wide_some VersionTwo = omega arith

pub length-be32 : (n : ℕ) → length (be32 n) ≡ 4
unfolding be32
length-be32 n = refl

pub length-be64 : (n : ℕ) → length (be64 n) ≡ 8
unfolding be64
length-be64 n = refl

pub length-count : (layout : Layout) (n : ℕ) → length (count_bytes layout n) ≡ wide layout
length-count VersionOne n = length-be32 n
length-count VersionTwo n = length-be64 n

from-be32 : (n : ℕ) → n < 2 ^ 32 → from_be_bytes w32 (be32 n) ≡ n
unfolding be32
from-be32 n lt = from_be_bytes-to_be_bytes_4 n lt

from-be64 : (n : ℕ) → n < 2 ^ 64 → from_be_bytes w64 (be64 n) ≡ n
unfolding be64
from-be64 n lt = from_be_bytes-to_be_bytes_8 n lt

-- a number behind so many bytes
pub number_behind : (front back : List ℕ) (n at : ℕ) → length front ≡ at → n < 2 ^ 32 → u32_at (front ++ (be32 n ++ back)) at ≡ n
unfolding u32_at
number_behind front back n at long lt =
    ap (λ l. from_be_bytes w32 (take 4 l)) (drop_at front (be32 n ++ back) at long)
    ∙ ap (from_be_bytes w32) (take_at (be32 n) back 4 (length-be32 n))
    ∙ from-be32 n lt

number_last : (front : List ℕ) (n at : ℕ) → length front ≡ at → n < 2 ^ 32 → u32_at (front ++ be32 n) at ≡ n
number_last front n at long lt = ap (λ l. u32_at (front ++ l) at) (sym (append-nil (be32 n))) ∙ number_behind front [] n at long lt

long_last : (front : List ℕ) (n at : ℕ) → length front ≡ at → n < 2 ^ 64 → long_number_at (front ++ be64 n) at ≡ n
unfolding long_number_at
long_last front n at long lt =
    ap (λ l. from_be_bytes w64 (take 8 l)) (drop_at front (be64 n) at long)
    ∙ ap (λ l. from_be_bytes w64 (take 8 l)) (sym (append-nil (be64 n)))
    ∙ ap (from_be_bytes w64) (take_at (be64 n) [] 8 (length-be64 n))
    ∙ from-be64 n lt

-- a number of shares or a length at the end
pub count_last : (layout : Layout) (front : List ℕ) (n at : ℕ) → length front ≡ at → n < count_limit layout → count_at layout (front ++ count_bytes layout n) at ≡ n
count_last VersionOne front n at long lt = number_last front n at long lt
count_last VersionTwo front n at long lt = long_last front n at long lt

-- ---- bytes

abbrev pub Low : List ℕ → Type 0
Low [] = Unit {0}
Low (b ∷ bytes) = (b < 256) × Low bytes

pub low_from : (bytes : List ℕ) → All (λ b. b < 256) bytes → Low bytes
low_from [] all = tt
low_from (b ∷ bytes) all = (all zero b (omega arith), low_from bytes (λ k d lt. all (suc k) d (omega arith)))

pub low_drop : (n : ℕ) (bytes : List ℕ) → Low bytes → Low (drop n bytes)
low_drop zero bytes low = low
low_drop (suc n) [] low = tt
low_drop (suc n) (b ∷ bytes) low = low_drop n bytes low.1

pub low_take : (n : ℕ) (bytes : List ℕ) → Low bytes → Low (take n bytes)
low_take zero bytes low = tt
low_take (suc n) [] low = tt
low_take (suc n) (b ∷ bytes) low = (low.0, low_take n bytes low.1)

low_at : (bytes : List ℕ) → Low bytes → (i : ℕ) → get_or bytes i 0 < 256
low_at [] low i = omega arith
low_at (b ∷ bytes) low zero = low.0
low_at (b ∷ bytes) low (suc i) = low_at bytes low.1 i

-- a number's bytes are those at its place
pub be32-number_at : (bytes : List ℕ) (at : ℕ) → Low bytes → at + 4 ≤ length bytes → be32 (u32_at bytes at) ≡ take 4 (drop at bytes)
unfolding be32 u32_at
be32-number_at bytes at low le =
    let four = take 4 (drop at bytes) in
    be_bytes_4 four (from_be_bytes w32 four) (length-take-le 4 (drop at bytes) (omega (arith, length-drop at bytes))) (low_at four (low_take 4 (drop at bytes) (low_drop at bytes low))) refl

be64-number_at : (bytes : List ℕ) (at : ℕ) → Low bytes → at + 8 ≤ length bytes → be64 (long_number_at bytes at) ≡ take 8 (drop at bytes)
unfolding be64 long_number_at
be64-number_at bytes at low le =
    let eight = take 8 (drop at bytes) in
    be_bytes_8 eight (from_be_bytes w64 eight) (length-take-le 8 (drop at bytes) (omega (arith, length-drop at bytes))) (low_at eight (low_take 8 (drop at bytes) (low_drop at bytes low))) refl

pub bytes-count_at : (layout : Layout) (bytes : List ℕ) (at : ℕ) → Low bytes → at + wide layout ≤ length bytes → count_bytes layout (count_at layout bytes at) ≡ take (wide layout) (drop at bytes)
bytes-count_at VersionOne bytes at low le = be32-number_at bytes at low le
bytes-count_at VersionTwo bytes at low le = be64-number_at bytes at low le

pub number_fits : (bytes : List ℕ) (at : ℕ) → Low bytes → u32_at bytes at < 2 ^ 32
unfolding u32_at
number_fits bytes at low =
    let four = take 4 (drop at bytes) in
    let each : (i : ℕ) → get_or four i 0 < 256 = low_at four (low_take 4 (drop at bytes) (low_drop at bytes low)) in
    omega (arith, each 0, each 1, each 2, each 3)

long_fits : (bytes : List ℕ) (at : ℕ) → Low bytes → long_number_at bytes at < 2 ^ 64
unfolding long_number_at
long_fits bytes at low =
    let eight = take 8 (drop at bytes) in
    let each : (i : ℕ) → get_or eight i 0 < 256 = low_at eight (low_take 8 (drop at bytes) (low_drop at bytes low)) in
    omega (arith, each 0, each 1, each 2, each 3, each 4, each 5, each 6, each 7)

pub count_fits : (layout : Layout) (bytes : List ℕ) (at : ℕ) → Low bytes → count_at layout bytes at < count_limit layout
count_fits VersionOne bytes at low = number_fits bytes at low
count_fits VersionTwo bytes at low = long_fits bytes at low
