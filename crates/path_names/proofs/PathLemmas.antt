-- Steps over the segments of a path.
use Rattle.std.proofs.Common.{◌≡◌, ℕ, zero, suc, ◌<◌, ◌&&◌, ◌==◌, Bool, true, false, List, [], ◌∷◌, length, get_or, map, IsUtf8, Bor, refl, sym, ap, ◌∙◌, arith}
use Rattle.std.proofs.lemmas.List.{length-map}
use Rattle.std.proofs.lemmas.List.Splits.{length-slice_split}
use Rattle.std.proofs.lemmas.Str.{IsUtf8-from_is_utf8}
use Rattle.std.specs.List.{list_all, slice_split}
use Rattle.std.specs.Str.{is_utf8}
use Rattle.percent_encoding.specs.Percent.{percent_decode}
use Rattle.path_names.specs.Names.{first_or_empty, without_end_slash, path_segments, segment_texts}

-- the test fails where the bytes aren't UTF-8
pub not_utf8 : (bytes : List ℕ) → ¬ (IsUtf8 bytes) → is_utf8 bytes ≡ false
not_utf8 bytes none = (elim (is_utf8 bytes) as (λ b. is_utf8 bytes ≡ b → b ≡ false) [
  | true ↦ λ is. absurd (none (IsUtf8-from_is_utf8 bytes is))
  | false ↦ λ is. refl
]) refl

-- of mapped elements one fails, so not all pass
pub list_all_fails : {X Y : Type 0} (p : Y → Bool) (f : X → Y) (xs : List X) (i : ℕ) (d : X) → i < length xs → p (f (get_or xs i d)) ≡ false → list_all p (map f xs) ≡ false
list_all_fails p f [] i d within fails = absurd (omega arith)
list_all_fails p f (y ∷ xs) zero d within fails = rw fails
list_all_fails p f (y ∷ xs) (suc i) d within fails =
    let rest = list_all_fails p f xs i d (omega arith) fails in
    elim (p (f y)) as (λ b. (b && list_all p (map f xs)) ≡ false) [ true ↦ rest | false ↦ refl ]

mapped : (items : List (Bor (List ℕ))) → map (λ piece. percent_decode piece.now) items ≡ map percent_decode (map (λ piece. piece.now) items)
mapped [] = refl
mapped (x ∷ xs) = ap (λ rest. percent_decode x.now ∷ rest) (mapped xs)

-- the pieces, decoded, are the path's texts
pub texts_from_pieces : (path cut : List ℕ) (items shown : List (Bor (List ℕ))) → cut ≡ without_end_slash path → map (λ piece. piece.now) items ≡ slice_split (λ b. b == 47) cut → shown ≡ items
    → map (λ piece. percent_decode piece.now) shown ≡ segment_texts path
texts_from_pieces path cut items shown whole split same = ap (map (λ piece. percent_decode piece.now)) same ∙ mapped items ∙ ap (map percent_decode) (split ∙ ap (slice_split (λ b. b == 47)) whole)

pub length-texts : (path : List ℕ) → 0 < length (segment_texts path)
length-texts path = let pieces = length-slice_split (λ b. b == 47) (without_end_slash path) in let same = length-map (path_segments path) percent_decode in omega (arith, pieces, same)

pub first_is : (xs : List (List ℕ)) (x : List ℕ) → 0 < length xs → x ≡ get_or xs 0 x → first_or_empty xs ≡ x
first_is [] x some is = absurd (omega arith)
first_is (y ∷ xs) x some is = sym is
