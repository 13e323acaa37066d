-- Lists that are joined piece by piece.
use Rattle.std.proofs.Common.{◌≡◌, ℕ, ◌+◌, ◌<◌, List, [], ◌∷◌, ◌++◌, length, map, get_or, Bool, true, false, refl, ap, ◌∙◌, arith}
use Rattle.std.specs.List.{concat, list_all, range_with_len}
use Rattle.std.proofs.lemmas.List.{append-nil}
use Rattle.std.proofs.lemmas.List.FromFn.{length-range_with_len, get_or-range_with_len, map-range_with_len_more}
use Rattle.std.proofs.lemmas.List.Folds.{concat-append, list_all-append, list_all_at}
use Rattle.std.proofs.lemmas.Bool.{and_from}
use Rattle.file_shares.proofs.Tools.{range_next}

concat_push : (xs : List (List ℕ)) (x : List ℕ) → concat (xs ++ x ∷ []) ≡ concat xs ++ x
concat_push xs x = concat-append xs (x ∷ []) ∙ ap (λ ys. concat xs ++ ys) (append-nil x)

pub concat_next : (f : ℕ → List ℕ) (n : ℕ) → concat (map f (range_with_len 0 (n + 1))) ≡ concat (map f (range_with_len 0 n)) ++ f n
concat_next f n = ap concat (map-range_with_len_more f 0 n n (omega arith)) ∙ concat_push (map f (range_with_len 0 n)) (f n)

pub all_next : (p : ℕ → Bool) (n : ℕ) → list_all p (range_with_len 0 n) ≡ true → p n ≡ true → list_all p (range_with_len 0 (n + 1)) ≡ true
all_next p n all here =
    ap (list_all p) (range_next n) ∙ list_all-append p (range_with_len 0 n) (n ∷ [])
    ∙ and_from (list_all p (range_with_len 0 n)) (list_all p (n ∷ [])) all (and_from (p n) true here refl)

pub not_all : (p : ℕ → Bool) (n i : ℕ) → i < n → p i ≡ false → list_all p (range_with_len 0 n) ≡ false
not_all p n i below bad =
    let long : length (range_with_len 0 n) ≡ n = length-range_with_len 0 n in
    let at : get_or (range_with_len 0 n) i 0 ≡ i = get_or-range_with_len 0 n i 0 below ∙ (let h : 0 + i ≡ i = omega arith in h) in
    list_all_at p (range_with_len 0 n) i 0 (omega arith) (ap p at ∙ bad)
