-- What a reply's Content-Range holds has no CR and no LF.
use Rattle.std.proofs.Common.{◌≡◌, ℕ, ◌^◌, ◌<◌, List, ◌++◌, true, ap, ◌∙◌}
use Rattle.std.specs.Prelude.{decimal, codes, ◌&&◌}
use Rattle.std.specs.List.{list_all}
use Rattle.std.proofs.lemmas.List.Folds.{list_all-append}
use Rattle.http_edge.specs.Plain.{is_line_byte}

-- a text of such bytes, after another
and_both : (xs ys : List ℕ) → list_all is_line_byte xs ≡ true → list_all is_line_byte ys ≡ true → list_all is_line_byte (xs ++ ys) ≡ true
and_both xs ys first second = list_all-append is_line_byte xs ys ∙ ap (λ b. b && list_all is_line_byte ys) first ∙ second

module _ (numbers : (n : ℕ) → n < 2 ^ 64 → list_all is_line_byte (decimal n) ≡ true) where
  pub part_plain : (from to size : ℕ) → from < 2 ^ 64 → to < 2 ^ 64 → size < 2 ^ 64 → (value : List ℕ)
      → value ≡ codes "bytes " ++ (decimal from ++ (codes "-" ++ (decimal to ++ (codes "/" ++ decimal size)))) → list_all is_line_byte value ≡ true
  part_plain from to size a b c value is =
      ap (list_all is_line_byte) is
      ∙ and_both (decimal from) (codes "-" ++ (decimal to ++ (codes "/" ++ decimal size))) (numbers from a)
      (and_both (decimal to) (codes "/" ++ decimal size) (numbers to b) (numbers size c))

  pub none_plain : (size : ℕ) → size < 2 ^ 64 → (value : List ℕ) → value ≡ codes "bytes */" ++ decimal size → list_all is_line_byte value ≡ true
  none_plain size c value is = ap (list_all is_line_byte) is ∙ numbers size c
