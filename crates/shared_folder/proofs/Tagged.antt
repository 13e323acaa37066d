-- Tags, taken from the ends of paths.
use Rattle.std.proofs.Common.{◌≡◌, ℕ, ◌<◌, List, ◌++◌, length, drop, All, refl, ap, sym, ◌∙◌, arith, length-append, codes, inl, inr}
use Rattle.std.proofs.lemmas.Bool.{cases_lt}
use Rattle.std.proofs.lemmas.List.{drop_at, get_or_past}
use Rattle.hex.specs.Hex.{IsBytes, decode_of, encode_lower, lower_digits}
use Rattle.hex.proofs.HexLemmas.{length-encode_with, decode_of-encode_lower, decode_of-same}
use Rattle.folder_shelf.specs.Names.{file_name}
use Rattle.folder_shelf.specs.Paths.{unfinished_path}
use Rattle.shared_folder.specs.Tags.{tag_text}

-- what is before a tag
abbrev front : List ℕ → List ℕ → ℕ → List ℕ
front top index number = top ++ codes "/new/" ++ file_name index number

-- equal lists with ends of one length have equal ends
same_ends : (a b x y : List ℕ) → length x ≡ length y → a ++ x ≡ b ++ y → x ≡ y
same_ends a b x y long e =
    let fronts : length a ≡ length b = omega (arith, ap length e, length-append a x, length-append b y, long) in
    sym (drop_at a x (length b) fronts) ∙ ap (drop (length b)) e ∙ drop_at b y (length b) refl

length-tag : (random : List ℕ) → length random ≡ 16 → length (tag_text random) ≡ 33
unfolding tag_text
length-tag random long = omega (arith, length-encode_with lower_digits random, long)

are_bytes : (xs : List ℕ) → All (λ byte. byte < 256) xs → IsBytes xs
are_bytes xs all i =
    elim (cases_lt i (length xs)) [
      | inl within ↦ all i 0 within
      | inr past ↦ rw (get_or_past xs i 0 past) (omega arith)
    ]

one_tag : (ours theirs : List ℕ) → All (λ byte. byte < 256) ours → All (λ byte. byte < 256) theirs
    → tag_text ours ≡ tag_text theirs → ours ≡ theirs
unfolding tag_text
one_tag ours theirs here there e =
    decode_of-same (encode_lower theirs) ours theirs
    (ap decode_of (sym (ap (drop 1) e)) ∙ decode_of-encode_lower ours (are_bytes ours here))
    (decode_of-encode_lower theirs (are_bytes theirs there))

pub one_process : (top index there other ours theirs : List ℕ) (number another : ℕ)
    → length ours ≡ 16 → All (λ byte. byte < 256) ours
    → length theirs ≡ 16 → All (λ byte. byte < 256) theirs
    → unfinished_path top index number (tag_text ours) ≡ unfinished_path there other another (tag_text theirs)
    → ours ≡ theirs
one_process top index there other ours theirs number another long here as_long there_bytes e =
    one_tag ours theirs here there_bytes
    (same_ends (front top index number) (front there other another) (tag_text ours) (tag_text theirs)
    (length-tag ours long ∙ sym (length-tag theirs as_long))
    e)
