-- Parts of files: what is given of them, segment by segment, and what is left.
use Rattle.std.proofs.Common.{◌≡◌, ◌⊎◌, inl, inr, ◌≤◌, ◌<◌, ℕ, ◌+◌, ◌-◌, List, ◌++◌, length, take, drop, min, sym, ap, ◌∙◌, arith, length-drop, length-take, length-append}
use Rattle.std.proofs.lemmas.List.{take_all, take-append-drop, append-nil, take-append-le, drop-append-le, take-take, drop-drop, drop-take}
use Rattle.std.proofs.Math.Seq.{take-append-add}

-- ---- a segment, and what is left behind it

whole : (left segment rest : List ℕ) (each : ℕ) → segment ≡ take each left → rest ≡ drop each left → left ≡ segment ++ rest
whole left segment rest each is remains = sym (take-append-drop each left) ∙ (λ i. sym is i ++ sym remains i)

-- past what is passed over
pub found : (left segment rest : List ℕ) (each skip : ℕ) → segment ≡ take each left → rest ≡ drop each left → drop skip left ≡ drop skip (segment ++ rest)
found left segment rest each skip is remains = ap (drop skip) (whole left segment rest each is remains)

-- ---- what is given of the segment in which the next byte stands

either : (a b : ℕ) → (a ≤ b) ⊎ (b ≤ a)
either a b = grind arith

take_two : (count many : ℕ) (xs ys : List ℕ) → many ≡ min count (length xs) → take count (xs ++ ys) ≡ take many xs ++ take (count - many) ys
take_two count many xs ys is = by_case (either count (length xs))
  where
    by_case : (count ≤ length xs) ⊎ (length xs ≤ count) → take count (xs ++ ys) ≡ take many xs ++ take (count - many) ys
    by_case (inl within) =
        let e : count ≡ many = omega (arith, is) in
        let none : count - many ≡ 0 = omega (arith, is) in
        take-append-le count xs ys within ∙ ap (λ n. take n xs) e ∙ sym (append-nil (take many xs)) ∙ ap (λ n. take many xs ++ take n ys) (sym none)
    by_case (inr past) =
        let e : count ≡ length xs + (count - many) = omega (arith, is) in
        let all : take many xs ≡ xs = take_all many xs (omega (arith, is)) in
        ap (λ n. take n (xs ++ ys)) e ∙ take-append-add xs ys (count - many) ∙ ap (λ l. l ++ take (count - many) ys) (sym all)

module _ (count skip at many : ℕ) (left segment rest : List ℕ) (is : drop skip left ≡ drop at (segment ++ rest)) (inside : at < length segment) (counted : many ≡ min count (length segment - at)) where
  pub part_given : take count (drop skip left) ≡ take many (drop at segment) ++ take (count - many) rest
  part_given =
      let at_most : at ≤ length segment = omega (arith, inside) in
      ap (take count) (is ∙ drop-append-le at segment rest at_most)
      ∙ take_two count many (drop at segment) rest (counted ∙ ap (min count) (sym (length-drop at segment)))

  pub left_in : skip + count ≤ length left → count - many ≤ length rest
  left_in within =
      let e : length left - skip ≡ length segment + length rest - at = sym (length-drop skip left) ∙ ap length is ∙ length-drop at (segment ++ rest) ∙ ap (λ n. n - at) (length-append segment rest) in
      omega (arith, within, e, inside, counted)

  pub some_given : 0 < count → 0 < length (take many (drop at segment))
  some_given some =
      let e : length (take many (drop at segment)) ≡ min many (length segment - at) = length-take many (drop at segment) ∙ ap (min many) (length-drop at segment) in
      omega (arith, some, e, inside, counted)

  pub cut_in : at + many ≤ length segment
  cut_in = omega (arith, inside, counted)

-- ---- a part of a part

pub part_of_part : (before n skip count : ℕ) (left : List ℕ) → skip + count ≤ n
    → take count (drop (before + skip) left) ≡ take count (drop skip (take n (drop before left)))
part_of_part before n skip count left within =
    let few : count ≤ n - skip = omega (arith, within) in
    let all : skip + (n - skip) ≡ n = omega (arith, within) in
    ap (take count) (sym (drop-drop skip before left))
    ∙ sym (take-take count (n - skip) (drop skip (drop before left)) few)
    ∙ ap (take count) (sym (drop-take skip (n - skip) (drop before left)) ∙ ap (λ k. drop skip (take k (drop before left))) all)

-- ---- how many are left

pub part_length : (count skip : ℕ) (left : List ℕ) → skip + count ≤ length left → length (take count (drop skip left)) ≡ count
part_length count skip left within =
    let e : length (take count (drop skip left)) ≡ min count (length left - skip) = length-take count (drop skip left) ∙ ap (min count) (length-drop skip left) in
    omega (arith, e, within)

-- after those that are passed over, as many as before
pub part_stays : (count skip at : ℕ) (left rest : List ℕ) → 0 < count → drop at rest ≡ drop skip left → skip + count ≤ length left → at + count ≤ length rest
part_stays count skip at left rest some is within =
    let e : length rest - at ≡ length left - skip = sym (length-drop at rest) ∙ ap length is ∙ length-drop skip left in
    omega (arith, some, within, e)
