-- Blocks of 16 bytes.
use Rattle.std.proofs.Common.{◌≡◌, ℕ, ◌+◌, ◌-◌, ◌<◌, ◌≤◌, List, [], ◌∷◌, ◌++◌, get_or, length, take, drop, ap, ◌∙◌, arith, inl, inr}
use Rattle.std.proofs.lemmas.Bool.{cases_lt}
use Rattle.std.proofs.lemmas.List.{get_or-take, get_or-drop, get_or_append_left, get_or-append_right, length-take-le, length-drop}

-- two lists of 16 numbers that agree place by place
pub same_16 : {x0 x1 x2 x3 x4 x5 x6 x7 x8 x9 x10 x11 x12 x13 x14 x15 : ℕ}
    {y0 y1 y2 y3 y4 y5 y6 y7 y8 y9 y10 y11 y12 y13 y14 y15 : ℕ}
    → x0 ≡ y0 → x1 ≡ y1 → x2 ≡ y2 → x3 ≡ y3 → x4 ≡ y4 → x5 ≡ y5 → x6 ≡ y6 → x7 ≡ y7 → x8 ≡ y8 → x9 ≡ y9
    → x10 ≡ y10 → x11 ≡ y11 → x12 ≡ y12 → x13 ≡ y13 → x14 ≡ y14 → x15 ≡ y15
    → ◌≡◌ {A = List ℕ} (x0 ∷ x1 ∷ x2 ∷ x3 ∷ x4 ∷ x5 ∷ x6 ∷ x7 ∷ x8 ∷ x9 ∷ x10 ∷ x11 ∷ x12 ∷ x13 ∷ x14 ∷ x15 ∷ [])
    (y0 ∷ y1 ∷ y2 ∷ y3 ∷ y4 ∷ y5 ∷ y6 ∷ y7 ∷ y8 ∷ y9 ∷ y10 ∷ y11 ∷ y12 ∷ y13 ∷ y14 ∷ y15 ∷ [])
same_16 h0 h1 h2 h3 h4 h5 h6 h7 h8 h9 h10 h11 h12 h13 h14 h15 = cc

-- the 16 bytes from place a on
pub part_long : (xs : List ℕ) (a : ℕ) → a + 16 ≤ length xs → length (take (a + 16 - a) (drop a xs)) ≡ 16
part_long xs a fits =
    let long = length-drop a xs in
    length-take-le (a + 16 - a) (drop a xs) (omega (arith, long)) ∙ omega arith

-- a byte that is right wherever it lies, after a block of right bytes was written over those from place a on
pub block_written : (now new : List ℕ) (f : ℕ → ℕ) (a i : ℕ) → a ≤ length now → length new ≡ 16
    → ((k : ℕ) → k < 16 → get_or new k 0 ≡ f (a + k)) → (i < a → get_or now i 0 ≡ f i) → (a + 16 ≤ i → get_or now i 0 ≡ f i)
    → get_or (take a now ++ (new ++ drop (a + 16 - a) (drop a now))) i 0 ≡ f i
block_written now new f a i fits long block before after =
    let rest = drop (a + 16 - a) (drop a now) in
    let front = length-take-le a now fits in
    elim (cases_lt i a) [
      | inl low ↦ get_or_append_left (take a now) (new ++ rest) 0 i (omega (arith, front)) ∙ get_or-take a now i 0 low ∙ before low
      | inr high ↦
          get_or-append_right (take a now) (new ++ rest) a i 0 front high
          ∙ elim (cases_lt (i - a) 16) [
            | inl within ↦
                let place : a + (i - a) ≡ i = omega arith in
                get_or_append_left new rest 0 (i - a) (omega (arith, long)) ∙ block (i - a) within ∙ ap f place
            | inr past ↦
                let place : a + (a + 16 - a + (i - a - 16)) ≡ i = omega arith in
                get_or-append_right new rest 16 (i - a) 0 long past
                ∙ get_or-drop (a + 16 - a) (drop a now) (i - a - 16) 0
                ∙ get_or-drop a now (a + 16 - a + (i - a - 16)) 0
                ∙ ap (λ (k : ℕ). get_or now k 0) place ∙ after (omega arith)
          ]
    ]
