-- Member cuts in the parts of a text.
use Rattle.std.proofs.Common.{◌≡◌, ℕ, suc, ◌+◌, ◌-◌, ◌≤◌, Bool, true, false, cond, ◌==◌, List, [], ◌∷◌, ◌++◌, length, take, drop, get_or, ◌↔◌, refl, sym, ap, ◌∙◌, subst, arith, drop-drop}
use Rattle.std.proofs.lemmas.List.{take-append-drop, length-take-le, take_more}
use Rattle.std.proofs.Math.Seq.{take-append-add}
use Rattle.json.specs.Lex.{Mode, between, class}
use Rattle.json_seams.specs.Modes.{next_mode, mode_after, is_outside}
use Rattle.json_seams.specs.Cuts.{IsCutFrom}
use Rattle.json_members.specs.Brackets.{depth_behind, next_depth, bracket_depth}
use Rattle.json_members.specs.MemberCuts.{IsMemberCutFrom, IsMemberCut, back_object}

pub depths : (mode : Mode) (depth : ℕ) (before bytes : List ℕ)
    → bracket_depth mode depth (before ++ bytes) ≡ bracket_depth (mode_after mode before) (bracket_depth mode depth before) bytes
unfolding bracket_depth
depths mode depth [] bytes = refl
depths mode depth (x ∷ before) bytes = depths (next_mode mode (class x)) (next_depth mode depth x) before bytes

pub one_byte : (mode : Mode) (n x : ℕ) → bracket_depth mode n (x ∷ []) ≡ next_depth mode n x
unfolding bracket_depth
one_byte mode n x = refl

-- ---- a byte opens one bracket at most

choice_bounded : (a b c d : Bool) (n : ℕ) → cond a (suc n) (cond b (n - 1) (cond c (suc n) (cond d (n - 1) n))) ≤ suc n
choice_bounded true b c d n = omega arith
choice_bounded false true c d n = omega arith
choice_bounded false false true d n = omega arith
choice_bounded false false false true n = omega arith
choice_bounded false false false false n = omega arith

outside_bounded : (b : Bool) (m n : ℕ) → m ≤ suc n → cond b m n ≤ suc n
outside_bounded true m n h = h
outside_bounded false m n h = omega arith

next_bounded : (mode : Mode) (n x : ℕ) → next_depth mode n x ≤ suc n
next_bounded mode n x = outside_bounded (is_outside mode) (depth_behind n x) n (choice_bounded (x == 123) (x == 125) (x == 91) (x == 93) n)

pub bounded : (mode : Mode) (depth : ℕ) (bytes : List ℕ) → bracket_depth mode depth bytes ≤ depth + length bytes
unfolding bracket_depth
bounded mode depth [] = omega arith
bounded mode depth (x ∷ bytes) = omega (arith, bounded (next_mode mode (class x)) (next_depth mode depth x) bytes, next_bounded mode depth x)

-- ---- what is used of the seams
pub record SeamLaws : Type 0 where
  pub places : (mode : Mode) (before bytes : List ℕ) (at : ℕ) → IsCutFrom (mode_after mode before) bytes at ↔ IsCutFrom mode (before ++ bytes) (length before + at)
  pub fresh : (mode : Mode) (text : List ℕ) (at : ℕ) → IsCutFrom mode text at → mode_after mode (take (at + 1) text) ≡ between

module _ (laws : SeamLaws) where
  behind : (mode : Mode) (depth : ℕ) (before bytes : List ℕ) (at : ℕ)
      → bracket_depth mode depth (take (length before + at) (before ++ bytes)) ≡ bracket_depth (mode_after mode before) (bracket_depth mode depth before) (take at bytes)
  behind mode depth before bytes at = ap (bracket_depth mode depth) (take-append-add before bytes at) ∙ depths mode depth before (take at bytes)

  pub places : (mode : Mode) (depth : ℕ) (before bytes : List ℕ) (at : ℕ)
      → IsMemberCutFrom (mode_after mode before) (bracket_depth mode depth before) bytes at ↔ IsMemberCutFrom mode depth (before ++ bytes) (length before + at)
  places mode depth before bytes at = (
    λ is. record { comma = (laws.places mode before bytes at).0 is.comma; outermost = behind mode depth before bytes at ∙ is.outermost },
    λ is. record { comma = (laws.places mode before bytes at).1 is.comma; outermost = sym (behind mode depth before bytes at) ∙ is.outermost },
  )

  -- ---- the cuts behind a cut

  comma_depth : (mode : Mode) (n x : ℕ) → x ≡ 44 → next_depth mode n x ≡ n
  comma_depth mode n x e = ap (next_depth mode n) e ∙ go (is_outside mode)
    where
      go : (b : Bool) → cond b n n ≡ n
      go true = refl
      go false = refl

  both : (p q r : Type 0) → p ↔ q → p ↔ r → q ↔ r
  both p q r f g = (λ x. g.0 (f.1 x), λ x. f.0 (g.1 x))

  -- behind a member cut one bracket is open
  still_one : (text : List ℕ) (at : ℕ) → IsMemberCut text at → bracket_depth between 0 (take (at + 1) text) ≡ 1
  still_one text at is =
      let front = take at text in
      let x = get_or text at 0 in
      ap (bracket_depth between 0) (take_more text at 0 is.comma.within)
      ∙ depths between 0 front (x ∷ [])
      ∙ one_byte (mode_after between front) (bracket_depth between 0 front) x
      ∙ comma_depth (mode_after between front) (bracket_depth between 0 front) x is.comma.comma
      ∙ is.outermost

  abbrev InRest : List ℕ → ℕ → Type 0
  InRest rest place = IsMemberCutFrom between 1 rest place

  in_whole : (text : List ℕ) (at place : ℕ) → IsMemberCut text at → InRest (drop (at + 1) text) place ↔ IsMemberCut text (at + 1 + place)
  in_whole text at place is =
      let front = take (at + 1) text in
      let rest = drop (at + 1) text in
      let within = is.comma.within in
      let long : length front + place ≡ at + 1 + place = ap (λ n. n + place) (length-take-le (at + 1) text (omega arith)) in
      subst (λ t. InRest rest place ↔ IsMemberCut t (at + 1 + place)) (take-append-drop (at + 1) text)
      (subst (λ n. InRest rest place ↔ IsMemberCut (front ++ rest) n) long
      (subst (λ n. IsMemberCutFrom between n rest place ↔ IsMemberCut (front ++ rest) (length front + place)) (still_one text at is)
      (subst (λ m. IsMemberCutFrom m (bracket_depth between 0 front) rest place ↔ IsMemberCut (front ++ rest) (length front + place)) (laws.fresh between text at is.comma)
      (places between 0 front rest place))))

  in_back : (rest : List ℕ) (place : ℕ) → InRest rest place ↔ IsMemberCut (123 ∷ rest) (place + 1)
  in_back rest place =
      let long : 1 + place ≡ place + 1 = omega arith in
      subst (λ n. InRest rest place ↔ IsMemberCut (123 ∷ rest) n) long
      (subst (λ n. IsMemberCutFrom between n rest place ↔ IsMemberCut (123 ∷ rest) (1 + place)) (one_byte between 0 123) (places between 0 (123 ∷ []) rest place))

  pub cuts_behind : (text : List ℕ) (at place : ℕ) → IsMemberCut text at → IsMemberCut (back_object text at) (place + 1) ↔ IsMemberCut text (at + 1 + place)
  cuts_behind text at place is = both _ _ _ (in_back (drop (at + 1) text) place) (in_whole text at place is)

pub back_behind : (text : List ℕ) (at place : ℕ) → back_object (back_object text at) (place + 1) ≡ back_object text (at + 1 + place)
back_behind text at place =
    let rest = drop (at + 1) text in
    let more : place + 1 + 1 ≡ suc (place + 1) = omega arith in
    let sum : at + 1 + (place + 1) ≡ at + 1 + place + 1 = omega arith in
    ap (λ t. 123 ∷ t) (ap (λ n. drop n (123 ∷ rest)) more ∙ drop-drop (place + 1) (at + 1) text ∙ ap (λ n. drop n text) sum)
