-- Member cuts among the first bytes of a text.
use Rattle.std.proofs.Common.{◌≡◌, ℕ, ◌+◌, ◌++◌, ◌<◌, ◌≤◌, Bool, cond, List, [], ◌∷◌, Option, Some, None, ◌⊎◌, inl, inr, length, take, get_or, refl, sym, ap, ◌∙◌, subst, arith, ◌↔◌, length-append}
use Rattle.std.proofs.lemmas.Bool.{cases_eq}
use Rattle.std.proofs.lemmas.List.{length-take-le, get_or-take, take-take, take_more, take-append-le, take_all}
use Rattle.std.proofs.lemmas.List.Sums.{fold-append}
use Rattle.json.specs.Lex.{Mode, class}
use Rattle.json_seams.specs.Modes.{next_mode, mode_after, is_outside}
use Rattle.json_members.specs.Brackets.{depth_behind, next_depth, bracket_depth}
use Rattle.json_members.specs.MemberCuts.{IsMemberCutFrom, IsLastMemberCut, front_object}
use Rattle.json_members.proofs.Places.{depths, one_byte, bounded}

-- ---- one byte more

pub more_mode : (mode : Mode) (text : List ℕ) (i : ℕ) → i < length text → mode_after mode (take (i + 1) text) ≡ next_mode (mode_after mode (take i text)) (class (get_or text i 0))
more_mode mode text i within = ap (mode_after mode) (take_more text i 0 within) ∙ fold-append (λ now byte. next_mode now (class byte)) mode (take i text) (get_or text i 0 ∷ [])

pub more_depth : (mode : Mode) (depth : ℕ) (text : List ℕ) (i : ℕ) → i < length text
    → bracket_depth mode depth (take (i + 1) text) ≡ next_depth (mode_after mode (take i text)) (bracket_depth mode depth (take i text)) (get_or text i 0)
more_depth mode depth text i within =
    ap (bracket_depth mode depth) (take_more text i 0 within) ∙ depths mode depth (take i text) (get_or text i 0 ∷ [])
    ∙ one_byte (mode_after mode (take i text)) (bracket_depth mode depth (take i text)) (get_or text i 0)

pub no_depth : (mode : Mode) (depth : ℕ) (text : List ℕ) → bracket_depth mode depth (take 0 text) ≡ depth
unfolding bracket_depth
no_depth mode depth text = refl

pub within_room : (mode : Mode) (depth room : ℕ) (text : List ℕ) (i : ℕ) → i < length text → depth + length text ≤ room → bracket_depth mode depth (take i text) < room
within_room mode depth room text i within h = omega (arith, bounded mode depth (take i text), length-take-le i text (omega arith))

-- ---- the last cut

in_front : (mode : Mode) (depth : ℕ) (text : List ℕ) (n at : ℕ) → n ≤ length text → at < n → IsMemberCutFrom mode depth text at → IsMemberCutFrom mode depth (take n text) at
in_front mode depth text n at within before is = record {
  comma = record {
    within = omega (arith, length-take-le n text within);
    comma = get_or-take n text at 0 before ∙ is.comma.comma;
    outside = ap (λ t. is_outside (mode_after mode t)) (take-take at n text (omega arith)) ∙ is.comma.outside;
  };
  outermost = ap (bracket_depth mode depth) (take-take at n text (omega arith)) ∙ is.outermost;
}

record IsWhole (mode : Mode) (depth : ℕ) (text : List ℕ) (n at : ℕ) : Type 0 where
  before : at < n
  is : IsMemberCutFrom mode depth text at

in_whole : (mode : Mode) (depth : ℕ) (text : List ℕ) (n at : ℕ) → n ≤ length text → IsMemberCutFrom mode depth (take n text) at → IsWhole mode depth text n at
in_whole mode depth text n at within is =
    let size = length-take-le n text within in
    let found = is.comma.within in
    let before : at < n = omega arith in
    record {
      before = before;
      is = record {
        comma = record {
          within = omega arith;
          comma = sym (get_or-take n text at 0 before) ∙ is.comma.comma;
          outside = ap (λ t. is_outside (mode_after mode t)) (sym (take-take at n text (omega arith))) ∙ is.comma.outside;
        };
        outermost = ap (bracket_depth mode depth) (sym (take-take at n text (omega arith))) ∙ is.outermost;
      };
    }

-- a member cut is the last one behind itself
pub found_here : (mode : Mode) (depth : ℕ) (text : List ℕ) (at : ℕ) → IsMemberCutFrom mode depth text at → IsLastMemberCut mode depth (take (at + 1) text) (Some at)
found_here mode depth text at is =
    let within = is.comma.within in (
      in_front mode depth text (at + 1) at (omega arith) (omega arith) is,
      λ later past other. let found = (in_whole mode depth text (at + 1) later (omega arith) other).before in let never : ⊥ = omega arith in never,
    )

still : (mode : Mode) (depth : ℕ) (text : List ℕ) (i at : ℕ) → i < length text → (IsMemberCutFrom mode depth text i → ⊥) → IsMemberCutFrom mode depth (take (i + 1) text) at
    → IsMemberCutFrom mode depth (take i text) at
still mode depth text i at within none is =
    let whole = in_whole mode depth text (i + 1) at (omega arith) is in
    go whole (cases_eq at i)
  where
    go : IsWhole mode depth text (i + 1) at → (at ≡ i) ⊎ (at ≡ i → ⊥) → IsMemberCutFrom mode depth (take i text) at
    go whole (inl e) = absurd (none (subst (IsMemberCutFrom mode depth text) e whole.is))
    go whole (inr e) = let before = whole.before in in_front mode depth text i at (omega arith) (omega arith) whole.is

-- where no member cut stands, the last one stays
pub found_before : (mode : Mode) (depth : ℕ) (text : List ℕ) (i : ℕ) (last : Option ℕ) → i < length text → (IsMemberCutFrom mode depth text i → ⊥)
    → IsLastMemberCut mode depth (take i text) last → IsLastMemberCut mode depth (take (i + 1) text) last
found_before mode depth text i None within none h = λ at is. h at (still mode depth text i at within none is)
found_before mode depth text i (Some l) within none h =
    let whole = in_whole mode depth text i l (omega arith) h.0 in
    let before = whole.before in
    (in_front mode depth text (i + 1) l (omega arith) (omega arith) whole.is, λ later past is. h.1 later past (still mode depth text i later within none is))

pub none_found : (mode : Mode) (depth : ℕ) (text : List ℕ) → IsLastMemberCut mode depth (take 0 text) None
none_found mode depth text = λ at is. let within = is.comma.within in let never : ⊥ = omega arith in never

pub outside_depth : (mode : Mode) (n x : ℕ) (b : Bool) → is_outside mode ≡ b → next_depth mode n x ≡ cond b (depth_behind n x) n
outside_depth mode n x b e = ap (λ o. cond o (depth_behind n x) n) e

-- ---- in the first bytes of a text

whole_front : (front back : List ℕ) → take (length front) (front ++ back) ≡ front
whole_front front back = take-append-le (length front) front back (omega arith) ∙ take_all (length front) front (omega arith)

pub front_cuts : (mode : Mode) (depth : ℕ) (front back : List ℕ) (at : ℕ) → at < length front → IsMemberCutFrom mode depth front at ↔ IsMemberCutFrom mode depth (front ++ back) at
front_cuts mode depth front back at before =
    let text = front ++ back in
    let n = length front in
    let within : n ≤ length text = omega (arith, length-append front back) in (
      λ is. (in_whole mode depth text n at within (subst (λ t. IsMemberCutFrom mode depth t at) (sym (whole_front front back)) is)).is,
      λ is. subst (λ t. IsMemberCutFrom mode depth t at) (whole_front front back) (in_front mode depth text n at within before is),
    )

pub front_same : (front back : List ℕ) (at : ℕ) → at < length front → front_object (front ++ back) at ≡ front_object front at
front_same front back at before = ap (λ t. t ++ 125 ∷ []) (take-append-le at front back (omega arith))
