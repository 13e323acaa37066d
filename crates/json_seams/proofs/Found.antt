-- Commas outside strings, in a part of a text.
use Rattle.std.proofs.Common.{◌≡◌, ℕ, ◌+◌, ◌<◌, ◌≤◌, List, ◌++◌, Option, Some, None, ◌⊎◌, inl, inr, ◌↔◌, length, take, sym, ap, ◌∙◌, subst, arith, length-append}
use Rattle.std.proofs.lemmas.Bool.{cases_eq}
use Rattle.std.proofs.lemmas.List.{length-take-le, get_or-take, take-take, get_or-append-add}
use Rattle.std.proofs.lemmas.List.Sums.{fold-append}
use Rattle.std.proofs.Math.Seq.{take-append-add}
use Rattle.json.specs.Lex.{Mode, class}
use Rattle.json_seams.specs.Modes.{next_mode, mode_after, is_outside}
use Rattle.json_seams.specs.Cuts.{IsCutFrom, IsLastCut}

-- ---- in the first bytes of a text

in_front : (mode : Mode) (text : List ℕ) (n at : ℕ) → n ≤ length text → at < n → IsCutFrom mode text at → IsCutFrom mode (take n text) at
in_front mode text n at within before is = record {
  within = omega (arith, length-take-le n text within);
  comma = get_or-take n text at 0 before ∙ is.comma;
  outside = ap (λ t. is_outside (mode_after mode t)) (take-take at n text (omega arith)) ∙ is.outside;
}

record IsWhole (mode : Mode) (text : List ℕ) (n at : ℕ) : Type 0 where
  before : at < n
  is : IsCutFrom mode text at

in_whole : (mode : Mode) (text : List ℕ) (n at : ℕ) → n ≤ length text → IsCutFrom mode (take n text) at → IsWhole mode text n at
in_whole mode text n at within is =
    let size = length-take-le n text within in
    let found = is.within in
    let before : at < n = omega arith in
    record {
      before = before;
      is = record {
        within = omega arith;
        comma = sym (get_or-take n text at 0 before) ∙ is.comma;
        outside = ap (λ t. is_outside (mode_after mode t)) (sym (take-take at n text (omega arith))) ∙ is.outside;
      };
    }

-- a comma outside strings is the last one behind itself
pub found_here : (mode : Mode) (text : List ℕ) (at : ℕ) → IsCutFrom mode text at → IsLastCut mode (take (at + 1) text) (Some at)
found_here mode text at is =
    let within = is.within in (
      in_front mode text (at + 1) at (omega arith) (omega arith) is,
      λ later past other. let found = (in_whole mode text (at + 1) later (omega arith) other).before in let never : ⊥ = omega arith in never,
    )

still : (mode : Mode) (text : List ℕ) (i at : ℕ) → i < length text → (IsCutFrom mode text i → ⊥) → IsCutFrom mode (take (i + 1) text) at → IsCutFrom mode (take i text) at
still mode text i at within none is =
    let whole = in_whole mode text (i + 1) at (omega arith) is in
    go whole (cases_eq at i)
  where
    go : IsWhole mode text (i + 1) at → (at ≡ i) ⊎ (at ≡ i → ⊥) → IsCutFrom mode (take i text) at
    go whole (inl e) = absurd (none (subst (IsCutFrom mode text) e whole.is))
    go whole (inr e) = let before = whole.before in in_front mode text i at (omega arith) (omega arith) whole.is

-- where no comma outside strings stands, the last one stays
pub found_before : (mode : Mode) (text : List ℕ) (i : ℕ) (last : Option ℕ) → i < length text → (IsCutFrom mode text i → ⊥) → IsLastCut mode (take i text) last → IsLastCut mode (take (i + 1) text) last
found_before mode text i None within none h = λ at is. h at (still mode text i at within none is)
found_before mode text i (Some l) within none h =
    let whole = in_whole mode text i l (omega arith) h.0 in
    let before = whole.before in
    (in_front mode text (i + 1) l (omega arith) (omega arith) whole.is, λ later past is. h.1 later past (still mode text i later within none is))

-- ---- in the next bytes of a text

modes : (mode : Mode) (before bytes : List ℕ) → mode_after mode (before ++ bytes) ≡ mode_after (mode_after mode before) bytes
modes mode before bytes = fold-append (λ now byte. next_mode now (class byte)) mode before bytes

behind : (mode : Mode) (before bytes : List ℕ) (at : ℕ) → mode_after mode (take (length before + at) (before ++ bytes)) ≡ mode_after (mode_after mode before) (take at bytes)
behind mode before bytes at = ap (mode_after mode) (take-append-add before bytes at) ∙ modes mode before (take at bytes)

pub places : (mode : Mode) (before bytes : List ℕ) (at : ℕ) → IsCutFrom (mode_after mode before) bytes at ↔ IsCutFrom mode (before ++ bytes) (length before + at)
places mode before bytes at = (
  λ is.
      let within = is.within in
      record {
        within = omega (arith, length-append before bytes);
        comma = get_or-append-add before bytes at 0 ∙ is.comma;
        outside = ap is_outside (behind mode before bytes at) ∙ is.outside;
      },
  λ is.
      let within = is.within in
      record {
        within = omega (arith, length-append before bytes);
        comma = sym (get_or-append-add before bytes at 0) ∙ is.comma;
        outside = ap is_outside (sym (behind mode before bytes at)) ∙ is.outside;
      },
)
