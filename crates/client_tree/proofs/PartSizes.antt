-- How many bytes a file in parts has.
use Rattle.std.proofs.Common.{◌≡◌, ℕ, zero, suc, ◌+◌, ◌-◌, ◌*◌, ◌<◌, ◌≤◌, min, get_or, List, [], ◌∷◌, ◌++◌, length, Some, None, refl, sym, ap, ◌∙◌, subst, arith, length-append}
use Rattle.std.specs.List.{concat}
use Rattle.caps.specs.declared.cap.Cap.{Cap}
use Rattle.caps.specs.declared.cap.Cap.TheVariants.{Chk, Lit, DirChk, DirLit, ChkVerify, DirChkVerify}
use Rattle.dir_codec.specs.declared.entry.Entry.{Entry}
use Rattle.cap_binding.specs.Binds.{AreFileOf}
use Rattle.client_tree.specs.Parts.{part_bytes, size_of_file, size_of_last, ArePartsFrom, AreParts, AreFilesOf, caps_of}

-- the last of some parts has what the others leave of the bytes
pub record HasLast (left : ℕ) (entries : List Entry) : Type 0 where
  pub last : ℕ
  pub last_is : size_of_last entries ≡ Some last
  pub some : 0 < last
  pub short : last ≤ part_bytes
  pub left_is : left + part_bytes ≡ length entries * part_bytes + last

last_of : (count size place left : ℕ) (entry : Entry) (more : List Entry) → ArePartsFrom count size place left (entry ∷ more) → HasLast left (entry ∷ more)
last_of count size place left entry [] (is, none) =
    let some : 0 < left = is.some in
    let whole : left - part_bytes ≡ 0 = none in
    record { last = min left part_bytes; last_is = is.size_is; some = omega arith; short = omega arith; left_is = omega arith }
last_of count size place left entry (other ∷ more) (is, rest) =
    let l = last_of count size (place + 1) (left - part_bytes) other more rest in
    let some : 0 < left - part_bytes = rest.0.some in
    let left_is : (left - part_bytes) + part_bytes ≡ length (other ∷ more) * part_bytes + l.last = l.left_is in
    record { last = l.last; last_is = l.last_is; some = l.some; short = l.short; left_is = omega arith }

pub last_known : (size : ℕ) (entries : List Entry) → AreParts size entries → HasLast size entries
last_known size [] are =
    let long : part_bytes < size = are.long in
    let none : size ≡ 0 = are.parts in
    absurd (omega arith)
last_known size (entry ∷ more) are = last_of (length (entry ∷ more)) size 0 size entry more are.parts

-- where the last is of no file there are no such parts
pub no_last : (entries : List Entry) → size_of_last entries ≡ None → (size : ℕ) → AreParts size entries → ⊥
no_last entries none size are =
    let known = last_known size entries are in
    let clash : Some known.last ≡ None = sym known.last_is ∙ none in
    (cc)

-- where there is a last, there is one
pub some_entries : (entries : List Entry) (last : ℕ) → size_of_last entries ≡ Some last → 0 < length entries
some_entries [] last e = absurd (cc)
some_entries (entry ∷ more) last e = omega arith

-- the last fixes the size
pub size_fixed : (entries : List Entry) (last : ℕ) → size_of_last entries ≡ Some last → (size : ℕ) → AreParts size entries
    → (last ≤ part_bytes) × (size + part_bytes ≡ length entries * part_bytes + last)
size_fixed entries last is size are =
    let known = last_known size entries are in
    let same : known.last ≡ last = (let both : Some known.last ≡ Some last = sym known.last_is ∙ is in (cc)) in
    (subst (λ (n : ℕ). n ≤ part_bytes) same known.short, subst (λ (n : ℕ). size + part_bytes ≡ length entries * part_bytes + n) same known.left_is)

-- a file has as many bytes as its cap says
pub has_size : (cap : Cap) (bytes : List ℕ) → AreFileOf cap bytes → size_of_file cap ≡ Some (length bytes)
has_size (Chk f) bytes is = ap Some (sym (ap (λ g. g.size) is.same))
has_size (Lit own) bytes is = ap (λ (bs : List ℕ). Some (length bs)) (sym is)
has_size (DirChk f) bytes is = absurd is
has_size (DirLit own) bytes is = absurd is
has_size (ChkVerify f) bytes is = absurd is
has_size (DirChkVerify f) bytes is = absurd is

-- the pieces of parts have as many bytes as are left
pub pieces_have : (count size place left : ℕ) (entries : List Entry) (pieces : List (List ℕ))
    → ArePartsFrom count size place left entries → AreFilesOf (caps_of entries) pieces → length (concat pieces) ≡ left
pieces_have count size place left [] [] none bound = sym none
pieces_have count size place left [] (piece ∷ pieces) none bound = absurd bound
pieces_have count size place left (entry ∷ more) [] parts bound = absurd bound
pieces_have count size place left (entry ∷ more) (piece ∷ pieces) parts bound =
    let behind : length (concat pieces) ≡ left - part_bytes = pieces_have count size (place + 1) (left - part_bytes) more pieces parts.1 bound.1 in
    let both : Some (length piece) ≡ Some (min left part_bytes) = sym (has_size entry.cap piece bound.0) ∙ parts.0.size_is in
    let own : length piece ≡ min left part_bytes = cc in
    let all : length (piece ++ concat pieces) ≡ length piece + length (concat pieces) = length-append piece (concat pieces) in
    omega arith

-- the same of all of them
pub all_pieces_have : (size : ℕ) (entries : List Entry) (pieces : List (List ℕ)) → AreParts size entries → AreFilesOf (caps_of entries) pieces → length (concat pieces) ≡ size
all_pieces_have size entries pieces are bound = pieces_have (length entries) size 0 size entries pieces are.parts bound

-- the size of the last, by its place
pub size_at_end : (entries : List Entry) (d : Entry) (i : ℕ) → length entries ≡ i + 1 → size_of_last entries ≡ size_of_file (get_or entries i d).cap
size_at_end [] d i e = absurd (omega arith)
size_at_end (entry ∷ []) d zero e = refl
size_at_end (entry ∷ []) d (suc i) e = absurd (omega arith)
size_at_end (entry ∷ other ∷ more) d zero e = absurd (omega arith)
size_at_end (entry ∷ other ∷ more) d (suc i) e = size_at_end (other ∷ more) d i (omega arith)
