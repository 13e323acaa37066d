-- Entries that are found by their names.
use Rattle.std.proofs.Common.{◌≡◌, ℕ, zero, suc, ◌<◌, false, List, [], ◌∷◌, length, get_or, Some, Ok, refl, sym, ap, ◌∙◌, arith}
use Rattle.std.specs.Prelude.{Contains, bytes_eq, option_map}
use Rattle.std.specs.Ordering.{nat_cmp, is_eq}
use Rattle.std.specs.Cmp.Lexicographic.{slice_cmp}
use Rattle.std.specs.declared.cmp.Ordering.TheVariants.{Less}
use Rattle.std.proofs.lemmas.Cmp.{nat_list_cmp_total}
use Rattle.std.proofs.lemmas.Map.Text.{is_eq-slice_cmp}
use Rattle.std.proofs.lemmas.Slice.Eq.{bytes_eq-Decides}
use Rattle.caps.specs.declared.cap.Cap.{Cap}
use Rattle.dir_codec.specs.DirectoryText.{IsTextAbove, IsDirectoryText}
use Rattle.dir_codec.specs.Reading.{directory_reading}
use Rattle.dir_codec.specs.Find.{child_named}
use Rattle.dir_codec.specs.declared.entry.Entry.{Entry}
use Rattle.client_core.specs.Way.{IsDirectoryOf, IsChildOf}

-- what the law of texts says
abbrev pub Read : Type 0
Read = (entries : List Entry) (text : List ℕ) → directory_reading text ≡ Ok entries → IsDirectoryText entries text

-- each entry is above what is below all of them
above_at : (name : List ℕ) (entries : List Entry) (text : List ℕ) (i : ℕ) (d : Entry) → IsTextAbove name entries text → i < length entries → slice_cmp nat_cmp name (get_or entries i d).name ≡ Less
above_at name [] text i d all within = absurd (omega arith)
above_at name (entry ∷ more) text zero d all within = all.3
above_at name (entry ∷ more) text (suc i) d all within = nat_list_cmp_total.trans name entry.name _ all.3 (above_at entry.name more all.1 i d all.5 (omega arith))

found_at : (low : List ℕ) (entries : List Entry) (text : List ℕ) (i : ℕ) (d : Entry) → IsTextAbove low entries text → i < length entries
    → child_named (get_or entries i d).name entries ≡ Some (get_or entries i d)
unfolding child_named
found_at low [] text i d all within = absurd (omega arith)
found_at low (entry ∷ more) text zero d all within = rw ((bytes_eq-Decides entry.name entry.name).1 refl) refl
found_at low (entry ∷ more) text (suc i) d all within =
    let other : bytes_eq entry.name (get_or more i d).name ≡ false =
    sym (is_eq-slice_cmp entry.name (get_or more i d).name) ∙ ap is_eq (above_at entry.name more all.1 i d all.5 (omega arith)) in
    rw other (found_at entry.name more all.1 i d all.5 (omega arith))

-- an entry of a directory is found by its name
pub child_found : Read → (cap : Cap) (entries : List Entry) (entry : Entry) → IsDirectoryOf cap entries → Contains entries entry → IsChildOf cap entry.name entry.cap
child_found read cap entries entry of_cap (i, below, is) =
    let found : child_named entry.name entries ≡ Some entry =
    ap (λ (e : Entry). child_named e.name entries) (sym is) ∙ found_at [] entries of_cap.text i entry (read entries of_cap.text of_cap.read) below ∙ ap Some is in
    record { entries = entries; of_cap = of_cap; found = ap (option_map (λ (e : Entry). e.cap)) found }
