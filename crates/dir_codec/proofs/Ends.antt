-- What stands behind an entry is a text by itself.
use Rattle.std.proofs.Common.{◌≡◌, ◌==◌, ℕ, Bool, true, false, cond, List, [], ◌∷◌, length, Option, Some, None, Result, Ok, Err, nat_cmp, refl, sym, ap, ◌∙◌, arith}
use Rattle.std.specs.Ordering.{is_lt}
use Rattle.std.specs.Cmp.Lexicographic.{slice_cmp}
use Rattle.dir_codec.specs.Names.{is_name}
use Rattle.dir_codec.specs.Parts.{EntryTexts, first_entry}
use Rattle.dir_codec.specs.Reading.{with_cap, child_reading, entry_reading, then_more, from_texts, reading_after}
use Rattle.dir_codec.specs.declared.entry.Entry.{Entry}
use Rattle.dir_codec.specs.declared.fault.DirFault.{DirFault}
use Rattle.dir_codec.specs.declared.fault.DirFault.TheVariants.{NotSorted, BadName}
use Rattle.dir_codec.proofs.Names.{name_above}
use Rattle.dir_codec.proofs.Belong.{not_zero}
use Rattle.dir_codec.proofs.Steps.{NothingElse, read_first}

either_way : (named above first : Bool) (r : Result Entry DirFault) (entry : Entry) → (named ≡ true → first ≡ true)
    → cond named (cond above r (Err NotSorted)) (Err BadName) ≡ Ok entry → cond named (cond first r (Err NotSorted)) (Err BadName) ≡ Ok entry
either_way true true true r entry some is = is
either_way true true false r entry some is = absurd (let h : false ≡ true = some refl in cc)
either_way true false first r entry some is = absurd cc
either_way false above first r entry some is = absurd cc

entry_alone : (last : List ℕ) (texts : EntryTexts) (entry : Entry) → entry_reading last texts ≡ Ok entry → entry_reading [] texts ≡ Ok entry
entry_alone last texts entry is =
    either_way (is_name texts.name) (is_lt (slice_cmp nat_cmp last texts.name)) (is_lt (slice_cmp nat_cmp [] texts.name)) (with_cap texts (child_reading texts.cap)) entry
    (λ named. ap is_lt (name_above texts.name named)) is

then_alone : (rest : List ℕ) (entries : List Entry) (r other : Result Entry DirFault) → ((entry : Entry) → r ≡ Ok entry → other ≡ Ok entry)
    → then_more reading_after rest r ≡ Ok entries → then_more reading_after rest other ≡ Ok entries
then_alone rest entries (Ok entry) other same is = rw (same entry refl) is
then_alone rest entries (Err fault) other same is = absurd cc

from_alone : (last : List ℕ) (entries : List Entry) (o : Option (EntryTexts × List ℕ)) → from_texts reading_after last o ≡ Ok entries → from_texts reading_after [] o ≡ Ok entries
from_alone last entries (Some found) is = then_alone found.1 entries (entry_reading last found.0) (entry_reading [] found.0) (entry_alone last found.0) is
from_alone last entries None is = absurd cc

none_alone : (last : List ℕ) (entries : List Entry) → reading_after last [] ≡ Ok entries → reading_after [] [] ≡ Ok entries
unfolding reading_after
none_alone last entries is = is

-- with the same entries
pub read_alone : NothingElse → (last text : List ℕ) (entries : List Entry) → reading_after last text ≡ Ok entries → reading_after [] text ≡ Ok entries
read_alone law last [] entries is = none_alone last entries is
read_alone law last (b ∷ bs) entries is =
    let some : (length (b ∷ bs) == 0) ≡ false = not_zero (length (b ∷ bs)) (omega arith) in
    read_first law [] (b ∷ bs) some ∙ from_alone last entries (first_entry (b ∷ bs)) (sym (read_first law last (b ∷ bs) some) ∙ is)
