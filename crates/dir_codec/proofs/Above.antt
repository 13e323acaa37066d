-- Entries in rising order, and one more after them.
use Rattle.std.proofs.Common.{◌≡◌, ℕ, zero, suc, List, [], ◌∷◌, ◌++◌, length, get_or, refl, sym, subst, arith}
use Rattle.dir_codec.specs.Names.{IsAbove}
use Rattle.dir_codec.specs.Entries.{last_name, IsEntry, AreEntriesAbove}
use Rattle.dir_codec.specs.declared.entry.Entry.{Entry}

pub last_of_more : (name : List ℕ) (entries : List Entry) (entry : Entry) → last_name name (entries ++ entry ∷ []) ≡ entry.name
last_of_more name [] entry = refl
last_of_more name (first ∷ more) entry = last_of_more first.name more entry

pub last_is : (name : List ℕ) (entries : List Entry) (at : ℕ) (d : Entry) → suc at ≡ length entries → last_name name entries ≡ (get_or entries at d).name
last_is name [] at d is = absurd (omega arith)
last_is name (entry ∷ []) zero d is = refl
last_is name (entry ∷ []) (suc at) d is = absurd (omega arith)
last_is name (entry ∷ second ∷ more) zero d is = absurd (omega arith)
last_is name (entry ∷ second ∷ more) (suc at) d is = last_is entry.name (second ∷ more) at d (omega arith)

pub one_more_above : (name last : List ℕ) (entries : List Entry) (entry : Entry) → AreEntriesAbove name entries → last_name name entries ≡ last → IsAbove entry.name last → IsEntry entry → AreEntriesAbove name (entries ++ entry ∷ [])
one_more_above name last [] entry all is above kept = (subst (IsAbove entry.name) (sym is) above, kept, tt)
one_more_above name last (first ∷ more) entry all is above kept = (all.0, all.1, one_more_above first.name last more entry all.2 is above kept)
