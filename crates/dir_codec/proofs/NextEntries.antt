-- The next entry that a finder reads.
use Rattle.std.proofs.Common.{◌≡◌, ◌==◌, ℕ, ◌+◌, ◌-◌, ◌<◌, Bool, true, false, List, [], length, drop, Option, Some, None, is_some, Result, Ok, Err, if◌then◌else◌, refl, sym, ap, ◌∙◌, subst, arith, length-drop}
use Rattle.std.proofs.lemmas.List.{drop-drop}
use Rattle.std.specs.Bool.{then_some}
use Rattle.std.specs.Option.{option_or}
use Rattle.std.specs.Prelude.{bytes_eq}
use Rattle.std.specs.Ordering.{nat_cmp, is_lt}
use Rattle.std.specs.Cmp.Lexicographic.{slice_cmp}
use Rattle.caps.specs.declared.cap.Cap.{Cap}
use Rattle.json_spelling.specs.Judging.{IsJudging, IsJudgedSoFar, IsJudgedOn}
use Rattle.json_spelling.specs.Metadata.{spelling_of}
use Rattle.dir_codec.specs.Names.{is_name}
use Rattle.dir_codec.specs.Parts.{EntryTexts, first_entry}
use Rattle.dir_codec.specs.Reading.{child_reading, with_metadata, with_cap, entry_reading, before_more, reading_after}
use Rattle.dir_codec.specs.Sought.{sought_in, metadata_of_entry, IsFinding}
use Rattle.dir_codec.specs.declared.entry.Entry.{Entry}
use Rattle.dir_codec.specs.declared.fault.DirFault.{DirFault}
use Rattle.dir_codec.specs.declared.fault.DirFault.TheVariants.{Torn, NotSorted, BadName, WriteCap, BadMetadata}
use Rattle.dir_codec.specs.declared.finder.Finder.{Finder}
use Rattle.dir_codec.specs.declared.finder.Sought.TheVariants.{NoDirectory}
use Rattle.json_spelling.specs.declared.judging.Judged.{Judged}
use Rattle.json_spelling.specs.declared.judging.Judging.{Judging}
use Rattle.dir_codec.proofs.Belong.{not_zero}
use Rattle.dir_codec.proofs.EntrySizes.{metadata_sizes, metadata_within}
use Rattle.dir_codec.proofs.SoughtNames.{one_more_read, more_judged, fault_read}
use Rattle.dir_codec.proofs.Steps.{NothingElse, entry_rest, read_torn, read_fault, read_entry}

-- ---- an entry whose metadata are none

metadata_fault : (name : List ℕ) (cap : Cap) (o : Option (List ℕ)) → false ≡ is_some o → with_metadata name cap o ≡ Err BadMetadata
metadata_fault name cap None is = refl
metadata_fault name cap (Some metadata) is = absurd cc

if_empty : (b : Bool) (r : Result Entry DirFault) → r ≡ Err BadMetadata → (fault : DirFault) × ((if b then r else Err WriteCap) ≡ Err fault)
if_empty true r is = (BadMetadata, is)
if_empty false r is = (WriteCap, refl)

cap_fault : (texts : EntryTexts) (r : Result Cap DirFault) → false ≡ is_some (spelling_of texts.metadata) → (fault : DirFault) × (with_cap texts r ≡ Err fault)
cap_fault texts (Ok cap) none = if_empty (length texts.write == 0) (with_metadata texts.name cap (spelling_of texts.metadata)) (metadata_fault texts.name cap (spelling_of texts.metadata) none)
cap_fault texts (Err fault) none = (fault, refl)

if_sorted : (named sorted : Bool) (r : Result Entry DirFault) → (fault : DirFault) × (r ≡ Err fault) → (fault : DirFault) × ((if named then (if sorted then r else Err NotSorted) else Err BadName) ≡ Err fault)
if_sorted true true r is = is
if_sorted true false r is = (NotSorted, refl)
if_sorted false sorted r is = (BadName, refl)

entry_fault : (last : List ℕ) (texts : EntryTexts) → false ≡ is_some (spelling_of texts.metadata) → (fault : DirFault) × (entry_reading last texts ≡ Err fault)
entry_fault last texts none =
    if_sorted (is_name texts.name) (is_lt (slice_cmp nat_cmp last texts.name)) (with_cap texts (child_reading texts.cap)) (cap_fault texts (child_reading texts.cap) none)

-- ---- an entry whose metadata are some

abbrev text_or : Option (List ℕ) → List ℕ
text_or (Some text) = text
text_or None = []

named_read : (name : List ℕ) (cap : Cap) (o : Option (List ℕ)) → true ≡ is_some o → with_metadata name cap o ≡ Ok (record { name = name; cap = cap; metadata = text_or o })
named_read name cap (Some metadata) is = refl
named_read name cap None is = absurd cc

-- ---- at the next entry

module _ (law : NothingElse) (name text : List ℕ) (finder : Finder) (so : IsFinding name text finder) (some : finder.at < length text) where
  left : (length (drop finder.at text) == 0) ≡ false
  left = not_zero (length (drop finder.at text)) (omega (arith, length-drop finder.at text))

  pub torn_sought : first_entry (drop finder.at text) ≡ None → NoDirectory ≡ sought_in name text
  torn_sought none = fault_read name text finder Torn so (read_torn law finder.last (drop finder.at text) left none)

  module _ (texts : EntryTexts) (more : List ℕ) (is : first_entry (drop finder.at text) ≡ Some (texts, more)) where
    pub fault_sought : (fault : DirFault) → entry_reading finder.last texts ≡ Err fault → NoDirectory ≡ sought_in name text
    fault_sought fault bad = fault_read name text finder fault so (read_fault law finder.last (drop finder.at text) texts more fault left is bad)

    -- so far its metadata were judged
    metadata_judged : IsJudgedSoFar texts.metadata finder.judging
    metadata_judged = subst (λ o. IsJudgedSoFar (metadata_of_entry o) finder.judging) is so.judging

    pub none_sought : (judged : Judged) → judged ≡ Judged.Done false → (IsJudgedSoFar texts.metadata finder.judging → IsJudgedOn texts.metadata judged) → NoDirectory ≡ sought_in name text
    none_sought judged is goes =
        let fault = entry_fault finder.last texts (subst (IsJudgedOn texts.metadata) is (goes metadata_judged)) in
        fault_sought fault.0 fault.1

    pub judged_on : (next : Finder) (judging : Judging) (judged : Judged) → judged ≡ Judged.More judging → (IsJudgedSoFar texts.metadata finder.judging → IsJudgedOn texts.metadata judged)
        → next.name ≡ finder.name → next.last ≡ finder.last → next.at ≡ finder.at → next.found ≡ finder.found → next.judging ≡ Some judging → IsFinding name text next
    judged_on next judging judged more goes named last at found now =
        let there : IsJudging texts.metadata judging = subst (IsJudgedOn texts.metadata) more (goes metadata_judged) in
        more_judged name text finder next judging so named last at found now (subst (λ o. IsJudging (metadata_of_entry o) judging) (sym is) there) (metadata_within law (drop finder.at text))

    -- what follows it stands behind that place
    more_there : more ≡ drop (length text - length more) text
    more_there =
        let sizes = metadata_sizes law (drop finder.at text) (texts, more) is in
        let place : finder.at + (length (drop finder.at text) - length more) ≡ length text - length more = omega (arith, length-drop finder.at text) in
        entry_rest law (drop finder.at text) (texts, more) is ∙ drop-drop (length (drop finder.at text) - length more) finder.at text ∙ ap (λ n. drop n text) place

    pub entry_sought : (next : Finder) (judged : Judged) (read : List ℕ) (cap : Cap) → judged ≡ Judged.Done true → (IsJudgedSoFar texts.metadata finder.judging → IsJudgedOn texts.metadata judged)
        → entry_reading finder.last texts ≡ with_metadata read cap (spelling_of texts.metadata) → next.name ≡ finder.name → next.last ≡ read → next.at ≡ length text - length more
        → next.judging ≡ None → next.found ≡ option_or finder.found (then_some (bytes_eq read finder.name) cap) → IsFinding name text next
    entry_sought next judged read cap all goes reading named last at judging found =
        let spelling = spelling_of texts.metadata in
        let entry : Entry = record { name = read; cap = cap; metadata = text_or spelling } in
        let good = named_read read cap spelling (subst (IsJudgedOn texts.metadata) all (goes metadata_judged)) in
        let first = read_entry law finder.last (drop finder.at text) texts more entry left is (reading ∙ good) in
        let behind : more ≡ drop next.at text = more_there ∙ ap (λ n. drop n text) (sym at) in
        one_more_read name text finder next entry so (first ∙ ap (λ bytes. before_more entry (reading_after read bytes)) behind) named last judging (omega (arith, at)) found
