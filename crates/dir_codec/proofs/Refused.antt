-- Why a text is refused.
use Rattle.std.proofs.Common.{◌≡◌, ◌≢◌, inl, inr, ◌==◌, ◌^◌, ℕ, zero, suc, ◌<◌, ◌≤◌, Bool, true, false, cond, List, [], ◌∷◌, ◌++◌, length, Option, Some, None, Result, Ok, Err, refl, sym, ap, subst, ◌∙◌, arith, append_assoc}
use Rattle.std.specs.Prelude.{◌↔◌}
use Rattle.std.specs.Ordering.{nat_cmp, is_lt}
use Rattle.std.specs.Cmp.Lexicographic.{slice_cmp}
use Rattle.std.proofs.lemmas.Bool.{eqb-false}
use Rattle.caps.specs.Reading.{cap_reading}
use Rattle.caps.specs.Refusals.{RefusesCap}
use Rattle.caps.specs.declared.cap.Cap.{Cap}
use Rattle.caps.specs.declared.fault.CapFault.{CapFault}
use Rattle.caps.specs.declared.fault.CapFault.TheVariants.{UnknownKind, Mutable, BadField, BadNumber}
use Rattle.dir_codec.specs.Names.{is_name, IsAbove}
use Rattle.json_spelling.specs.Metadata.{spelling_of}
use Rattle.dir_codec.specs.Entries.{is_child_cap}
use Rattle.dir_codec.specs.Faults.{IsNoChild, text_of_entry, HasNameAndCap, HasFault, RefusesAbove}
use Rattle.dir_codec.specs.Parts.{EntryTexts, first_entry}
use Rattle.dir_codec.specs.Reading.{child_fault, child_of, child_reading, with_metadata, with_cap, entry_reading, before_more, then_more, from_texts, read_most, reading_after, directory_reading}
use Rattle.dir_codec.specs.declared.entry.Entry.{Entry}
use Rattle.dir_codec.specs.declared.fault.DirFault.{DirFault}
use Rattle.dir_codec.specs.declared.fault.DirFault.TheVariants.{Torn, NotSorted, BadName, BadCap, NotImmutable, WriteCap, BadMetadata}
use Rattle.dir_codec.proofs.Names.{less}
use Rattle.dir_codec.proofs.Steps.{NothingElse, entry_shorter}
use Rattle.dir_codec.proofs.Belong.{ReadsBack, CapsAreRead, entry_found, entry_is, child_read, no_length, was_read, read_text}

-- what is said of each text that may be a cap's
abbrev pub CapsAreDecided : Type 0
CapsAreDecided =
    CapsAreRead × ((text : List ℕ) (fault : CapFault) → fault ≢ CapFault.NoMemory → (RefusesCap fault text ↔ (cap_reading text ≡ Err fault)))
    × ((text : List ℕ) → cap_reading text ≢ Err CapFault.NoMemory)

module _ (caps : CapsAreDecided) (text : List ℕ) where
  no_cap : (fault : CapFault) → fault ≢ CapFault.NoMemory → RefusesCap fault text → child_reading text ≡ Err (child_fault fault)
  no_cap fault other why = ap child_of ((caps.1 text fault other).0 why)

  -- a text that names no child is refused for the cause
  pub no_child : (fault : DirFault) → IsNoChild fault text → child_reading text ≡ Err fault
  no_child BadCap (inl why) = no_cap UnknownKind (λ same. cc) why
  no_child BadCap (inr (inl why)) = no_cap BadField (λ same. cc) why
  no_child BadCap (inr (inr why)) = no_cap BadNumber (λ same. cc) why
  no_child NotImmutable (inl why) = no_cap Mutable (λ same. cc) why
  no_child NotImmutable (inr of) = ap child_of ((caps.0 text of.0).0 of.1) ∙ ap (λ b. cond b (Ok of.0) (Err NotImmutable)) of.2
  no_child other why = absurd why

  at_child : (cap : Cap) (b : Bool) (fault : DirFault) → cap_reading text ≡ Ok cap → is_child_cap cap ≡ b → cond b (Ok cap) (Err NotImmutable) ≡ Err fault → IsNoChild fault text
  at_child cap true fault read child is = absurd cc
  at_child cap false fault read child is =
      let same : NotImmutable ≡ fault = cc in
      subst (λ f. IsNoChild f text) same (inr (cap, (caps.0 text cap).1 read, child))

  of_cap : (fault : CapFault) → fault ≢ CapFault.NoMemory → cap_reading text ≡ Err fault → IsNoChild (child_fault fault) text
  of_cap UnknownKind other read = inl ((caps.1 text UnknownKind other).1 read)
  of_cap Mutable other read = inl ((caps.1 text Mutable other).1 read)
  of_cap BadField other read = inr (inl ((caps.1 text BadField other).1 read))
  of_cap BadNumber other read = inr (inr ((caps.1 text BadNumber other).1 read))
  of_cap CapFault.NoMemory other read = absurd (other refl)

  by_cap : (r : Result Cap CapFault) (fault : DirFault) → cap_reading text ≡ r → child_of r ≡ Err fault → IsNoChild fault text
  by_cap (Ok cap) fault read is = at_child cap (is_child_cap cap) fault read refl is
  by_cap (Err found) fault read is =
      let same : child_fault found ≡ fault = cc in
      let other : found ≢ CapFault.NoMemory = λ none. caps.2 text (read ∙ ap Err none) in
      subst (λ f. IsNoChild f text) same (of_cap found other read)

  -- and a text that is refused names no child
  pub child_refused : (fault : DirFault) → child_reading text ≡ Err fault → IsNoChild fault text
  child_refused fault is = by_cap (cap_reading text) fault refl is

-- the entry whose texts are these, and what follows it
module _ (last text more : List ℕ) (texts : EntryTexts) (fault : DirFault) (stands : text ≡ text_of_entry texts ++ more) where
  for_metadata : (cap : Cap) → HasNameAndCap last texts cap → texts.write ≡ [] → (o : Option (List ℕ)) → spelling_of texts.metadata ≡ o → with_metadata texts.name cap o ≡ Err fault → HasFault fault last text
  for_metadata cap has none (Some metadata) kept is = absurd cc
  for_metadata cap has none None kept is =
      let same : BadMetadata ≡ fault = cc in
      subst (λ f. HasFault f last text) same (texts, more, stands, (cap, has, none, kept))

  for_write : (cap : Cap) → HasNameAndCap last texts cap → (b : Bool) → (length texts.write == 0) ≡ b → cond b (with_metadata texts.name cap (spelling_of texts.metadata)) (Err WriteCap) ≡ Err fault → HasFault fault last text
  for_write cap has true none is = for_metadata cap has (no_length texts.write none) (spelling_of texts.metadata) refl is
  for_write cap has false some is =
      let same : WriteCap ≡ fault = cc in
      subst (λ f. HasFault f last text) same (texts, more, stands, (cap, has, λ none. eqb-false _ 0 some (ap length none)))

  for_cap : CapsAreDecided → is_name texts.name ≡ true → IsAbove texts.name last → (r : Result Cap DirFault) → child_reading texts.cap ≡ r → with_cap texts r ≡ Err fault → HasFault fault last text
  for_cap caps name above (Ok cap) read is =
      let both = child_read (cap_reading texts.cap) cap read in
      for_write cap (record { name = name; above = above; is = (caps.0 texts.cap cap).1 both.0; child = both.1 }) (length texts.write == 0) refl is
  for_cap caps name above (Err found) read is =
      let same : found ≡ fault = cc in
      by_child fault (child_refused caps texts.cap fault (read ∙ ap Err same))
    where
      by_child : (f : DirFault) → IsNoChild f texts.cap → HasFault f last text
      by_child BadCap why = (texts, more, stands, (name, above, why))
      by_child NotImmutable why = (texts, more, stands, (name, above, why))
      by_child f why = absurd why

  for_order : CapsAreDecided → is_name texts.name ≡ true → (b : Bool) → is_lt (slice_cmp nat_cmp last texts.name) ≡ b → cond b (with_cap texts (child_reading texts.cap)) (Err NotSorted) ≡ Err fault → HasFault fault last text
  for_order caps name true above is = for_cap caps name (less _ above) (child_reading texts.cap) refl is
  for_order caps name false below is =
      let same : NotSorted ≡ fault = cc in
      subst (λ f. HasFault f last text) same (texts, more, stands, (name, λ above. not_both (sym below ∙ ap is_lt above)))
    where
      not_both : false ≡ true → ⊥
      not_both h = cc

  for_name : CapsAreDecided → (b : Bool) → is_name texts.name ≡ b → cond b (cond (is_lt (slice_cmp nat_cmp last texts.name)) (with_cap texts (child_reading texts.cap)) (Err NotSorted)) (Err BadName) ≡ Err fault → HasFault fault last text
  for_name caps true name is = for_order caps name (is_lt (slice_cmp nat_cmp last texts.name)) refl is
  for_name caps false bad is =
      let same : BadName ≡ fault = cc in
      subst (λ f. HasFault f last text) same (texts, more, stands, bad)

  -- the entry has the fault for which its texts were refused
  pub entry_refused : CapsAreDecided → entry_reading last texts ≡ Err fault → HasFault fault last text
  entry_refused caps is = for_name caps (is_name texts.name) refl is

-- where no texts of an entry stand
torn : ReadsBack → (text : List ℕ) → length text < 2 ^ 64 → first_entry text ≡ None → (texts : EntryTexts) (more : List ℕ) → text ≢ text_of_entry texts ++ more
torn law text short none texts more is = let found = entry_found law texts.name texts.cap texts.write texts.metadata more text short is in absurd cc

-- one more entry without a fault stands before
before : CapsAreDecided → (last text rest : List ℕ) (texts : EntryTexts) (entry : Entry) (fault : DirFault) → text ≡ text_of_entry texts ++ rest → entry_reading last texts ≡ Ok entry → RefusesAbove entry.name fault rest → RefusesAbove last fault text
before caps last text rest texts entry fault stands read of =
    let was = was_read last texts entry read in
    record {
      entries = entry ∷ of.entries;
      good = text_of_entry texts ++ of.good;
      rest = of.rest;
      text_is = stands ∙ ap (λ t. text_of_entry texts ++ t) of.text_is ∙ sym (append_assoc (text_of_entry texts) of.good of.rest);
      belong = (text_of_entry texts, of.good, refl, subst (λ n. IsAbove n last) was.name_is was.above, read_text caps.0 last texts entry was, of.belong);
      first = of.first;
    }

here : (last text : List ℕ) (fault : DirFault) → HasFault fault last text → RefusesAbove last fault text
here last text fault has = record { entries = []; good = []; rest = text; text_is = refl; belong = refl; first = has }

-- what is refused of the rest
abbrev RestRefused : ℕ → DirFault → Type 0
RestRefused most fault = (last text : List ℕ) → length text ≤ most → length text < 2 ^ 64 → read_most most last text ≡ Err fault → RefusesAbove last fault text

more_refused : (most : ℕ) (fault : DirFault) → RestRefused most fault → CapsAreDecided → (last text rest : List ℕ) (texts : EntryTexts) (entry : Entry) → text ≡ text_of_entry texts ++ rest → length rest ≤ most → length rest < 2 ^ 64 → entry_reading last texts ≡ Ok entry
    → (r : Result (List Entry) DirFault) → read_most most entry.name rest ≡ r → before_more entry r ≡ Err fault → RefusesAbove last fault text
more_refused most fault ih caps last text rest texts entry stands fits short read (Ok more) at is = absurd cc
more_refused most fault ih caps last text rest texts entry stands fits short read (Err found) at is =
    let same : found ≡ fault = cc in
    before caps last text rest texts entry fault stands read (ih entry.name rest fits short (at ∙ ap Err same))

one_refused : (most : ℕ) (fault : DirFault) → RestRefused most fault → CapsAreDecided → (last text rest : List ℕ) (texts : EntryTexts) → text ≡ text_of_entry texts ++ rest → length rest ≤ most → length rest < 2 ^ 64
    → (r : Result Entry DirFault) → entry_reading last texts ≡ r → then_more (read_most most) rest r ≡ Err fault → RefusesAbove last fault text
one_refused most fault ih caps last text rest texts stands fits short (Ok entry) read is = more_refused most fault ih caps last text rest texts entry stands fits short read (read_most most entry.name rest) refl is
one_refused most fault ih caps last text rest texts stands fits short (Err found) read is =
    let same : found ≡ fault = cc in
    here last text fault (entry_refused last text rest texts fault stands caps (read ∙ ap Err same))

first_refused : NothingElse → ReadsBack → CapsAreDecided → (most : ℕ) (fault : DirFault) → RestRefused most fault → (last text : List ℕ) → text ≢ [] → length text ≤ suc most → length text < 2 ^ 64
    → (o : Option (EntryTexts × List ℕ)) → first_entry text ≡ o → from_texts (read_most most) last o ≡ Err fault → RefusesAbove last fault text
first_refused nothing law caps most fault ih last text some fits short (Some found) at is =
    let shorter = entry_shorter nothing text found at in
    one_refused most fault ih caps last text found.1 found.0 (entry_is nothing text found at) (omega arith) (omega arith) (entry_reading last found.0) refl is
first_refused nothing law caps most fault ih last text some fits short None at is =
    let same : Torn ≡ fault = cc in
    here last text fault (subst (λ f. HasFault f last text) same (some, torn law text short at))

not_nil : (b : ℕ) (bs : List ℕ) → b ∷ bs ≢ []
not_nil b bs is = cc

pub refused : NothingElse → ReadsBack → CapsAreDecided → (most : ℕ) (fault : DirFault) → RestRefused most fault
refused nothing law caps most fault last [] fits short is = absurd (let h : Ok [] ≡ Err fault = is in cc)
refused nothing law caps zero fault last (b ∷ bs) fits short is = absurd (omega arith)
refused nothing law caps (suc most) fault last (b ∷ bs) fits short is =
    first_refused nothing law caps most fault (refused nothing law caps most fault) last (b ∷ bs) (not_nil b bs) fits short (first_entry (b ∷ bs)) refl is

pub text_refused : NothingElse → ReadsBack → CapsAreDecided → (fault : DirFault) (text : List ℕ) → length text < 2 ^ 64 → directory_reading text ≡ Err fault → RefusesAbove [] fault text
unfolding directory_reading reading_after
text_refused nothing law caps fault text short is = refused nothing law caps (length text) fault [] text (omega arith) short is
