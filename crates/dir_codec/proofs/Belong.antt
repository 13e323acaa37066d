-- Directory texts and entries that belong together.
use Rattle.std.proofs.Common.{◌≡◌, ◌==◌, ◌^◌, ℕ, zero, suc, ◌+◌, ◌<◌, ◌≤◌, Bool, true, false, cond, List, [], ◌∷◌, ◌++◌, length, drop, Option, Some, None, option_and_then, Result, Ok, Err, IfOk, refl, sym, ap, subst, ◌∙◌, arith, append-nil, length-append}
use Rattle.std.specs.Prelude.{IsOkAnd, ◌↔◌}
use Rattle.std.specs.Ordering.{nat_cmp, is_lt}
use Rattle.std.specs.Cmp.Lexicographic.{slice_cmp}
use Rattle.std.specs.Result.{result_ok}
use Rattle.std.proofs.lemmas.Bool.{eqb-true}
use Rattle.std.proofs.lemmas.Bool.Decides.{nat_tests}
use Rattle.caps.specs.CapTexts.{IsCapText, cap_text}
use Rattle.caps.specs.Reading.{cap_reading}
use Rattle.caps.specs.declared.cap.Cap.{Cap}
use Rattle.caps.specs.declared.fault.CapFault.{CapFault}
use Rattle.tag_hash.specs.Netstring.{netstring}
use Rattle.tag_hash.specs.NetstringAt.{netstring_at, span_bytes}
use Rattle.tag_hash.specs.declared.netstrings.Span.{Span}
use Rattle.tag_hash.specs.declared.netstrings.NetFault.{NetFault}
use Rattle.dir_codec.specs.Names.{is_name, IsAbove}
use Rattle.json_spelling.specs.Metadata.{spelling_of}
use Rattle.dir_codec.specs.Entries.{is_child_cap, AreEntriesAbove}
use Rattle.dir_codec.specs.DirectoryText.{entry_text, IsEntryText, IsTextAbove, written_entry, directory_text}
use Rattle.dir_codec.specs.Parts.{EntryTexts, cut_netstring, first_netstring, if_all, four_texts, texts_before, first_entry}
use Rattle.dir_codec.specs.Reading.{child_of, child_reading, with_metadata, with_cap, entry_reading, before_more, then_more, from_texts, read_most, reading_after, directory_reading, children}
use Rattle.dir_codec.specs.declared.entry.Entry.{Entry}
use Rattle.dir_codec.specs.declared.fault.DirFault.{DirFault}
use Rattle.dir_codec.specs.declared.fault.DirFault.TheVariants.{NotImmutable, NotSorted, BadName, WriteCap}
use Rattle.dir_codec.proofs.Names.{less}
use Rattle.dir_codec.proofs.Steps.{NothingElse, read_all, read_entry}

abbrev pub ReadsBack : Type 0
ReadsBack = (bytes b rest : List ℕ) (at : ℕ) → length b < 2 ^ 64 → drop at bytes ≡ netstring b ++ rest → IsOkAnd (netstring_at bytes at) (λ read. (span_bytes read.0 bytes ≡ b) × (read.1 ≡ at + length (netstring b)) × (drop read.1 bytes ≡ rest))

abbrev pub CapsAreRead : Type 0
CapsAreRead = (text : List ℕ) (cap : Cap) → IsCapText cap text ↔ (cap_reading text ≡ Ok cap)

-- ---- from entries to what is read

cut_found : (bytes b rest : List ℕ) (r : Result (Span × ℕ) NetFault) (n : ℕ) → IsOkAnd r (λ read. (span_bytes read.0 bytes ≡ b) × (read.1 ≡ n) × (drop read.1 bytes ≡ rest)) → cut_netstring bytes r ≡ Some (b, rest)
cut_found bytes b rest (Ok read) n facts = let f : List ℕ → List ℕ → Option (List ℕ × List ℕ) = λ x y. Some (x, y) in (λ i. f (facts.0 i) (facts.2 i))
cut_found bytes b rest (Err fault) n facts = absurd facts

pub netstring_found : ReadsBack → (bytes b rest : List ℕ) → length b < 2 ^ 64 → bytes ≡ netstring b ++ rest → first_netstring bytes ≡ Some (b, rest)
unfolding first_netstring
netstring_found law bytes b rest short is = cut_found bytes b rest (netstring_at bytes 0) _ (law bytes b rest 0 short is)

-- a netstring is longer than its bytes
length-netstring : (b : List ℕ) → length b < length (netstring b)
unfolding netstring
length-netstring b = grind (arith, length-append)

length-inside : (name cap write metadata : List ℕ) → length (netstring name ++ (netstring cap ++ (netstring write ++ netstring metadata))) ≡ length (netstring name) + (length (netstring cap) + (length (netstring write) + length (netstring metadata)))
length-inside name cap write metadata =
    length-append (netstring name) _ ∙ ap (λ n. length (netstring name) + n) (length-append (netstring cap) _ ∙ ap (λ n. length (netstring cap) + n) (length-append (netstring write) (netstring metadata)))

four_found : ReadsBack → (name cap write metadata : List ℕ) → length (netstring name ++ (netstring cap ++ (netstring write ++ netstring metadata))) < 2 ^ 64
    → four_texts (netstring name ++ (netstring cap ++ (netstring write ++ netstring metadata))) ≡ Some (record { name = name; cap = cap; write = write; metadata = metadata })
four_found law name cap write metadata short =
    let long = length-inside name cap write metadata in
    let n = length-netstring name in
    let c = length-netstring cap in
    let w = length-netstring write in
    let m = length-netstring metadata in
    let one = netstring_found law (netstring name ++ (netstring cap ++ (netstring write ++ netstring metadata))) name _ (omega arith) refl in
    let two = netstring_found law (netstring cap ++ (netstring write ++ netstring metadata)) cap _ (omega arith) refl in
    let three = netstring_found law (netstring write ++ netstring metadata) write _ (omega arith) refl in
    let four = netstring_found law (netstring metadata) metadata [] (omega arith) (sym (append-nil (netstring metadata))) in
    rw (one, two, three, four) refl

pub entry_found : ReadsBack → (name cap write metadata rest text : List ℕ) → length text < 2 ^ 64 → text ≡ entry_text name cap write metadata ++ rest
    → first_entry text ≡ Some (record { name = name; cap = cap; write = write; metadata = metadata }, rest)
unfolding entry_text
entry_found law name cap write metadata rest text short is =
    let whole = netstring name ++ (netstring cap ++ (netstring write ++ netstring metadata)) in
    let longer = length-netstring whole in
    let long = ap length is ∙ length-append (netstring whole) rest in
    let outer : first_netstring text ≡ Some (whole, rest) = netstring_found law text whole rest (omega arith) is in
    let four : four_texts whole ≡ Some (record { name = name; cap = cap; write = write; metadata = metadata }) = four_found law name cap write metadata (omega arith) in
    rw (outer, four) refl

pub not_zero : (n : ℕ) → 0 < n → (n == 0) ≡ false
not_zero n h = grind (arith, nat_tests)

not_empty : (name cap write metadata rest text : List ℕ) → text ≡ entry_text name cap write metadata ++ rest → (length text == 0) ≡ false
unfolding entry_text
not_empty name cap write metadata rest text is =
    let longer = length-netstring (netstring name ++ (netstring cap ++ (netstring write ++ netstring metadata))) in
    let long = ap length is ∙ length-append (netstring (netstring name ++ (netstring cap ++ (netstring write ++ netstring metadata)))) rest in
    not_zero (length text) (omega arith)

lt_of : (last name : List ℕ) → IsAbove name last → is_lt (slice_cmp nat_cmp last name) ≡ true
lt_of last name above = ap is_lt above

entry_read : CapsAreRead → (last text : List ℕ) (entry : Entry) → IsAbove entry.name last → (is : IsEntryText entry text) → entry_reading last (record { name = entry.name; cap = is.cap; write = []; metadata = is.metadata }) ≡ Ok entry
entry_read law last text entry above is =
    let cap : cap_reading is.cap ≡ Ok entry.cap = (law is.cap entry.cap).0 is.cap_is in
    rw (is.name, lt_of last entry.name above, cap, is.child, is.metadata_is) refl

pub texts_read : NothingElse → ReadsBack → CapsAreRead → (entries : List Entry) (last text : List ℕ) → length text < 2 ^ 64 → IsTextAbove last entries text → reading_after last text ≡ Ok entries
texts_read nothing law caps [] last text short is = read_all last text (ap (λ t. length t == 0) is)
texts_read nothing law caps (entry ∷ more) last text short is =
    let rest = is.1 in
    let above = is.3 in
    let of = is.4 in
    let whole = is.2 ∙ ap (λ t. t ++ rest) of.text_is in
    let found = entry_found law entry.name of.cap [] of.metadata rest text short whole in
    let long = ap length is.2 ∙ length-append is.0 rest in
    let some : (length text == 0) ≡ false = not_empty entry.name of.cap [] of.metadata rest text whole in
    read_entry nothing last text _ rest entry some found (entry_read caps last is.0 entry above of) ∙ ap (before_more entry) (texts_read nothing law caps more entry.name rest (omega arith) is.5)

-- ---- what is written

pub written_texts : CapsAreRead → (entries : List Entry) (last : List ℕ) → AreEntriesAbove last entries → IsTextAbove last entries (directory_text entries)
unfolding written_entry
written_texts caps [] last all = refl
written_texts caps (entry ∷ more) last all =
    let of : IsEntryText entry (written_entry entry) = record {
      name = all.1.name;
      cap = cap_text entry.cap;
      cap_is = (caps (cap_text entry.cap) entry.cap).1 all.1.cap;
      child = all.1.child;
      metadata = entry.metadata;
      metadata_is = all.1.metadata;
      text_is = refl;
    } in
    (written_entry entry, directory_text more, refl, all.0, of, written_texts caps more entry.name all.2)

-- ---- from what is read to entries

cut_is : (bytes : List ℕ) (r : Result (Span × ℕ) NetFault) → IfOk r (λ read. (read.0.start + read.0.len + 1 ≡ read.1) × (read.1 ≤ length bytes) × (bytes ≡ netstring (span_bytes read.0 bytes) ++ drop read.1 bytes))
    → (found : List ℕ × List ℕ) → cut_netstring bytes r ≡ Some found → bytes ≡ netstring found.0 ++ found.1
cut_is bytes (Ok read) facts found is =
    let same : (span_bytes read.0 bytes, drop read.1 bytes) ≡ found = cc in
    subst (λ (p : List ℕ × List ℕ). bytes ≡ netstring p.0 ++ p.1) same facts.2
cut_is bytes (Err fault) facts found is = absurd cc

netstring_is : NothingElse → (bytes : List ℕ) (found : List ℕ × List ℕ) → first_netstring bytes ≡ Some found → bytes ≡ netstring found.0 ++ found.1
unfolding first_netstring
netstring_is law bytes found is = cut_is bytes (netstring_at bytes 0) (law bytes 0) found is

pub no_length : (xs : List ℕ) → (length xs == 0) ≡ true → xs ≡ []
no_length [] h = refl
no_length (x ∷ xs) h = absurd (let none = eqb-true (length (x ∷ xs)) 0 h in omega arith)

all_at : (texts found : EntryTexts) (rest : List ℕ) (b : Bool) → (length rest == 0) ≡ b → cond b (Some texts) None ≡ Some found → (texts ≡ found) × (rest ≡ [])
all_at texts found rest true none is = ((let h : Some texts ≡ Some found = is in cc), no_length rest none)
all_at texts found rest false none is = absurd (let h : None ≡ Some found = is in cc)

all_is : (texts found : EntryTexts) (rest : List ℕ) → if_all texts rest ≡ Some found → (texts ≡ found) × (rest ≡ [])
all_is texts found rest is = all_at texts found rest (length rest == 0) refl is

-- the last of four, then the third, and so on
module _ (law : NothingElse) (found : EntryTexts) where
  metadata_is : (name cap write rest : List ℕ) (o : Option (List ℕ × List ℕ)) → first_netstring rest ≡ o
      → option_and_then (λ metadata. if_all (record { name = name; cap = cap; write = write; metadata = metadata.0 }) metadata.1) o ≡ Some found
      → (name ≡ found.name) × (cap ≡ found.cap) × (write ≡ found.write) × (rest ≡ netstring found.metadata)
  metadata_is name cap write rest (Some metadata) at is =
      let both = all_is (record { name = name; cap = cap; write = write; metadata = metadata.0 }) found metadata.1 is in (
        ap (λ (t : EntryTexts). t.name) both.0,
        ap (λ (t : EntryTexts). t.cap) both.0,
        ap (λ (t : EntryTexts). t.write) both.0,
        netstring_is law rest metadata at ∙ ap (λ t. netstring metadata.0 ++ t) both.1 ∙ append-nil (netstring metadata.0) ∙ ap (λ (t : EntryTexts). netstring t.metadata) both.0,
      )
  metadata_is name cap write rest None at is = absurd cc

  write_is : (name cap rest : List ℕ) (o : Option (List ℕ × List ℕ)) → first_netstring rest ≡ o
      → option_and_then (λ write. option_and_then (λ metadata. if_all (record { name = name; cap = cap; write = write.0; metadata = metadata.0 }) metadata.1) (first_netstring write.1)) o ≡ Some found
      → (name ≡ found.name) × (cap ≡ found.cap) × (rest ≡ netstring found.write ++ netstring found.metadata)
  write_is name cap rest (Some write) at is =
      let more = metadata_is name cap write.0 write.1 (first_netstring write.1) refl is in
      (more.0, more.1, netstring_is law rest write at ∙ (λ i. netstring (more.2 i) ++ more.3 i))
  write_is name cap rest None at is = absurd cc

  cap_is : (name rest : List ℕ) (o : Option (List ℕ × List ℕ)) → first_netstring rest ≡ o
      → option_and_then (λ cap. option_and_then (λ write. option_and_then (λ metadata. if_all (record { name = name; cap = cap.0; write = write.0; metadata = metadata.0 }) metadata.1) (first_netstring write.1)) (first_netstring cap.1)) o ≡ Some found
      → (name ≡ found.name) × (rest ≡ netstring found.cap ++ (netstring found.write ++ netstring found.metadata))
  cap_is name rest (Some cap) at is =
      let more = write_is name cap.0 cap.1 (first_netstring cap.1) refl is in
      (more.0, netstring_is law rest cap at ∙ (λ i. netstring (more.1 i) ++ more.2 i))
  cap_is name rest None at is = absurd cc

  name_is : (rest : List ℕ) (o : Option (List ℕ × List ℕ)) → first_netstring rest ≡ o
      → option_and_then (λ name. option_and_then (λ cap. option_and_then (λ write. option_and_then (λ metadata. if_all (record { name = name.0; cap = cap.0; write = write.0; metadata = metadata.0 }) metadata.1) (first_netstring write.1)) (first_netstring cap.1)) (first_netstring name.1)) o ≡ Some found
      → rest ≡ netstring found.name ++ (netstring found.cap ++ (netstring found.write ++ netstring found.metadata))
  name_is rest (Some name) at is =
      let more = cap_is name.0 name.1 (first_netstring name.1) refl is in
      netstring_is law rest name at ∙ (λ i. netstring (more.0 i) ++ more.1 i)
  name_is rest None at is = absurd cc

before_is : (rest : List ℕ) (o : Option EntryTexts) (found : EntryTexts × List ℕ) → texts_before rest o ≡ Some found → (o ≡ Some found.0) × (rest ≡ found.1)
before_is rest (Some texts) found is =
    let same : (texts, rest) ≡ found = cc in
    (ap (λ (p : EntryTexts × List ℕ). Some p.0) same, ap (λ (p : EntryTexts × List ℕ). p.1) same)
before_is rest None found is = absurd cc

first_is : NothingElse → (text : List ℕ) (o : Option (List ℕ × List ℕ)) → first_netstring text ≡ o → (found : EntryTexts × List ℕ) → option_and_then (λ two. texts_before two.1 (four_texts two.0)) o ≡ Some found
    → text ≡ entry_text found.0.name found.0.cap found.0.write found.0.metadata ++ found.1
unfolding entry_text
first_is law text (Some two) at found is =
    let both = before_is two.1 (four_texts two.0) found is in
    let whole = name_is law found.0 two.0 (first_netstring two.0) refl both.0 in
    netstring_is law text two at ∙ (λ i. netstring (whole i) ++ both.1 i)
first_is law text None at found is = absurd cc

-- the text of an entry that was found
pub entry_is : NothingElse → (text : List ℕ) (found : EntryTexts × List ℕ) → first_entry text ≡ Some found → text ≡ entry_text found.0.name found.0.cap found.0.write found.0.metadata ++ found.1
entry_is law text found is = first_is law text (first_netstring text) refl found is

-- what was read of four texts
pub record IsRead (last : List ℕ) (texts : EntryTexts) (entry : Entry) : Type 0 where
  pub name : is_name texts.name ≡ true
  pub above : IsAbove texts.name last
  pub name_is : texts.name ≡ entry.name
  pub cap : cap_reading texts.cap ≡ Ok entry.cap
  pub child : is_child_cap entry.cap ≡ true
  pub write : texts.write ≡ []
  pub metadata : spelling_of texts.metadata ≡ Some entry.metadata

-- what a reading of a text's metadata, of its caps and of the whole say where they give an entry
abbrev HasMetadata : List ℕ → Cap → Option (List ℕ) → Entry → Type 0
HasMetadata name cap o entry = (name ≡ entry.name) × (cap ≡ entry.cap) × (o ≡ Some entry.metadata)

metadata_read : (name : List ℕ) (cap : Cap) (o : Option (List ℕ)) (entry : Entry) → with_metadata name cap o ≡ Ok entry → HasMetadata name cap o entry
metadata_read name cap (Some metadata) entry is =
    let made : Entry = record { name = name; cap = cap; metadata = metadata } in
    let same : made ≡ entry = cc in
    (ap (λ (e : Entry). e.name) same, ap (λ (e : Entry). e.cap) same, ap (λ (e : Entry). Some e.metadata) same)
metadata_read name cap None entry is = absurd cc

write_read : (texts : EntryTexts) (cap : Cap) (b : Bool) (entry : Entry) → (length texts.write == 0) ≡ b → cond b (with_metadata texts.name cap (spelling_of texts.metadata)) (Err WriteCap) ≡ Ok entry
    → (texts.write ≡ []) × HasMetadata texts.name cap (spelling_of texts.metadata) entry
write_read texts cap true entry none is = (no_length texts.write none, metadata_read texts.name cap (spelling_of texts.metadata) entry is)
write_read texts cap false entry none is = absurd cc

child_at : (found cap : Cap) (b : Bool) → is_child_cap found ≡ b → ◌≡◌ {A = Result Cap DirFault} (cond b (Ok found) (Err NotImmutable)) (Ok cap) → (found ≡ cap) × (is_child_cap cap ≡ true)
child_at found cap true child is = let same : found ≡ cap = cc in (same, ap is_child_cap (sym same) ∙ child)
child_at found cap false child is = absurd cc

pub child_read : (r : Result Cap CapFault) (cap : Cap) → child_of r ≡ Ok cap → (r ≡ Ok cap) × (is_child_cap cap ≡ true)
child_read (Ok found) cap is = let parts = child_at found cap (is_child_cap found) refl is in (ap Ok parts.0, parts.1)
child_read (Err fault) cap is = absurd cc

cap_read : (texts : EntryTexts) (r : Result Cap DirFault) (entry : Entry) → with_cap texts r ≡ Ok entry → (cap : Cap) × (r ≡ Ok cap) × (texts.write ≡ []) × HasMetadata texts.name cap (spelling_of texts.metadata) entry
cap_read texts (Ok cap) entry is = let more = write_read texts cap (length texts.write == 0) entry refl is in (cap, refl, more.0, more.1)
cap_read texts (Err fault) entry is = absurd cc

above_read : (last : List ℕ) (texts : EntryTexts) (b : Bool) (entry : Entry) → is_lt (slice_cmp nat_cmp last texts.name) ≡ b → cond b (with_cap texts (child_reading texts.cap)) (Err NotSorted) ≡ Ok entry
    → is_name texts.name ≡ true → IsRead last texts entry
above_read last texts true entry above is name =
    let more = cap_read texts (child_reading texts.cap) entry is in
    let child = child_read (cap_reading texts.cap) more.0 more.1 in
    let same = more.3.1 in
    record {
      name = name;
      above = less _ above;
      name_is = more.3.0;
      cap = child.0 ∙ ap Ok same;
      child = ap is_child_cap (sym same) ∙ child.1;
      write = more.2;
      metadata = more.3.2;
    }
above_read last texts false entry above is name = absurd cc

pub was_read : (last : List ℕ) (texts : EntryTexts) (entry : Entry) → entry_reading last texts ≡ Ok entry → IsRead last texts entry
was_read last texts entry is = by (is_name texts.name) refl is
  where
    by : (b : Bool) → is_name texts.name ≡ b → cond b (cond (is_lt (slice_cmp nat_cmp last texts.name)) (with_cap texts (child_reading texts.cap)) (Err NotSorted)) (Err BadName) ≡ Ok entry → IsRead last texts entry
    by true name same = above_read last texts (is_lt (slice_cmp nat_cmp last texts.name)) entry refl same name
    by false name same = absurd cc

pub read_text : CapsAreRead → (last : List ℕ) (texts : EntryTexts) (entry : Entry) → IsRead last texts entry → IsEntryText entry (entry_text texts.name texts.cap texts.write texts.metadata)
read_text caps last texts entry is = record {
  name = ap is_name (sym is.name_is) ∙ is.name;
  cap = texts.cap;
  cap_is = (caps texts.cap entry.cap).1 is.cap;
  child = is.child;
  metadata = texts.metadata;
  metadata_is = is.metadata;
  text_is = (λ i. entry_text (is.name_is i) texts.cap (is.write i) texts.metadata);
}

-- what fewer entries are read of belongs together
abbrev pub Rest : ℕ → Type 0
Rest most = (name rest : List ℕ) (more : List Entry) → read_most most name rest ≡ Ok more → IsTextAbove name more rest

pub texts_belong : NothingElse → CapsAreRead → (most : ℕ) (last text : List ℕ) (entries : List Entry) → read_most most last text ≡ Ok entries → IsTextAbove last entries text
texts_belong law caps most last [] entries is = let none : [] ≡ entries = let h : Ok [] ≡ Ok entries = is in cc in subst (λ (es : List Entry). IsTextAbove last es []) none refl
texts_belong law caps zero last (b ∷ bs) entries is = absurd cc
texts_belong law caps (suc most) last (b ∷ bs) entries is = by_entry (λ name rest more read. texts_belong law caps most name rest more read) (first_entry (b ∷ bs)) refl is
  where
    by_more : Rest most → (texts : EntryTexts) (rest : List ℕ) (entry : Entry) → b ∷ bs ≡ entry_text texts.name texts.cap texts.write texts.metadata ++ rest → IsRead last texts entry → (r : Result (List Entry) DirFault) → read_most most entry.name rest ≡ r → before_more entry r ≡ Ok entries → IsTextAbove last entries (b ∷ bs)
    by_more ih texts rest entry whole of (Ok more) read same =
        let made : entry ∷ more ≡ entries = let h : Ok (entry ∷ more) ≡ Ok entries = same in cc in
        let above : IsAbove entry.name last = subst (λ n. IsAbove n last) of.name_is of.above in
        subst (λ (es : List Entry). IsTextAbove last es (b ∷ bs)) made (entry_text texts.name texts.cap texts.write texts.metadata, rest, whole, above, read_text caps last texts entry of, ih entry.name rest more read)
    by_more ih texts rest entry whole of (Err fault) read same = absurd cc

    by_read : Rest most → (texts : EntryTexts) (rest : List ℕ) → b ∷ bs ≡ entry_text texts.name texts.cap texts.write texts.metadata ++ rest → (r : Result Entry DirFault) → entry_reading last texts ≡ r → then_more (read_most most) rest r ≡ Ok entries → IsTextAbove last entries (b ∷ bs)
    by_read ih texts rest whole (Ok entry) read same = by_more ih texts rest entry whole (was_read last texts entry read) (read_most most entry.name rest) refl same
    by_read ih texts rest whole (Err fault) read same = absurd cc

    by_entry : Rest most → (o : Option (EntryTexts × List ℕ)) → first_entry (b ∷ bs) ≡ o → from_texts (read_most most) last o ≡ Ok entries → IsTextAbove last entries (b ∷ bs)
    by_entry ih (Some found) at same = by_read ih found.0 found.1 (entry_is law (b ∷ bs) found at) (entry_reading last found.0) refl same
    by_entry ih None at same = absurd cc

pub belong : NothingElse → CapsAreRead → (entries : List Entry) (text : List ℕ) → directory_reading text ≡ Ok entries → IsTextAbove [] entries text
unfolding directory_reading reading_after
belong law caps entries text is = texts_belong law caps (length text) [] text entries is

pub are_read : NothingElse → ReadsBack → CapsAreRead → (entries : List Entry) (text : List ℕ) → length text < 2 ^ 64 → IsTextAbove [] entries text → directory_reading text ≡ Ok entries
unfolding directory_reading
are_read nothing law caps entries text short is = texts_read nothing law caps entries [] text short is

pub ok_is : {A E : Type 0} (r : Result A E) (x : A) → result_ok r ≡ Some x → r ≡ Ok x
ok_is (Ok y) x is = let same : y ≡ x = cc in ap Ok same
ok_is (Err e) x is = absurd cc

pub children_are : (entries : List Entry) (text : List ℕ) → (children text ≡ Some entries) ↔ (directory_reading text ≡ Ok entries)
unfolding children
children_are entries text = (λ is. ok_is (directory_reading text) entries is, λ is. ap result_ok is)
