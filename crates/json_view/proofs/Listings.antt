-- The JSON of a directory that is made of its text, child by child.
use Rattle.std.proofs.Common.{◌≡◌, ◌==◌, ℕ, ◌+◌, ◌-◌, ◌<◌, ◌≤◌, nat_lt, Bool, true, false, List, [], ◌∷◌, ◌++◌, length, map, drop, codes, Option, Some, None, IfSome, Result, Ok, Err, if◌then◌else◌, refl, sym, ap, subst, ◌∙◌, arith, append_assoc, append-nil, length-append}
use Rattle.std.proofs.lemmas.Bool.{lt-ltb, eqb-true, eqb-false}
use Rattle.std.proofs.lemmas.List.{drop_all, drop-drop, length-drop}
use Rattle.std.proofs.lemmas.List.Elements.{All-weaker}
use Rattle.std.specs.List.{join_with_byte}
use Rattle.serde_json.specs.Written.{comma_if}
use Rattle.caps.specs.declared.cap.Cap.{Cap}
use Rattle.dir_codec.specs.Parts.{first_metadata}
use Rattle.dir_codec.specs.First.{IsFirstEntry, IsFirstSpelling}
use Rattle.dir_codec.specs.Reading.{before_more, reading_after, directory_reading}
use Rattle.dir_codec.specs.declared.entry.Entry.{Entry}
use Rattle.dir_codec.specs.declared.fault.DirFault.{DirFault}
use Rattle.json_view.specs.Strings.{quoted}
use Rattle.json_view.specs.declared.kept_spelling.KeptSpelling.{KeptSpelling}
use Rattle.json_view.specs.KeptSpellings.{IsSpellingIn, AreSpellingsIn, IsSpellerOf, IsFirstSpeller}
use Rattle.json_view.specs.Nodes.{node_kind, node_members, child_text, dir_text}
use Rattle.json_view.specs.Listings.{IsListingOf, entries_read, entries_in, with_commas, head_unless, dir_end, children_from, listing_left, IsReadable, IsListing, IsCountOfChildren, IsCountedTo, AreChildrenPut, IsPiece}
use Rattle.json_view.proofs.Commas.{parted_joined}

-- ---- entries

begins : (text : List ℕ) → reading_after [] text ≡ directory_reading text
unfolding directory_reading
begins text = refl

read_none : (last : List ℕ) → reading_after last [] ≡ Ok []
unfolding reading_after
read_none last = refl

none_in : entries_in [] ≡ []
none_in = ap entries_read (sym (begins []) ∙ read_none [])

more_read : (entry : Entry) (r : Result (List Entry) DirFault) (entries : List Entry) → before_more entry r ≡ Ok entries → (r ≡ Ok (entries_read r)) × (entries ≡ entry ∷ entries_read r)
more_read entry (Ok more) entries is = (refl, cc)
more_read entry (Err fault) entries is = absurd cc

later_place : (at size : ℕ) → 0 < size → nat_lt 0 (at + size) ≡ true
later_place at size some = lt-ltb 0 (at + size) (omega arith)

-- the entry at a place of a text, and what stands behind it
entry_at : (last text : List ℕ) (at size : ℕ) (entry : Entry) → IsFirstEntry last (drop at text) entry size
    → reading_after last (drop at text) ≡ before_more entry (reading_after entry.name (drop (at + size) text))
entry_at last text at size entry first = first.read ∙ ap (λ t. before_more entry (reading_after entry.name t)) (drop-drop size at text)

ends_within : (last text : List ℕ) (at size : ℕ) (entry : Entry) → at ≤ length text → IsFirstEntry last (drop at text) entry size → at + size ≤ length text
ends_within last text at size entry within first =
    let long = length-drop at text in
    let fits = first.within in
    omega arith

-- ---- children that are put

-- what stands behind an entry is a text by itself
abbrev pub EndsAreTexts : Type 0
EndsAreTexts = (last text : List ℕ) (entries : List Entry) → reading_after last text ≡ Ok entries → directory_reading text ≡ Ok entries

regroup : (old comma child rest : List ℕ) → old ++ (comma ++ (child ++ rest)) ≡ (old ++ (comma ++ child)) ++ rest
regroup old comma child rest = simp append_assoc

pub child_put : EndsAreTexts → (text : List ℕ) (later : Bool) (at size : ℕ) (old new : List ℕ) (entry : Entry) → IsReadable at text → IsFirstEntry [] (drop at text) entry size → new ≡ old ++ (comma_if later ++ child_text entry)
    → AreChildrenPut text later at old new true (at + size)
child_put ends text later at size old new entry readable first put =
    let r = reading_after entry.name (drop (at + size) text) in
    let both = more_read entry r (entries_in (drop at text)) (sym (entry_at [] text at size entry first) ∙ begins (drop at text) ∙ readable.read) in
    let rest : directory_reading (drop (at + size) text) ≡ Ok (entries_read r) = ends entry.name (drop (at + size) text) (entries_read r) both.0 in
    let is : entries_in (drop (at + size) text) ≡ entries_read r = ap entries_read rest in
    record {
      readable = record { within = ends_within [] text at size entry readable.within first; read = rest ∙ ap Ok (sym is) };
      put = λ end.
          ap (λ entries. old ++ with_commas later (map child_text entries) end) both.1
          ∙ regroup old (comma_if later) (child_text entry) (with_commas true (map child_text (entries_read r)) end)
          ∙ (λ i. sym put i ++ with_commas true (map child_text (sym is i)) end);
    }

pub children_put : (text : List ℕ) (first second third : Bool) (from at next : ℕ) (old middle new : List ℕ) → AreChildrenPut text first from old middle second at → AreChildrenPut text second at middle new third next → AreChildrenPut text first from old new third next
children_put text first second third from at next old middle new one more = record {
  readable = more.readable;
  put = λ end. one.put end ∙ more.put end;
}

-- ---- spellings

no_speller_of : (metadata : Option (List ℕ)) → IfSome metadata (λ text. IsSpellerOf text None)
no_speller_of None = tt
no_speller_of (Some metadata) = tt

pub no_speller : (text : List ℕ) → IsFirstSpeller text None
no_speller text = no_speller_of (first_metadata text)

-- ---- pieces

nothing_from : (text end : List ℕ) (later : Bool) (at : ℕ) → length text ≤ at → children_from later at text end ≡ end
nothing_from text end later at past =
    ap (λ t. with_commas later (map child_text (entries_in t)) end) (drop_all at text past)
    ∙ ap (λ entries. with_commas later (map child_text entries) end) none_in

-- at the end of a text it is the same whether children stand before
pub all_put : (text : List ℕ) (later : Bool) (from : ℕ) (old new : List ℕ) (after : Bool) (at : ℕ) → AreChildrenPut text later from old new after at → length text ≤ at → AreChildrenPut text later from old new true at
all_put text later from old new after at put past = record {
  readable = put.readable;
  put = λ end. put.put end ∙ ap (λ t. new ++ t) (nothing_from text end after at past ∙ sym (nothing_from text end true at past));
}

pub piece_put : (text end : List ℕ) (later : Bool) (at next : ℕ) (head middle piece : List ℕ) (ended : Bool) → head ≡ head_unless later → AreChildrenPut text later at head middle true next
    → (next < length text → 0 < length middle) → piece ≡ middle ++ (if ended then end else []) → ended ≡ (next == length text) → IsPiece text end later at piece next ended
piece_put text end later at next head middle piece true begun put some is at_end =
    let past : length text ≤ next = (let e = eqb-true next (length text) (sym at_end) in omega arith) in
    record {
      readable = put.readable;
      some = λ no. absurd cc;
      is = ap (λ t. t ++ children_from later at text end) (sym begun) ∙ put.put end ∙ ap (λ t. middle ++ t) (nothing_from text end true next past) ∙ sym is ∙ sym (append-nil piece);
    }
piece_put text end later at next head middle piece false begun put some is at_end =
    let other = eqb-false next (length text) (sym at_end) in
    let within = put.readable.within in
    let inside : next < length text = omega (arith, other, within) in
    let same : piece ≡ middle = is ∙ append-nil middle in
    record {
      readable = put.readable;
      some = λ no. subst (λ t. 0 < length t) (sym same) (some inside);
      is = ap (λ t. t ++ children_from later at text end) (sym begun) ∙ put.put end ∙ ap (λ t. t ++ children_from true next text end) (sym same);
    }

pub piece_given : (ended later last : Bool) (at next left : ℕ) (text end piece : List ℕ) → 0 < left → left ≡ length (listing_left ended later at text end) → IsPiece text end later at piece next last
    → (0 < length piece) × (listing_left ended later at text end ≡ piece ++ listing_left last true next text end)
piece_given true later last at next left text end piece some counted is = absurd (omega arith)
piece_given false later true at next left text end piece some counted is =
    let same : left ≡ length piece = counted ∙ ap length (is.is ∙ append-nil piece) in
    (omega arith, is.is)
piece_given false later false at next left text end piece some counted is = (is.some refl, is.is)

pub left_is : (left : ℕ) (whole piece rest : List ℕ) → left ≡ length whole → whole ≡ piece ++ rest → (length piece ≤ left) × (left - length piece ≡ length rest)
left_is left whole piece rest counted is =
    let e : left ≡ length piece + length rest = counted ∙ ap length is ∙ length-append piece rest in
    (omega arith, omega arith)

-- what stands in a text from a place on is a text by itself
pub rest_readable : (at : ℕ) (text rest : List ℕ) → rest ≡ drop at text → IsReadable at text → IsReadable 0 rest
rest_readable at text rest is readable = record {
  within = omega arith;
  read = subst (λ t. directory_reading t ≡ Ok (entries_in t)) (sym is) readable.read;
}

pub rest_left : (ended later : Bool) (at : ℕ) (text rest end : List ℕ) → rest ≡ drop at text → listing_left ended later 0 rest end ≡ listing_left ended later at text end
rest_left ended later at text rest end is = ap (λ t. listing_left ended later 0 t end) is

-- so many bytes are left at the same place
spelling_in_rest : (at : ℕ) (text : List ℕ) → at ≤ length text → (kept : KeptSpelling) → IsSpellingIn text kept → IsSpellingIn (drop at text) kept
spelling_in_rest at text within kept is = record {
  is = λ fits.
      let long = length-drop at text in
      let all : kept.left ≤ length text = omega (arith, fits, long) in
      let place : at + (length (drop at text) - kept.left) ≡ length text - kept.left = omega (arith, fits, long) in
      subst (λ t. IsFirstSpelling t (Some kept.spelling)) (sym (drop-drop (length (drop at text) - kept.left) at text ∙ ap (λ n. drop n text) place)) (is.is all);
}

spellings_in_rest : (at : ℕ) (text rest : List ℕ) (spellings : List KeptSpelling) → at ≤ length text → rest ≡ drop at text → AreSpellingsIn text spellings → AreSpellingsIn rest spellings
spellings_in_rest at text rest spellings within is kept =
    subst (λ t. AreSpellingsIn t spellings) (sym is) (All-weaker (IsSpellingIn text) (IsSpellingIn (drop at text)) (spelling_in_rest at text within) spellings kept)

pub rest_kept : (ended later : Bool) (at left : ℕ) (text rest end : List ℕ) (spellings : List KeptSpelling) → rest ≡ drop at text → IsListing at left text (listing_left ended later at text end) spellings
    → IsListing 0 left rest (listing_left ended later 0 rest end) spellings
rest_kept ended later at left text rest end spellings is kept = record {
  readable = rest_readable at text rest is kept.readable;
  counted = kept.counted ∙ ap length (sym (rest_left ended later at text rest end is));
  kept = spellings_in_rest at text rest spellings kept.readable.within is kept.kept;
}

-- ---- how many bytes there are

pub count_begun : (last text : List ℕ) → last ≡ [] → IsCountedTo last text 0 0
count_begun last text empty =
    let begun : reading_after last text ≡ directory_reading text = ap (λ t. reading_after t text) empty ∙ begins text in
    record {
      within = omega arith;
      read = λ more is.
          let whole : directory_reading text ≡ Ok more = sym begun ∙ is in
          let same : more ≡ entries_in text = sym (ap entries_read whole) in
          let e : length (with_commas false (map child_text more) []) ≡ length (with_commas false (map child_text (entries_in text)) []) = ap (λ entries. length (with_commas false (map child_text entries) [])) same in
          (whole ∙ ap Ok same, omega (arith, e));
      refused = λ fault is. sym begun ∙ is;
    }

count_more : (count size all : ℕ) (comma text rest : List ℕ) → size ≡ length (comma ++ text) → count + length (comma ++ (text ++ rest)) ≡ all → (count + size) + length rest ≡ all
count_more count size all comma text rest is whole =
    let joined : length (comma ++ (text ++ rest)) ≡ length (comma ++ text) + length rest = ap length (sym (append_assoc comma text rest)) ∙ length-append (comma ++ text) rest in
    omega arith

pub count_step : (last name text : List ℕ) (at size count more : ℕ) (entry : Entry) → IsCountedTo last text at count → IsFirstEntry last (drop at text) entry size → name ≡ entry.name
    → more ≡ count + length (comma_if (nat_lt 0 at) ++ child_text entry) → IsCountedTo name text (at + size) more
count_step last name text at size count more entry counted first named is =
    let later = later_place at size first.some in
    let comma = comma_if (nat_lt 0 at) in
    let read = entry_at last text at size entry first ∙ ap (λ t. before_more entry (reading_after t (drop (at + size) text))) (sym named) in
    record {
      within = ends_within last text at size entry counted.within first;
      read = λ rest rest_is.
          let both = counted.read (entry ∷ rest) (read ∙ ap (before_more entry) rest_is) in (
            both.0,
            ap (λ b. more + length (with_commas b (map child_text rest) [])) later
                ∙ ap (λ n. n + length (with_commas true (map child_text rest) [])) is
                ∙ count_more count (length (comma ++ child_text entry)) _ comma (child_text entry) (with_commas true (map child_text rest) []) refl both.1,
          );
      refused = λ fault fault_is. counted.refused fault (read ∙ ap (before_more entry) fault_is);
    }

apart : (k q a t b m c : List ℕ) → length (k ++ (q ++ (a ++ (t ++ (b ++ (m ++ c)))))) ≡ length (k ++ (q ++ (a ++ (t ++ (b ++ c))))) + length m
apart k q a t b m c = simp length-append (omega arith)

-- metadata count beside the rest of a child
pub child_measured : (comma : List ℕ) (entry : Entry) → length (comma ++ child_text entry) ≡ length (comma ++ child_text (record entry { metadata = [] })) + length entry.metadata
unfolding child_text
child_measured comma entry = apart comma (quoted entry.name) (codes ":[\"") (node_kind entry.cap) (codes "\",{\"metadata\":") entry.metadata (codes "," ++ (node_members entry.cap ++ (codes "}]" ++ [])))

pub count_done : (last text : List ℕ) (at count : ℕ) → IsCountedTo last text at count → length text ≤ at → IsCountOfChildren text count
count_done last text at count counted past =
    let both = counted.read [] (ap (reading_after last) (drop_all at text past) ∙ read_none last) in
    record { read = both.0; is = (let e = both.1 in omega arith) }

-- ---- the whole

pub whole_is : (cap : Cap) (text end : List ℕ) (count : ℕ) → IsCountOfChildren text count → end ≡ dir_end cap → IsListingOf cap text (listing_left false false 0 text end)
unfolding dir_text
whole_is cap text end count counted is = record {
  entries = entries_in text;
  read = counted.read;
  is = ap (λ t. head_unless false ++ children_from false 0 text t) is ∙ ap (λ t. head_unless false ++ t) (parted_joined (map child_text (entries_in text)) (dir_end cap));
}

pub whole_counted : (text end head : List ℕ) (count left : ℕ) (spellings : List KeptSpelling) → IsCountOfChildren text count → AreSpellingsIn text spellings → head ≡ head_unless false → left ≡ length head + count + length end
    → IsListing 0 left text (listing_left false false 0 text end) spellings
whole_counted text end head count left spellings counted kept begun is =
    let joined = join_with_byte 44 (map child_text (entries_in text)) in
    let bare : count ≡ length joined = counted.is ∙ ap length (parted_joined (map child_text (entries_in text)) [] ∙ append-nil joined) in
    let all : length (children_from false 0 text end) ≡ length joined + length end = ap length (parted_joined (map child_text (entries_in text)) end) ∙ length-append joined end in
    let first = length-append (head_unless false) (children_from false 0 text end) in
    let size = ap length begun in
    record { readable = record { within = omega arith; read = counted.read }; counted = omega (arith, bare, all, first, size, is); kept = kept }
