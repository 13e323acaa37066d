-- The JSON of a directory that is made of the directory's text as it is taken. Read IsListingOf; all that follows is for
-- the models of a listing and of a count, and for private clauses.
use Rattle.std.specs.Prelude.{◌≡◌, ℕ, ◌+◌, ◌<◌, ◌≤◌, nat_lt, Bool, true, false, List, [], ◌∷◌, ◌++◌, length, map, drop, codes, Option, Result, Ok, Err, if◌then◌else◌}
use Rattle.std.specs.List.{concat}
use Rattle.serde_json.specs.Written.{comma_if}
use Rattle.caps.specs.declared.cap.Cap.{Cap}
use Rattle.dir_codec.specs.Reading.{reading_after, directory_reading}
use Rattle.dir_codec.specs.declared.entry.Entry.{Entry}
use Rattle.dir_codec.specs.declared.fault.DirFault.{DirFault}
use Rattle.json_spelling.specs.declared.metadata_speller.MetadataSpeller.{MetadataSpeller}
use Rattle.json_view.specs.declared.kept_spelling.KeptSpelling.{KeptSpelling}
use Rattle.json_view.specs.KeptSpellings.{AreSpellingsIn, IsFirstSpeller}
use Rattle.json_view.specs.Nodes.{node_members, child_text, dir_text}

-- the JSON of the directory whose text this is
pub record IsListingOf (cap : Cap) (text json : List ℕ) : Type 0 where
  pub entries : List Entry
  pub read : directory_reading text ≡ Ok entries
  pub is : json ≡ dir_text cap entries

abbrev pub entries_read : Result (List Entry) DirFault → List Entry
entries_read (Ok entries) = entries
entries_read (Err fault) = []

-- the entries of a text, none where it has a fault
abbrev pub entries_in : List ℕ → List Entry
entries_in text = entries_read (directory_reading text)

-- each text with the comma that stands before it, and then an end
abbrev pub with_commas : Bool → List (List ℕ) → List ℕ → List ℕ
with_commas later [] end = end
with_commas later (text ∷ more) end = comma_if later ++ (text ++ with_commas true more end)

-- what stands before the first child
abbrev pub head_unless : Bool → List ℕ
head_unless later = if later then [] else codes "[\"dirnode\",{\"children\":{"

-- what stands behind the last child
abbrev pub dir_end : Cap → List ℕ
dir_end cap = concat (codes "}," ∷ node_members cap ∷ codes "}]" ∷ [])

-- the children whose entries stand from a place of a text on, and then an end
abbrev pub children_from : Bool → ℕ → List ℕ → List ℕ → List ℕ
children_from later at text end = with_commas later (map child_text (entries_in (drop at text))) end

-- what is left where a listing has come to a place of a text; past its end nothing is
abbrev pub listing_left : Bool → Bool → ℕ → List ℕ → List ℕ → List ℕ
listing_left ended later at text end = if ended then [] else (head_unless later ++ children_from later at text end)

-- a text has no fault from a place on
pub record IsReadable (at : ℕ) (text : List ℕ) : Type 0 where
  pub within : at ≤ length text
  pub read : directory_reading (drop at text) ≡ Ok (entries_in (drop at text))

-- a listing has come to a place of a text, counts the bytes that are left, and keeps these spellings
pub record IsListing (at left : ℕ) (text bytes : List ℕ) (spellings : List KeptSpelling) : Type 0 where
  pub readable : IsReadable at text
  pub counted : left ≡ length bytes
  pub kept : AreSpellingsIn text spellings

-- a text has no fault, and its children so many bytes with the commas between them
pub record IsCountOfChildren (text : List ℕ) (count : ℕ) : Type 0 where
  pub read : directory_reading text ≡ Ok (entries_in text)
  pub is : count ≡ length (children_from false 0 text [])

-- the entries from a place of a text on, behind one of that name, make up what is not counted yet
pub record IsCountedTo (last text : List ℕ) (at count : ℕ) : Type 0 where
  pub within : at ≤ length text
  pub read : (more : List Entry) → reading_after last (drop at text) ≡ Ok more
      → (directory_reading text ≡ Ok (entries_in text)) × (count + length (with_commas (nat_lt 0 at) (map child_text more) []) ≡ length (children_from false 0 text []))
  pub refused : (fault : DirFault) → reading_after last (drop at text) ≡ Err fault → directory_reading text ≡ Err fault

-- how many bytes the children of a text have, or the fault in it
abbrev pub IsCountOrFault : List ℕ → Result ℕ DirFault → Type 0
IsCountOrFault text (Ok count) = IsCountOfChildren text count
IsCountOrFault text (Err fault) = directory_reading text ≡ Err fault

-- a count has come to a place of a text and keeps these spellings; it may be spelling the metadata of the next entry
pub record IsCounting (last text : List ℕ) (at count : ℕ) (speller : Option MetadataSpeller) (spellings : List KeptSpelling) : Type 0 where
  pub counted : IsCountedTo last text at count
  pub spelling : IsFirstSpeller (drop at text) speller
  pub kept : AreSpellingsIn text spellings

-- what comes of a count, and the spellings that it has kept
pub record IsCountedText (text : List ℕ) (children : Result ℕ DirFault) (spellings : List KeptSpelling) : Type 0 where
  pub is : IsCountOrFault text children
  pub kept : AreSpellingsIn text spellings

-- the children from one place to another were put; whether others stand before the one, and before the other
pub record AreChildrenPut (text : List ℕ) (later : Bool) (from : ℕ) (old new : List ℕ) (after : Bool) (at : ℕ) : Type 0 where
  pub readable : IsReadable at text
  pub put : (end : List ℕ) → old ++ children_from later from text end ≡ new ++ children_from after at text end

-- the next bytes, and the place to which they come
pub record IsPiece (text end : List ℕ) (later : Bool) (at : ℕ) (piece : List ℕ) (next : ℕ) (ended : Bool) : Type 0 where
  pub readable : IsReadable next text
  pub some : ended ≡ false → 0 < length piece
  pub is : listing_left false later at text end ≡ piece ++ listing_left ended true next text end
