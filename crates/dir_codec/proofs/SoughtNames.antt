-- What a finder of a name knows as it goes on, and what it says at the end.
use Rattle.std.proofs.Common.{◌≡◌, ◌≤◌, ℕ, true, false, Bool, List, [], ◌∷◌, ◌++◌, length, drop, Option, Some, None, option_map, Result, Ok, Err, refl, sym, ap, ◌∙◌, arith, append-nil, length-drop}
use Rattle.std.proofs.lemmas.List.{drop_all}
use Rattle.std.proofs.lemmas.List.Folds.{find-append}
use Rattle.std.specs.Bool.{then_some}
use Rattle.std.specs.Option.{option_or}
use Rattle.std.specs.Prelude.{bytes_eq}
use Rattle.std.specs.Result.{result_ok}
use Rattle.dir_codec.specs.Reading.{before_more, reading_after, directory_reading, children}
use Rattle.dir_codec.specs.Parts.{first_entry}
use Rattle.json_spelling.specs.Judging.{IsJudging}
use Rattle.dir_codec.specs.Find.{child_named}
use Rattle.dir_codec.specs.Sought.{cap_of_child, sought_of, sought_among, sought_in, after_those, metadata_of_entry, IsFinding}
use Rattle.dir_codec.specs.declared.entry.Entry.{Entry}
use Rattle.dir_codec.specs.declared.fault.DirFault.{DirFault}
use Rattle.dir_codec.specs.declared.finder.Finder.{Finder}
use Rattle.json_spelling.specs.declared.judging.Judging.{Judging}
use Rattle.dir_codec.specs.declared.finder.Sought.TheVariants.{NoDirectory}
use Rattle.dir_codec.proofs.Steps.{after_none, after_one_more, read_all}

-- of two lists' first entries the first one counts
first_counts : (found : Option Entry) (entry : Entry) (is : Bool)
    → option_map (λ (e : Entry). e.cap) (option_or found (then_some is entry)) ≡ option_or (option_map (λ (e : Entry). e.cap) found) (then_some is entry.cap)
first_counts (Some found) entry is = refl
first_counts None entry true = refl
first_counts None entry false = refl

one_found : (name : List ℕ) (entry : Entry) → child_named name (entry ∷ []) ≡ then_some (bytes_eq entry.name name) entry
unfolding child_named
one_found name entry = by_case (bytes_eq entry.name name) refl
  where
    by_case : (is : Bool) → bytes_eq entry.name name ≡ is → child_named name (entry ∷ []) ≡ then_some (bytes_eq entry.name name) entry
    by_case true is = rw is refl
    by_case false is = rw is refl

-- the cap of a name among entries and one more
pub found_with_more : (name : List ℕ) (those : List Entry) (entry : Entry)
    → cap_of_child name (those ++ entry ∷ []) ≡ option_or (cap_of_child name those) (then_some (bytes_eq entry.name name) entry.cap)
unfolding child_named
found_with_more name those entry =
    ap (option_map (λ (e : Entry). e.cap)) (find-append (λ (e : Entry). bytes_eq e.name name) those (entry ∷ []) ∙ ap (option_or (child_named name those)) (one_found name entry))
    ∙ first_counts (child_named name those) entry (bytes_eq entry.name name)

-- before the first entry
pub none_read : (name text : List ℕ) (finder : Finder) → finder.name ≡ name → finder.last ≡ [] → finder.at ≡ 0 → finder.found ≡ None → finder.judging ≡ None → IsFinding name text finder
unfolding child_named directory_reading
none_read name text finder named last at found judging = record {
  entries = [];
  named = named;
  within = rw (at, judging) (omega arith);
  read = rw (last, at) (after_none (reading_after [] text));
  found = found;
  judging = rw judging tt;
}

-- with one more entry read, which ends at that place
pub one_more_read : (name text : List ℕ) (finder next : Finder) (entry : Entry) → IsFinding name text finder
    → reading_after finder.last (drop finder.at text) ≡ before_more entry (reading_after entry.name (drop next.at text)) → next.name ≡ finder.name → next.last ≡ entry.name → next.judging ≡ None
    → next.at ≤ length text → next.found ≡ option_or finder.found (then_some (bytes_eq entry.name finder.name) entry.cap) → IsFinding name text next
one_more_read name text finder next entry so first same last judging within found = record {
  entries = so.entries ++ entry ∷ [];
  named = same ∙ so.named;
  within = rw judging (omega arith);
  read = rw last (so.read ∙ ap (after_those so.entries) first ∙ after_one_more so.entries entry (reading_after entry.name (drop next.at text)));
  found = found ∙ rw (so.found, so.named) (sym (found_with_more name so.entries entry));
  judging = rw judging tt;
}

-- with more of the next entry's metadata judged
pub more_judged : (name text : List ℕ) (finder next : Finder) (judging : Judging) → IsFinding name text finder → next.name ≡ finder.name → next.last ≡ finder.last → next.at ≡ finder.at → next.found ≡ finder.found
    → next.judging ≡ Some judging → IsJudging (metadata_of_entry (first_entry (drop finder.at text))) judging → length (metadata_of_entry (first_entry (drop finder.at text))) ≤ length (drop finder.at text) → IsFinding name text next
more_judged name text finder next judging so named last at found is judged few =
    let within = so.within in
    let inside = judged.searched.within in
    let long = length-drop finder.at text in
    record {
      entries = so.entries;
      named = named ∙ so.named;
      within = rw (at, is) (omega arith);
      read = rw (at, last) so.read;
      found = found ∙ so.found;
      judging = rw (at, is) judged;
    }

-- where all was read
pub all_read : (name text : List ℕ) (finder : Finder) → IsFinding name text finder → length text ≤ finder.at → sought_of finder.found ≡ sought_in name text
unfolding sought_in
all_read name text finder so all =
    let none : drop finder.at text ≡ [] = drop_all finder.at text all in
    let read : directory_reading text ≡ Ok so.entries =
    so.read ∙ ap (λ rest. after_those so.entries (reading_after finder.last rest)) none ∙ ap (after_those so.entries) (read_all finder.last [] refl) ∙ ap Ok (append-nil so.entries) in
    ap sought_of so.found ∙ sym (ap (sought_among name) read)

-- where a fault was met
pub fault_read : (name text : List ℕ) (finder : Finder) (fault : DirFault) → IsFinding name text finder → reading_after finder.last (drop finder.at text) ≡ Err fault
    → NoDirectory ≡ sought_in name text
unfolding sought_in
fault_read name text finder fault so is = sym (ap (sought_among name) (so.read ∙ ap (after_those so.entries) is))

children_at : (name : List ℕ) (r : Result (List Entry) DirFault) (entries : List Entry) → result_ok r ≡ Some entries → sought_among name r ≡ sought_of (cap_of_child name entries)
children_at name (Ok found) entries is = ap (λ all. sought_of (cap_of_child name all)) (let h : Some found ≡ Some entries = is in cc)
children_at name (Err fault) entries is = absurd cc

-- what is sought, by the children of a text
pub sought_child : (name text : List ℕ) (entries : List Entry) → children text ≡ Some entries → sought_in name text ≡ sought_of (cap_of_child name entries)
unfolding sought_in children
sought_child name text entries is = children_at name (directory_reading text) entries is

none_at : (name : List ℕ) (r : Result (List Entry) DirFault) → result_ok r ≡ None → sought_among name r ≡ NoDirectory
none_at name (Ok found) is = absurd cc
none_at name (Err fault) is = refl

pub sought_nowhere : (name text : List ℕ) → children text ≡ None → sought_in name text ≡ NoDirectory
unfolding sought_in children
sought_nowhere name text is = none_at name (directory_reading text) is
