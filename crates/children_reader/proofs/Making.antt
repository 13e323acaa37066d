-- Children that JSON names.
use Rattle.std.proofs.Common.{◌≡◌, ◌==◌, ℕ, Bool, true, false, cond, List, [], ◌∷◌, length, codes, Option, Some, None, is_some, option_and_then, Result, Ok, Err, refl, sym, ap, ◌∙◌}
use Rattle.std.specs.Prelude.{bytes_eq, ◌↔◌}
use Rattle.std.proofs.lemmas.Cmp.{nat_list_cmp_total}
use Rattle.std.proofs.lemmas.Map.Text.{is_eq-slice_cmp}
use Rattle.std.specs.Cmp.Lexicographic.{slice_cmp, nat_list_eq_equiv}
use Rattle.std.specs.Result.{result_ok}
use Rattle.std.specs.Ordering.{nat_cmp, is_eq, is_lt, match_ordering, ordering_reverse}
use Rattle.std.specs.declared.cmp.Ordering.{Ordering}
use Rattle.std.specs.declared.cmp.Ordering.TheVariants.{Less, Equal, Greater}
use Rattle.std.specs.declared.alloc.Global.{Global}
use Rattle.std.specs.Prelude.{String, string_bytes}
use Rattle.std.specs.String.{string_cmp}
use Rattle.std.specs.BTreeMap.{insert_entry, is_at}
use Rattle.std.specs.Map.{lookup}
use Rattle.serde_json.specs.Data.{Data, Members, member}
use Rattle.serde_json.specs.Find.{get, as_str, as_object}
use Rattle.caps.specs.declared.cap.Cap.{Cap}
use Rattle.dir_codec.specs.Names.{IsAbove, nfc_text}
use Rattle.json_spelling.specs.Metadata.{json_of}
use Rattle.dir_codec.specs.Entries.{IsEntry, AreEntriesAbove}
use Rattle.dir_codec.specs.Find.{child_named}
use Rattle.children_reader.specs.Named.{entry_of_child, entries_of}
use Rattle.dir_codec.specs.Reading.{child_reading}
use Rattle.children_reader.specs.Children.{then_make, or_dir_fault, fields_of, has_write, metadata_made, with_fields, entry_of_fields, entry_made, inserted, with_entry, making_after, making, made}
use Rattle.dir_codec.specs.declared.entry.Entry.{Entry}
use Rattle.children_reader.specs.declared.child.Child.{Child}
use Rattle.dir_codec.specs.declared.fault.DirFault.{DirFault}
use Rattle.dir_codec.specs.declared.fault.DirFault.TheVariants.{BadName, WriteCap, NotJson, BadShape, SameName}
use Rattle.dir_codec.proofs.Belong.{ok_is}

-- ---- the fields of a child

abbrev pub uri_in : Data → Option (List ℕ)
uri_in fields = option_and_then as_str (get (codes "ro_uri") fields)

pub fields_none : (name : List ℕ) (fields : Data) → uri_in fields ≡ None → entry_of_fields name fields ≡ Err BadShape
unfolding entry_of_fields
fields_none name fields none = ap (λ o. then_make (λ uri. cond (length name == 0) (Err BadName) (with_fields name fields uri)) (or_dir_fault BadShape o)) none

pub fields_some : (name : List ℕ) (fields : Data) (uri : List ℕ) (b : Bool) → uri_in fields ≡ Some uri → (length name == 0) ≡ b → entry_of_fields name fields ≡ cond b (Err BadName) (with_fields name fields uri)
unfolding entry_of_fields
fields_some name fields uri b some is =
    ap (λ o. then_make (λ uri. cond (length name == 0) (Err BadName) (with_fields name fields uri)) (or_dir_fault BadShape o)) some
    ∙ ap (λ c. cond c (Err BadName) (with_fields name fields uri)) is

-- what follows once the cap is known
abbrev pub with_known : List ℕ → Data → Cap → Result Entry DirFault
with_known name fields cap =
    cond (has_write (get (codes "rw_uri") fields)) (Err WriteCap)
    (then_make (λ metadata. Ok (record { name = name; cap = cap; metadata = metadata })) (metadata_made (get (codes "metadata") fields)))

pub cap_fault : (name : List ℕ) (fields : Data) (uri : List ℕ) (fault : DirFault) → child_reading uri ≡ Err fault → with_fields name fields uri ≡ Err fault
cap_fault name fields uri fault is = ap (then_make (with_known name fields)) is

pub cap_known : (name : List ℕ) (fields : Data) (uri : List ℕ) (cap : Cap) → child_reading uri ≡ Ok cap → with_fields name fields uri ≡ with_known name fields cap
cap_known name fields uri cap is = ap (then_make (with_known name fields)) is

pub write_known : (name : List ℕ) (fields : Data) (cap : Cap) → has_write (get (codes "rw_uri") fields) ≡ true → with_known name fields cap ≡ Err WriteCap
write_known name fields cap is =
    ap (λ b. cond b (Err WriteCap) (then_make (λ metadata. Ok (record { name = name; cap = cap; metadata = metadata })) (metadata_made (get (codes "metadata") fields)))) is

pub metadata_known : (name : List ℕ) (fields : Data) (cap : Cap) (r : Result (List ℕ) DirFault) → has_write (get (codes "rw_uri") fields) ≡ false → metadata_made (get (codes "metadata") fields) ≡ r
    → with_known name fields cap ≡ then_make (λ metadata. Ok (record { name = name; cap = cap; metadata = metadata })) r
metadata_known name fields cap r none is =
    ap (λ b. cond b (Err WriteCap) (then_make (λ metadata. Ok (record { name = name; cap = cap; metadata = metadata })) (metadata_made (get (codes "metadata") fields)))) none
    ∙ ap (then_make (λ metadata. Ok (record { name = name; cap = cap; metadata = metadata }))) is

-- ---- a member

pub made_none : (key : List ℕ) (node : Data) → fields_of node ≡ None → entry_made key node ≡ Err BadShape
unfolding entry_made
made_none key node none = ap (λ o. then_make (entry_of_fields (nfc_text key)) (or_dir_fault BadShape o)) none

pub made_some : (key : List ℕ) (node fields : Data) (name : List ℕ) → fields_of node ≡ Some fields → name ≡ nfc_text key → entry_made key node ≡ entry_of_fields name fields
unfolding entry_made
made_some key node fields name some is = ap (λ o. then_make (entry_of_fields (nfc_text key)) (or_dir_fault BadShape o)) some ∙ ap (λ n. entry_of_fields n fields) (sym is)

-- ---- the members, one after another

pub make_next : (entries : List Entry) (key : List ℕ) (node : Data) (more : Members) (entry : Entry) (all : List Entry) → entry_made key node ≡ Ok entry → with_entry entries entry ≡ Ok all → making_after entries (member key node more) ≡ making_after all more
make_next entries key node more entry all made with = ap (λ r. then_make (λ all. making_after all more) (then_make (with_entry entries) r)) made ∙ ap (then_make (λ all. making_after all more)) with

pub make_fault : (entries : List Entry) (key : List ℕ) (node : Data) (more : Members) (entry : Entry) (fault : DirFault) → entry_made key node ≡ Ok entry → with_entry entries entry ≡ Err fault → making_after entries (member key node more) ≡ Err fault
make_fault entries key node more entry fault made with = ap (λ r. then_make (λ all. making_after all more) (then_make (with_entry entries) r)) made ∙ ap (then_make (λ all. making_after all more)) with

-- ---- names in a map, and in a list

pub named_test : (a b : List ℕ) → bytes_eq b a ≡ is_eq (slice_cmp nat_cmp a b)
named_test a b = nat_list_eq_equiv.symm b a ∙ sym (is_eq-slice_cmp a b)

either_some : {A B : Type 0} (b : Bool) (x : A) (y : B) (o : Option A) (p : Option B) → is_some o ≡ is_some p → is_some (cond b (Some x) o) ≡ is_some (cond b (Some y) p)
either_some true x y o p is = refl
either_some false x y o p is = is

pub stands : (name : String Global) (children : List (String Global × Child)) → is_some (child_named (string_bytes name) (entries_of children)) ≡ is_some (lookup (is_at (string_cmp name)) children)
unfolding child_named
stands name [] = refl
stands name (e ∷ es) = rw (named_test (string_bytes name) (string_bytes e.0)) (either_some (is_eq (slice_cmp nat_cmp (string_bytes name) (string_bytes e.0))) (entry_of_child e) e.1 _ _ (stands name es))

none_of : {A : Type 0} (o : Option A) → is_some o ≡ false → o ≡ None
none_of (Some x) is = absurd cc
none_of None is = refl

-- a name that stands already
pub same_name : (name : String Global) (child : Child) (children : List (String Global × Child)) (old : Option Child) → old ≡ lookup (is_at (string_cmp name)) children → is_some old ≡ true → with_entry (entries_of children) (entry_of_child (name, child)) ≡ Err SameName
unfolding with_entry
same_name name child children old is some = ap (λ b. cond b (Err SameName) (Ok (inserted (entry_of_child (name, child)) (entries_of children)))) (stands name children ∙ ap is_some (sym is) ∙ some)

placed_at : (name : String Global) (child : Child) (e : String Global × Child) (es : List (String Global × Child)) (o : Ordering) (rest : Option Child) → cond (is_eq o) (Some e.1) rest ≡ None
    → (rest ≡ None → entries_of (insert_entry string_cmp es name child) ≡ inserted (entry_of_child (name, child)) (entries_of es))
    → entries_of (match_ordering o ((name, child) ∷ e ∷ es) ((e.0, child) ∷ es) (e ∷ insert_entry string_cmp es name child))
    ≡ cond (is_lt o) (entry_of_child (name, child) ∷ entry_of_child e ∷ entries_of es) (entry_of_child e ∷ inserted (entry_of_child (name, child)) (entries_of es))
placed_at name child e es Less rest none more = refl
placed_at name child e es Equal rest none more = absurd cc
placed_at name child e es Greater rest none more = ap (λ t. entry_of_child e ∷ t) (more none)

placed : (name : String Global) (child : Child) (children : List (String Global × Child)) → lookup (is_at (string_cmp name)) children ≡ None → entries_of (insert_entry string_cmp children name child) ≡ inserted (entry_of_child (name, child)) (entries_of children)
placed name child [] none = refl
placed name child (e ∷ es) none = placed_at name child e es (slice_cmp nat_cmp (string_bytes name) (string_bytes e.0)) (lookup (is_at (string_cmp name)) es) none (λ rest. placed name child es rest)

-- a new name
pub new_name : (name : String Global) (child : Child) (children new : List (String Global × Child)) (old : Option Child) → old ≡ lookup (is_at (string_cmp name)) children → is_some old ≡ false → new ≡ insert_entry string_cmp children name child
    → with_entry (entries_of children) (entry_of_child (name, child)) ≡ Ok (entries_of new)
unfolding with_entry
new_name name child children new old is none made =
    let absent = sym is ∙ none_of old none in
    ap (λ b. cond b (Err SameName) (Ok (inserted (entry_of_child (name, child)) (entries_of children)))) (stands name children ∙ ap is_some absent)
    ∙ ap Ok (sym (ap entries_of made ∙ placed name child children absent))

pub found_in : (entry : Entry) (name : List ℕ) (b : Bool) (o : Option Entry) → cond b (Some entry) o ≡ None → (b ≡ false) × (o ≡ None)
found_in entry name true o none = absurd cc
found_in entry name false o none = (refl, none)

inserted_at : (low : List ℕ) (entry other : Entry) (more : List Entry) (o : Ordering) → slice_cmp nat_cmp entry.name other.name ≡ o → is_eq o ≡ false → AreEntriesAbove low (other ∷ more) → IsEntry entry → IsAbove entry.name low
    → (IsAbove entry.name other.name → AreEntriesAbove other.name (inserted entry more)) → AreEntriesAbove low (cond (is_lt o) (entry ∷ other ∷ more) (other ∷ inserted entry more))
inserted_at low entry other more Less is apart all kept above rest = (above, kept, (is, all.1, all.2))
inserted_at low entry other more Equal is apart all kept above rest = absurd cc
inserted_at low entry other more Greater is apart all kept above rest = (all.0, all.1, rest (nat_list_cmp_total.antisymm other.name entry.name ∙ ap ordering_reverse is))

-- entries stay in order
pub inserted_above : (low : List ℕ) (entry : Entry) (entries : List Entry) → AreEntriesAbove low entries → IsEntry entry → IsAbove entry.name low → child_named entry.name entries ≡ None → AreEntriesAbove low (inserted entry entries)
unfolding child_named
inserted_above low entry [] all kept above none = (above, kept, tt)
inserted_above low entry (other ∷ more) all kept above none =
    let parts = found_in other entry.name (bytes_eq other.name entry.name) (child_named entry.name more) none in
    inserted_at low entry other more (slice_cmp nat_cmp entry.name other.name) refl (sym (named_test entry.name other.name) ∙ parts.0) all kept above
    (λ higher. inserted_above other.name entry more all.2 kept higher parts.1)

pub new_above : (name : String Global) (child : Child) (children new : List (String Global × Child)) (old : Option Child) → old ≡ lookup (is_at (string_cmp name)) children → is_some old ≡ false → new ≡ insert_entry string_cmp children name child
    → AreEntriesAbove [] (entries_of children) → IsEntry (entry_of_child (name, child)) → IsAbove (string_bytes name) [] → AreEntriesAbove [] (entries_of new)
new_above name child children new old is none made all kept above =
    let absent = sym is ∙ none_of old none in
    let lacks = none_of (child_named (string_bytes name) (entries_of children)) (stands name children ∙ ap is_some absent) in
    rw (made, placed name child children absent) (inserted_above [] (entry_of_child (name, child)) (entries_of children) all kept above lacks)

-- ---- the whole

pub no_json : (json : List ℕ) → json_of json ≡ None → making json ≡ Err NotJson
unfolding making
no_json json none = ap (λ o. then_make (λ d. then_make (making_after []) (or_dir_fault BadShape (as_object d))) (or_dir_fault NotJson o)) none

pub no_object : (json : List ℕ) (d : Data) → json_of json ≡ Some d → as_object d ≡ None → making json ≡ Err BadShape
unfolding making
no_object json d is none = ap (λ o. then_make (λ d. then_make (making_after []) (or_dir_fault BadShape (as_object d))) (or_dir_fault NotJson o)) is ∙ ap (λ o. then_make (making_after []) (or_dir_fault BadShape o)) none

pub of_members : (json : List ℕ) (d : Data) (ms : Members) → json_of json ≡ Some d → as_object d ≡ Some ms → making json ≡ making_after [] ms
unfolding making
of_members json d ms is some = ap (λ o. then_make (λ d. then_make (making_after []) (or_dir_fault BadShape (as_object d))) (or_dir_fault NotJson o)) is ∙ ap (λ o. then_make (making_after []) (or_dir_fault BadShape o)) some

pub made_are : (entries : List Entry) (json : List ℕ) → (made json ≡ Some entries) ↔ (making json ≡ Ok entries)
unfolding made
made_are entries json = (λ is. ok_is (making json) entries is, λ is. ap result_ok is)
