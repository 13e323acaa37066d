-- The JSON of a directory as the text of a value.
use Rattle.std.proofs.Common.{◌≡◌, ℕ, ◌<◌, ◌≤◌, ◌^◌, Bool, true, false, List, [], ◌∷◌, ◌++◌, length, map, codes, Less, nat_cmp, refl, sym, ap, ◌∙◌, append_assoc, Some, arith}
use Rattle.std.proofs.lemmas.Cmp.{nat_list_cmp_total}
use Rattle.std.specs.Cmp.Lexicographic.{slice_cmp}
use Rattle.std.specs.List.{join_with_byte, list_all}
use Rattle.serde_json.specs.Data.{depth, members_depth}
use Rattle.serde_json.specs.Read.{read}
use Rattle.serde_json.specs.Written.{has_float, members_have_float, comma_if, members_text, compact_text}
use Rattle.serde_json.proofs.OnLiterals.{serde_json_on_literals}
use Rattle.caps.specs.declared.cap.Cap.{Cap}
use Rattle.caps.specs.declared.cap.Cap.TheVariants.{Chk, Lit, DirChk, DirLit, ChkVerify, DirChkVerify}
use Rattle.dir_codec.specs.Entries.{AreEntriesAbove, IsDirectory}
use Rattle.json_spelling.specs.Sound.{IsBelowAll, IsSound, MembersAreSound}
use Rattle.dir_codec.specs.declared.entry.Entry.{Entry}
use Rattle.json_view.specs.Strings.{quoted, needs_no_escape}
use Rattle.json_view.specs.Nodes.{node_kind, node_members, child_text, dir_text}
use Rattle.json_view.specs.Values.{file_size, metadata_value, child_value, children_value, dir_value}
use Rattle.json_view.specs.Listings.{with_commas}
use Rattle.json_view.proofs.Commas.{parted_joined}
use Rattle.json_view.proofs.Lengths.{CapsAreRead, SizesFit, sizes_fit}
use Rattle.json_view.proofs.Metadata.{IsTextOf, spelled_value}
use Rattle.json_view.proofs.Nodes.{node_written, node_sound, node_whole, node_flat, below_node}
use Rattle.json_view.proofs.Plain.{plain_text_quoted}
use Rattle.json_view.proofs.ReadBack.{ValuesAreReadBack, read_as}

-- ---- a child

kind_plain : (cap : Cap) → list_all needs_no_escape (node_kind cap) ≡ true
kind_plain (Chk fields) = refl
kind_plain (Lit bytes) = refl
kind_plain (DirChk fields) = refl
kind_plain (DirLit bytes) = refl
kind_plain (ChkVerify fields) = refl
kind_plain (DirChkVerify fields) = refl

child_closed : (kind head data_text node : List ℕ)
    → kind ++ 34 ∷ (head ++ (data_text ++ 44 ∷ (node ++ 125 ∷ 93 ∷ []))) ≡ (kind ++ 34 ∷ []) ++ (head ++ ((data_text ++ 44 ∷ (node ++ 125 ∷ [])) ++ 93 ∷ []))
child_closed kind head data_text node = simp append_assoc

child_written : (entry : Entry) → IsTextOf (metadata_value entry) entry.metadata → child_text entry ≡ quoted entry.name ++ 58 ∷ compact_text (child_value entry)
unfolding serde_json_on_literals quoted child_text
child_written entry metadata =
    let kind = sym (plain_text_quoted (node_kind entry.cap) (kind_plain entry.cap)) in
    let node = sym (node_written entry.cap) in
    ap (λ t. quoted entry.name ++ 58 ∷ 91 ∷ 34 ∷ t) (child_closed (node_kind entry.cap) (codes ",{\"metadata\":") entry.metadata (node_members entry.cap))
    ∙ (λ i. quoted entry.name ++ 58 ∷ 91 ∷ (kind i ++ (codes ",{\"metadata\":" ++ ((metadata.is i ++ 44 ∷ node i) ++ 93 ∷ []))))

child_sound : (entry : Entry) → IsTextOf (metadata_value entry) entry.metadata → file_size entry.cap < 2 ^ 64 → IsSound (child_value entry)
child_sound entry metadata fits =
    (tt, ((metadata.sound, below_node (codes "metadata") entry.cap refl refl refl refl, node_sound entry.cap fits), tt))

child_whole : (entry : Entry) → IsTextOf (metadata_value entry) entry.metadata → has_float (child_value entry) ≡ false
child_whole entry metadata = rw (metadata.whole, node_whole entry.cap) refl

child_shallow : (entry : Entry) → IsTextOf (metadata_value entry) entry.metadata → depth (child_value entry) ≤ 102
child_shallow entry metadata =
    let flat = node_flat entry.cap in
    let shallow = metadata.shallow in
    omega (arith, flat, shallow)

-- ---- the children

children_written : (later : Bool) (name : List ℕ) (entries : List Entry) → AreEntriesAbove name entries → with_commas later (map child_text entries) (125 ∷ []) ≡ members_text later (children_value entries)
unfolding quoted
children_written later name [] all = refl
children_written later name (entry ∷ more) all =
    let child = child_written entry (spelled_value entry.metadata all.1.metadata) in
    let rest = children_written true entry.name more all.2 in
    (λ i. comma_if later ++ (child i ++ rest i))
    ∙ ap (λ t. comma_if later ++ t) (append_assoc (quoted entry.name) (58 ∷ compact_text (child_value entry)) (members_text true (children_value more)))

above_lower : (lower name : List ℕ) (entries : List Entry) → slice_cmp nat_cmp lower name ≡ Less → AreEntriesAbove name entries → AreEntriesAbove lower entries
above_lower lower name [] below all = tt
above_lower lower name (entry ∷ more) below all = (nat_list_cmp_total.trans lower name entry.name below all.0, all.1, all.2)

below_children : (name : List ℕ) (entries : List Entry) → AreEntriesAbove name entries → IsBelowAll name (children_value entries)
below_children name [] all = tt
below_children name (entry ∷ more) all = (all.0, below_children name more (above_lower name entry.name more all.0 all.2))

children_sound : (name : List ℕ) (entries : List Entry) → AreEntriesAbove name entries → SizesFit entries → MembersAreSound (children_value entries)
children_sound name [] all fit = tt
children_sound name (entry ∷ more) all fit =
    (child_sound entry (spelled_value entry.metadata all.1.metadata) fit.0, below_children entry.name more all.2, children_sound entry.name more all.2 fit.1)

children_whole : (name : List ℕ) (entries : List Entry) → AreEntriesAbove name entries → members_have_float (children_value entries) ≡ false
children_whole name [] all = refl
children_whole name (entry ∷ more) all =
    rw (child_whole entry (spelled_value entry.metadata all.1.metadata), children_whole entry.name more all.2) refl

children_shallow : (name : List ℕ) (entries : List Entry) → AreEntriesAbove name entries → members_depth (children_value entries) ≤ 102
children_shallow name [] all = omega arith
children_shallow name (entry ∷ more) all =
    let child = child_shallow entry (spelled_value entry.metadata all.1.metadata) in
    let rest = children_shallow entry.name more all.2 in
    omega (arith, child, rest)

-- ---- the directory

head : List ℕ → List ℕ
head more = codes "[\"dirnode\",{\"children\":{" ++ more

dir_closed : (children node : List ℕ) → children ++ 125 ∷ 44 ∷ (node ++ 125 ∷ 93 ∷ []) ≡ ((children ++ 125 ∷ []) ++ 44 ∷ (node ++ 125 ∷ [])) ++ 93 ∷ []
dir_closed children node = simp append_assoc

pub dir_written : (cap : Cap) (entries : List Entry) → IsDirectory entries → dir_text cap entries ≡ compact_text (dir_value cap entries)
unfolding serde_json_on_literals dir_text head
dir_written cap entries all =
    let children = sym (parted_joined (map child_text entries) (125 ∷ [])) ∙ children_written false [] entries all in
    let node = sym (node_written cap) in
    ap head (dir_closed (join_with_byte 44 (map child_text entries)) (node_members cap))
    ∙ (λ i. head ((children i ++ 44 ∷ node i) ++ 93 ∷ []))

pub dir_read : ValuesAreReadBack → CapsAreRead → (cap : Cap) (entries : List Entry) → IsDirectory entries → file_size cap < 2 ^ 64 → length (dir_text cap entries) < 2 ^ 64
    → read (dir_text cap entries) ≡ Some (dir_value cap entries)
dir_read back caps cap entries all fits short =
    let flat = node_flat cap in
    let children = children_shallow [] entries all in
    let sound = children_sound [] entries all (sizes_fit caps cap entries all short) in
    read_as back (dir_text cap entries) (dir_value cap entries) (dir_written cap entries all)
    (tt, ((sound, below_node (codes "children") cap refl refl refl refl, node_sound cap fits), tt))
    (rw (children_whole [] entries all, node_whole cap) refl)
    (omega (arith, flat, children))
