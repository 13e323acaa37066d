-- What is written is the value's text.
use Rattle.std.proofs.Common.{◌≡◌, ℕ, Bool, true, false, List, [], ◌∷◌, ◌++◌, map, codes, refl, sym, ap, ◌∙◌, append_assoc, append-nil}
use Rattle.std.specs.List.{concat, join_with_byte}
use Rattle.serde_json.specs.Data.{string}
use Rattle.serde_json.specs.Written.{comma_if, members_text, compact_text}
use Rattle.serde_json.proofs.OnLiterals.{serde_json_on_literals}
use Rattle.caps.specs.CapTexts.{cap_text}
use Rattle.caps.specs.declared.cap.Cap.{Cap}
use Rattle.caps.specs.declared.cap.Cap.TheVariants.{Chk, Lit, DirChk, DirLit, ChkVerify, DirChkVerify}
use Rattle.dir_codec.specs.Entries.{AreEntriesAbove, IsDirectory}
use Rattle.dir_codec.specs.declared.entry.Entry.{Entry}
use Rattle.json_view.specs.Listings.{with_commas}
use Rattle.json_view.proofs.Commas.{parted_joined}
use Rattle.client_core.specs.ChildrenJson.{kind, metadata_data, entry_value, entries_value, entry_member, children_text}
use Rattle.client_core.proofs.MetadataSpelled.{IsSpelled, spelled}

text_of : List ℕ → List ℕ
text_of text = compact_text (string text)

kind_quoted : (cap : Cap) → text_of (kind cap) ≡ 34 ∷ (kind cap ++ 34 ∷ [])
unfolding serde_json_on_literals text_of
kind_quoted (Chk fields) = refl
kind_quoted (Lit bytes) = refl
kind_quoted (DirChk fields) = refl
kind_quoted (DirLit bytes) = refl
kind_quoted (ChkVerify fields) = refl
kind_quoted (DirChkVerify fields) = refl

closed : (kind head text middle cap : List ℕ)
    → kind ++ 34 ∷ (head ++ (text ++ (middle ++ (cap ++ 125 ∷ 93 ∷ [])))) ≡ (kind ++ 34 ∷ []) ++ (head ++ ((text ++ (middle ++ (cap ++ 125 ∷ []))) ++ 93 ∷ []))
closed kind head text middle cap = simp append_assoc

entry_written : (entry : Entry) → IsSpelled (metadata_data entry) entry.metadata → entry_member entry ≡ text_of entry.name ++ 58 ∷ compact_text (entry_value entry)
unfolding serde_json_on_literals text_of entry_member
entry_written entry metadata =
    let quoted = sym (kind_quoted entry.cap) in
    ap (λ t. text_of entry.name ++ 58 ∷ 91 ∷ 34 ∷ t) (closed (kind entry.cap) (codes ",{\"metadata\":") entry.metadata (codes ",\"ro_uri\":") (text_of (cap_text entry.cap)))
    ∙ (λ i. text_of entry.name ++ 58 ∷ 91 ∷ (quoted i ++ (codes ",{\"metadata\":" ++ ((metadata.is i ++ (codes ",\"ro_uri\":" ++ (text_of (cap_text entry.cap) ++ 125 ∷ []))) ++ 93 ∷ []))))

entries_written : (later : Bool) (name : List ℕ) (entries : List Entry) → AreEntriesAbove name entries → with_commas later (map entry_member entries) (125 ∷ []) ≡ members_text later (entries_value entries)
unfolding text_of
entries_written later name [] all = refl
entries_written later name (entry ∷ more) all =
    let child = entry_written entry (spelled entry.metadata all.1.metadata) in
    let rest = entries_written true entry.name more all.2 in
    (λ i. comma_if later ++ (child i ++ rest i))
    ∙ ap (λ t. comma_if later ++ t) (append_assoc (text_of entry.name) (58 ∷ compact_text (entry_value entry)) (members_text true (entries_value more)))

pub all_written : (entries : List Entry) → IsDirectory entries → 123 ∷ (join_with_byte 44 (map entry_member entries) ++ 125 ∷ []) ≡ children_text entries
unfolding children_text
all_written entries all = ap (λ t. 123 ∷ t) (sym (parted_joined (map entry_member entries) (125 ∷ [])) ∙ entries_written false [] entries all)

pub whole_put : (entries : List Entry) → IsDirectory entries → (a b new : List ℕ) → a ≡ codes "{" → b ≡ a ++ join_with_byte 44 (map entry_member entries) → new ≡ b ++ codes "}" → new ≡ children_text entries
whole_put entries all a b new one two three =
    three ∙ ap (λ t. t ++ codes "}") (two ∙ ap (λ t. t ++ join_with_byte 44 (map entry_member entries)) one) ∙ all_written entries all

regroup : (old n a k b m d c e : List ℕ) → (((((((old ++ n) ++ a) ++ k) ++ b) ++ m) ++ d) ++ c) ++ e ≡ old ++ concat (n ∷ a ∷ k ∷ b ∷ m ∷ d ∷ c ∷ e ∷ [])
regroup old n a k b m d c e = simp (append_assoc, append-nil)

pub entry_put : (entry : Entry) (name word text cap old a b d e f g h new : List ℕ) → name ≡ entry.name → word ≡ kind entry.cap → text ≡ entry.metadata → cap ≡ cap_text entry.cap
    → a ≡ old ++ compact_text (string name) → b ≡ a ++ codes ":[\"" → d ≡ b ++ word → e ≡ d ++ codes "\",{\"metadata\":" → f ≡ e ++ text → g ≡ f ++ codes ",\"ro_uri\":"
    → h ≡ g ++ compact_text (string cap) → new ≡ h ++ codes "}]" → new ≡ old ++ entry_member entry
unfolding entry_member
entry_put entry name word text cap old a b d e f g h new pn pk pm pc p1 p2 p3 p4 p5 p6 p7 p8 =
    let one = p1 ∙ ap (λ t. old ++ compact_text (string t)) pn in
    let two = p2 ∙ ap (λ t. t ++ codes ":[\"") one in
    let three = p3 ∙ (λ i. two i ++ pk i) in
    let four = p4 ∙ ap (λ t. t ++ codes "\",{\"metadata\":") three in
    let five = p5 ∙ (λ i. four i ++ pm i) in
    let six = p6 ∙ ap (λ t. t ++ codes ",\"ro_uri\":") five in
    let seven = p7 ∙ (λ i. six i ++ compact_text (string (pc i))) in
    p8 ∙ ap (λ t. t ++ codes "}]") seven
    ∙ regroup old (compact_text (string entry.name)) (codes ":[\"") (kind entry.cap) (codes "\",{\"metadata\":") entry.metadata (codes ",\"ro_uri\":") (compact_text (string (cap_text entry.cap))) (codes "}]")
