-- What stands in a text is no longer than it.
use Rattle.std.proofs.Common.{◌≡◌, ℕ, zero, suc, ◌/◌, ◌%◌, nat_lt, ◌<◌, ◌≤◌, ◌^◌, Bool, true, false, cond, List, [], ◌∷◌, ◌++◌, length, map, codes, Ok, refl, ap, ◌∙◌, append-nil, arith}
use Rattle.std.specs.Prelude.{⊤, ◌↔◌}
use Rattle.std.proofs.lemmas.List.{length-append, length-map}
use Rattle.std.specs.Char.{digit_char}
use Rattle.std.specs.List.{concat, join_with_byte}
use Rattle.json.specs.Print.{escape_letter, escape_byte, escape}
use Rattle.base32_text.specs.Base32.{spelling}
use Rattle.base32_text.specs.Bits.{groups}
use Rattle.caps.specs.declared.cap.Cap.{Cap}
use Rattle.caps.specs.declared.cap.Cap.TheVariants.{Chk, Lit, DirChk, DirLit, ChkVerify, DirChkVerify}
use Rattle.caps.specs.CapTexts.{IsCapText, cap_text}
use Rattle.caps.specs.Reading.{cap_reading}
use Rattle.caps.specs.Weakening.{weakened}
use Rattle.dir_codec.specs.Entries.{IsEntry, AreEntriesAbove, IsDirectory}
use Rattle.dir_codec.specs.declared.entry.Entry.{Entry}
use Rattle.serde_json.specs.Written.{comma_if}
use Rattle.json_view.specs.Strings.{quoted}
use Rattle.json_view.specs.Nodes.{size_member, verify_member, node_kind, node_members, child_text, dir_text}
use Rattle.json_view.specs.Values.{file_size}
use Rattle.json_view.specs.Listings.{with_commas}
use Rattle.json_view.proofs.Commas.{parted_joined}

abbrev pub CapsAreRead : Type 0
CapsAreRead = (text : List ℕ) (cap : Cap) → IsCapText cap text ↔ (cap_reading text ≡ Ok cap)

abbrev pub SizesFit : List Entry → Type 0
SizesFit [] = ⊤
SizesFit (entry ∷ more) = (file_size entry.cap < 2 ^ 64) × SizesFit more

-- ---- bytes in base32, and between quotes

length-groups : (width count : ℕ) (bits : List ℕ) → length (groups width count bits) ≡ count
unfolding groups
length-groups width zero bits = refl
length-groups width (suc count) bits = ap suc (length-groups width count _)

spelling_long : (bytes : List ℕ) → length bytes ≤ length (spelling bytes)
unfolding spelling
spelling_long bytes = simp (length-map, length-groups) (omega arith)

long_either : (test : Bool) (xs ys : List ℕ) → 1 ≤ length xs → 1 ≤ length ys → 1 ≤ length (cond test xs ys)
long_either true xs ys a b = a
long_either false xs ys a b = b

escape_some : (byte : ℕ) → 1 ≤ length (escape_byte byte)
unfolding escape_byte
escape_some byte =
    let control = 92 ∷ 117 ∷ 48 ∷ 48 ∷ digit_char (byte / 16) ∷ digit_char (byte % 16) ∷ [] in
    long_either (nat_lt 0 (escape_letter byte)) (92 ∷ escape_letter byte ∷ []) (cond (nat_lt byte 32) control (byte ∷ [])) (omega arith)
    (long_either (nat_lt byte 32) control (byte ∷ []) (omega arith) (omega arith))

escape_long : (text : List ℕ) → length text ≤ length (escape text)
escape_long [] = omega arith
escape_long (byte ∷ text) =
    let some = escape_some byte in
    let more = escape_long text in
    simp length-append (omega (arith, some, more))

quoted_long : (text : List ℕ) → length text ≤ length (quoted text)
unfolding quoted
quoted_long text = let more = escape_long text in simp length-append (omega (arith, more))

-- ---- pieces

between : (a b c : List ℕ) → length b ≤ length (a ++ (b ++ c))
between a b c = simp length-append (omega arith)

seventh_of : (a b c d e f g h : List ℕ) → length g ≤ length (concat (a ∷ b ∷ c ∷ d ∷ e ∷ f ∷ g ∷ h ∷ []))
seventh_of a b c d e f g h = simp length-append (omega arith)

parts_below : (a b c : List ℕ) (n : ℕ) → length (a ++ (b ++ c)) < n → (length b < n) × (length c < n)
parts_below a b c n below =
    let whole = length-append a (b ++ c) in
    let rest = length-append b c in
    (omega (arith, below, whole, rest), omega (arith, below, whole, rest))

-- ---- sizes

cap_within : (cap : Cap) → length (cap_text cap) ≤ length (node_members cap)
unfolding node_members
cap_within cap =
    let text = quoted_long (cap_text cap) in
    let whole = between (codes "\"mutable\":false,\"ro_uri\":") (quoted (cap_text cap)) (concat (size_member cap ∷ verify_member (weakened cap) ∷ [])) in
    omega (arith, text, whole)

node_within : (entry : Entry) → length (node_members entry.cap) ≤ length (child_text entry)
unfolding child_text
node_within entry =
    seventh_of (quoted entry.name) (codes ":[\"") (node_kind entry.cap) (codes "\",{\"metadata\":") entry.metadata (codes ",") (node_members entry.cap) (codes "}]")

children_within : (cap : Cap) (entries : List Entry) → length (join_with_byte 44 (map child_text entries)) ≤ length (dir_text cap entries)
unfolding dir_text
children_within cap entries =
    between (codes "[\"dirnode\",{\"children\":{") (join_with_byte 44 (map child_text entries)) (concat (codes "}," ∷ node_members cap ∷ codes "}]" ∷ []))

-- the size of a stored file fits where its cap has a text, and that of a literal one where that text is short enough
size_fits : (cap : Cap) → IsCapText cap (cap_text cap) → length (cap_text cap) < 2 ^ 64 → file_size cap < 2 ^ 64
unfolding cap_text
size_fits (Chk fields) text below = text.2.size_fits
size_fits (Lit bytes) text below =
    let spelled = spelling_long bytes in
    let whole = length-append (codes "URI:LIT:") (spelling bytes) in
    omega (arith, spelled, whole, below)
size_fits (DirChk fields) text below = omega arith
size_fits (DirLit bytes) text below = omega arith
size_fits (ChkVerify fields) text below = omega arith
size_fits (DirChkVerify fields) text below = omega arith

child_fits : CapsAreRead → (entry : Entry) → IsEntry entry → length (child_text entry) < 2 ^ 64 → file_size entry.cap < 2 ^ 64
child_fits caps entry is below =
    let node = node_within entry in
    let cap = cap_within entry.cap in
    size_fits entry.cap ((caps (cap_text entry.cap) entry.cap).1 is.cap) (omega (arith, below, node, cap))

parted_fit : CapsAreRead → (later : Bool) (name : List ℕ) (entries : List Entry) → AreEntriesAbove name entries → length (with_commas later (map child_text entries) []) < 2 ^ 64 → SizesFit entries
parted_fit caps later name [] all below = tt
parted_fit caps later name (entry ∷ more) all below =
    let both = parts_below (comma_if later) (child_text entry) (with_commas true (map child_text more) []) (2 ^ 64) below in
    (child_fits caps entry all.1 both.0, parted_fit caps true entry.name more all.2 both.1)

pub sizes_fit : CapsAreRead → (cap : Cap) (entries : List Entry) → IsDirectory entries → length (dir_text cap entries) < 2 ^ 64 → SizesFit entries
sizes_fit caps cap entries all below =
    let joined = ap length (parted_joined (map child_text entries) [] ∙ append-nil (join_with_byte 44 (map child_text entries))) in
    let within = children_within cap entries in
    parted_fit caps false [] entries all (omega (arith, joined, within, below))
