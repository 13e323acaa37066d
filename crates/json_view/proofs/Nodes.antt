-- What each node has, as the text of members.
use Rattle.std.proofs.Common.{◌≡◌, ℕ, ◌<◌, ◌^◌, true, false, List, [], ◌∷◌, ◌++◌, length, codes, decimal, Option, Some, None, Less, nat_cmp, refl, sym, ap, ◌∙◌, append_assoc, append-nil, rules}
use Rattle.std.specs.Cmp.Lexicographic.{slice_cmp}
use Rattle.serde_json.specs.Data.{Members, members_depth}
use Rattle.serde_json.specs.Written.{members_text, members_have_float}
use Rattle.serde_json.proofs.OnLiterals.{serde_json_on_literals}
use Rattle.caps.specs.declared.cap.Cap.{Cap}
use Rattle.caps.specs.declared.cap.Cap.TheVariants.{Chk, Lit, DirChk, DirLit, ChkVerify, DirChkVerify}
use Rattle.caps.specs.declared.cap.VerifyCap.{VerifyCap}
use Rattle.caps.specs.CapTexts.{cap_text}
use Rattle.caps.specs.Weakening.{weakened, cap_of}
use Rattle.json_spelling.specs.Sound.{IsBelowAll, MembersAreSound}
use Rattle.json_view.specs.Strings.{quoted}
use Rattle.json_view.specs.Nodes.{size_member, verify_member, node_members}
use Rattle.json_view.specs.Values.{file_size, size_value, verify_value, node_value}

verify_written : (verify : Option VerifyCap) → members_text true (verify_value verify) ≡ verify_member verify ++ 125 ∷ []
unfolding serde_json_on_literals quoted
verify_written None = refl
verify_written (Some verify) = sym (append_assoc (codes ",\"verify_uri\":") (quoted (cap_text (cap_of verify))) (125 ∷ []))

size_written : (cap : Cap) (more : Members) → members_text true (size_value cap more) ≡ size_member cap ++ members_text true more
unfolding serde_json_on_literals
size_written (Chk fields) more = sym (append_assoc (codes ",\"size\":") (decimal fields.size) (members_text true more))
size_written (Lit bytes) more = sym (append_assoc (codes ",\"size\":") (decimal (length bytes)) (members_text true more))
size_written (DirChk fields) more = refl
size_written (DirLit bytes) more = refl
size_written (ChkVerify fields) more = refl
size_written (DirChkVerify fields) more = refl

begun : List ℕ
begun = codes "\"mutable\":false,\"ro_uri\":"

cap_string : Cap → List ℕ
cap_string cap = quoted (cap_text cap)

closed : (b q s v : List ℕ) → b ++ (q ++ (s ++ (v ++ 125 ∷ []))) ≡ (b ++ (q ++ (s ++ (v ++ [])))) ++ 125 ∷ []
closed b q s v = simp (append_assoc, append-nil)

pub node_written : (cap : Cap) → members_text false (node_value cap) ≡ node_members cap ++ 125 ∷ []
unfolding serde_json_on_literals quoted node_members begun cap_string
node_written cap =
    let verify = weakened cap in
    ap (λ t. begun ++ (cap_string cap ++ t)) (size_written cap (verify_value verify) ∙ ap (λ t. size_member cap ++ t) (verify_written verify))
    ∙ closed begun (cap_string cap) (size_member cap) (verify_member verify)

pub node_sound : (cap : Cap) → file_size cap < 2 ^ 64 → MembersAreSound (node_value cap)
node_sound (Chk fields) fits = search (rules, fits)
node_sound (Lit bytes) fits = search (rules, fits)
node_sound (DirChk fields) fits = search rules
node_sound (DirLit bytes) fits = search rules
node_sound (ChkVerify fields) fits = search rules
node_sound (DirChkVerify fields) fits = search rules

pub node_whole : (cap : Cap) → members_have_float (node_value cap) ≡ false
node_whole (Chk fields) = refl
node_whole (Lit bytes) = refl
node_whole (DirChk fields) = refl
node_whole (DirLit bytes) = refl
node_whole (ChkVerify fields) = refl
node_whole (DirChkVerify fields) = refl

pub node_flat : (cap : Cap) → members_depth (node_value cap) ≡ 0
node_flat (Chk fields) = refl
node_flat (Lit bytes) = refl
node_flat (DirChk fields) = refl
node_flat (DirLit bytes) = refl
node_flat (ChkVerify fields) = refl
node_flat (DirChkVerify fields) = refl

abbrev IsBelow : List ℕ → List ℕ → Type 0
IsBelow key other = slice_cmp nat_cmp key other ≡ Less

-- a key that stands before those of a node
pub below_node : (key : List ℕ) (cap : Cap) → IsBelow key (codes "mutable") → IsBelow key (codes "ro_uri") → IsBelow key (codes "size") → IsBelow key (codes "verify_uri")
    → IsBelowAll key (node_value cap)
below_node key (Chk fields) m r s v = (m, (r, (s, (v, tt))))
below_node key (Lit bytes) m r s v = (m, (r, (s, tt)))
below_node key (DirChk fields) m r s v = (m, (r, (v, tt)))
below_node key (DirLit bytes) m r s v = (m, (r, tt))
below_node key (ChkVerify fields) m r s v = (m, (r, (v, tt)))
below_node key (DirChkVerify fields) m r s v = (m, (r, (v, tt)))
