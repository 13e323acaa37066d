-- Whole replies, from the pieces that were put.
use Rattle.std.proofs.Common.{◌≡◌, ℕ, false, List, [], ◌∷◌, ◌++◌, map, codes, ap, ◌∙◌, append_assoc, append-nil}
use Rattle.std.specs.List.{concat, join_with_byte}
use Rattle.caps.specs.declared.cap.Cap.{Cap}
use Rattle.dir_codec.specs.declared.entry.Entry.{Entry}
use Rattle.json_view.specs.Strings.{quoted}
use Rattle.json_view.specs.Nodes.{node_kind, node_members, child_text, dir_text}
use Rattle.json_view.specs.Listings.{head_unless, dir_end}
use Rattle.json_view.proofs.Pushed.{three_put, four_put, last_put}

regroup : (a b c d e rest : List ℕ) → (a ++ (b ++ (c ++ (d ++ (e ++ []))))) ++ rest ≡ a ++ (b ++ (c ++ (d ++ (e ++ rest))))
regroup a b c d e rest = simp (append_assoc, append-nil)

pub child_put : (entry : Entry) (kind metadata name old x y z new : List ℕ) → name ≡ entry.name → kind ≡ node_kind entry.cap → metadata ≡ entry.metadata
    → x ≡ old ++ quoted name → y ≡ x ++ concat (codes ":[\"" ∷ kind ∷ codes "\",{\"metadata\":" ∷ metadata ∷ codes "," ∷ [])
    → z ≡ y ++ node_members entry.cap → new ≡ z ++ codes "}]" → new ≡ old ++ child_text entry
unfolding child_text
child_put entry kind metadata name old x y z new pn pk pm one two three four =
    four_put old (quoted entry.name) (concat (codes ":[\"" ∷ node_kind entry.cap ∷ codes "\",{\"metadata\":" ∷ entry.metadata ∷ codes "," ∷ [])) (node_members entry.cap) (codes "}]" ++ []) x y z new
    (one ∙ ap (λ t. old ++ quoted t) pn)
    (two ∙ (λ k. x ++ concat (codes ":[\"" ∷ pk k ∷ codes "\",{\"metadata\":" ∷ pm k ∷ codes "," ∷ [])))
    three (last_put _ _ _ four)
    ∙ ap (λ t. old ++ (quoted entry.name ++ t)) (regroup (codes ":[\"") (node_kind entry.cap) (codes "\",{\"metadata\":") entry.metadata (codes ",") (node_members entry.cap ++ (codes "}]" ++ [])))

pub dir_put : (cap : Cap) (entries lent : List Entry) (w x y new : List ℕ) → lent ≡ entries → w ≡ [] → x ≡ w ++ head_unless false → y ≡ x ++ join_with_byte 44 (map child_text lent)
    → new ≡ y ++ dir_end cap → new ≡ dir_text cap entries
unfolding dir_text
dir_put cap entries lent w x y new pl none one two three =
    three_put w (head_unless false) (join_with_byte 44 (map child_text entries)) (dir_end cap) x y new one (two ∙ ap (λ t. x ++ join_with_byte 44 (map child_text t)) pl) three
    ∙ ap (λ t. t ++ (head_unless false ++ (join_with_byte 44 (map child_text entries) ++ dir_end cap))) none
