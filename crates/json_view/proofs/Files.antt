-- The JSON of a file as the text of a value.
use Rattle.std.proofs.Common.{◌≡◌, ℕ, ◌<◌, ◌^◌, List, [], ◌∷◌, ◌++◌, codes, refl, sym, ap, ◌∙◌, append_assoc, Some, arith}
use Rattle.serde_json.specs.Read.{read}
use Rattle.serde_json.specs.Written.{compact_text}
use Rattle.serde_json.proofs.OnLiterals.{serde_json_on_literals}
use Rattle.caps.specs.declared.cap.Cap.{Cap}
use Rattle.json_view.specs.Nodes.{node_members, file_text}
use Rattle.json_view.specs.Values.{file_value, file_size}
use Rattle.json_view.proofs.Nodes.{node_written, node_sound, node_whole, node_flat}
use Rattle.json_view.proofs.ReadBack.{ValuesAreReadBack, read_as}

head : List ℕ → List ℕ
head more = codes "[\"filenode\",{" ++ more

pub file_written : (cap : Cap) → file_text cap ≡ compact_text (file_value cap)
unfolding serde_json_on_literals file_text head
file_written cap =
    ap head (sym (append_assoc (node_members cap) (125 ∷ []) (93 ∷ [])))
    ∙ ap (λ t. head (t ++ 93 ∷ [])) (sym (node_written cap))

pub file_read : ValuesAreReadBack → (cap : Cap) → file_size cap < 2 ^ 64 → read (file_text cap) ≡ Some (file_value cap)
file_read back cap fits =
    let flat = node_flat cap in
    read_as back (file_text cap) (file_value cap) (file_written cap) (tt, (node_sound cap fits, tt)) (rw (node_whole cap) refl) (omega (arith, flat))
