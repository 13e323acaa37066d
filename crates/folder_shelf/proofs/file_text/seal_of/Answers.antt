use Rattle.std.proofs.Common.{ℕ, List, take, map, ap, ◌∙◌}
use Rattle.std.specs.Prelude.{codes}
use Rattle.std.specs.List.{concat}
use Rattle.sha2.specs.Sha256.{sha256}
use Rattle.tag_hash.specs.Tagged.{tagged}
use Rattle.folder_shelf.specs.Sealed.{seal}
use Rattle.folder_shelf.proofs.Parts.{map_now}
use Rattle.folder_shelf.proofs.file_text.seal_of.Goals as goal

pub returns : goal.returns
unfolding seal
returns c =
    let hash : List ℕ → List ℕ = tagged (codes "wozhinnam shelf seal") in
    let hashes = c.tagged_four-hashes.ensures
    ∙ (map_now hash c.four_parts.result ∙ ap (map hash) c.four_parts.ensures) in
    c.copy_from_slice.ensures.after
    ∙ ap (λ (digest : List ℕ). take 8 digest)
    (c.digest_of_all-digest.ensures ∙ ap (λ (pieces : List (List ℕ)). sha256 (concat pieces)) hashes)
