use Rattle.std.proofs.Common.{◌≡◌, ℕ, List, map, ap, ◌∙◌, Vec, Global}
use Rattle.merkle.specs.Tree.{root}
use Rattle.share_codec.specs.declared.ueb.Ueb.{Ueb}
use Rattle.share_codec.specs.Shares.{share_leaves, ueb_hash}
use Rattle.cap_binding.proofs.Columns.{leaves_are, hash_is}
use Rattle.cap_binding.proofs.ExtensionEntries.{if_ok}
use Rattle.cap_binding.proofs.file_hash.ueb_hash.Goals as goal

pub returns : goal.returns
returns c =
    let items = λ (row : Vec (List ℕ) Global). row.items in
    let leaves : c.deref-2.result.now ≡ share_leaves c.args.params.now c.args.crypttext.now =
    c.deref-2.ensures.value ∙ c.in_ok-leaves.ensures
    ∙ leaves_are c.args.params.now c.args.crypttext.now (map items c.deref.result.now) (ap (map items) c.deref.ensures.value ∙ c.in_ok-rows.ensures.rows) in
    let roots : Ueb = record { crypttext_root = c.in_ok-crypttext_root.field-0; share_root = c.root.result } in
    if_ok c.extension_hash.result _ (λ hash. hash ≡ ueb_hash c.args.params.now c.args.crypttext.now)
    (λ hash e. hash_is c.args.params.now c.args.crypttext.now roots hash c.in_ok-crypttext_root.ensures (c.root.ensures ∙ ap root leaves) e)
    c.extension_hash.ensures
