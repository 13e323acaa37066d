use Rattle.std.proofs.Common.{◌≡◌, ◌<◌, ◌∷◌, ◌++◌, ℕ, List, [], length, get_or, ap, sym, ◌∙◌, subst, Vec, Global}
use Rattle.std.proofs.lemmas.List.{get_or_default}
use Rattle.cap_binding.specs.BlockHashes.{hashes_of_share}
use Rattle.cap_binding.proofs.Columns.{column_more}
use Rattle.cap_binding.proofs.file_hash.share_hashes.Goals as goal

pub loop-row-init : goal.loop-row-init
unfolding hashes_of_share
loop-row-init c = c.in_ok-hashes.ensures.items

pub loop-row-preserved : goal.loop-row-preserved
loop-row-preserved c =
    let row = c.row-item.result in
    let wide : c.args.number < length row.items = subst (λ (r : Vec (List ℕ) Global). c.args.number < length r.items) (sym c.row-item.is) (c.requires c.loop-row.row-index row c.loop-row-test.true) in
    let hash : c.index.result.now ≡ get_or row.items c.args.number [] = c.index.ensures ∙ get_or_default row.items c.args.number c.index.result.now [] wide in
    c.in_ok-push.ensures.items ∙ ap (λ hs. hs ++ c.index.result.now ∷ []) c.loop-row.invariant
    ∙ column_more c.args.rows.now c.loop-row.row-index c.args.number row c.index.result.now c.loop-row-test.true c.row-item.is hash
