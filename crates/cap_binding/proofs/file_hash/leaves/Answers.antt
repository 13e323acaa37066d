use Rattle.std.proofs.Common.{◌≡◌, ◌∷◌, ◌++◌, ℕ, List, [], length, map, ap, sym, ◌∙◌, arith, Vec, Global}
use Rattle.std.proofs.lemmas.List.{length-map}
use Rattle.std.proofs.lemmas.List.FromFn.{map-range_with_len_more}
use Rattle.merkle.specs.Tree.{root}
use Rattle.cap_binding.specs.BlockHashes.{hashes_of_share}
use Rattle.cap_binding.proofs.Columns.{length-hashes_of_share}
use Rattle.cap_binding.proofs.file_hash.leaves.Goals as goal

pub root-requires : goal.root-requires
root-requires c =
    let rows : List (List (List ℕ)) = map (λ (row : Vec (List ℕ) Global). row.items) c.args.rows.now in
    let many : length c.deref.result.now ≡ length c.args.rows.now = ap length (c.deref.ensures.value ∙ c.in_ok-hashes.ensures) ∙ length-hashes_of_share rows c.loop-number.number ∙ length-map c.args.rows.now (λ (row : Vec (List ℕ) Global). row.items) in
    omega (arith, many, c.requires.some)

pub loop-number-preserved : goal.loop-number-preserved
loop-number-preserved c =
    let rows : List (List (List ℕ)) = map (λ (row : Vec (List ℕ) Global). row.items) c.args.rows.now in
    let at : ℕ → List ℕ = λ i. root (hashes_of_share rows i) in
    let leaf : c.root.result ≡ at c.loop-number.number = c.root.ensures ∙ ap root (c.deref.ensures.value ∙ c.in_ok-hashes.ensures) in
    c.in_ok-push.ensures.items ∙ (λ i. c.loop-number.invariant i ++ leaf i ∷ [])
    ∙ sym (map-range_with_len_more at 0 c.loop-number.number c.loop-number.number (omega arith))
