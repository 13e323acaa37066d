use Rattle.std.proofs.Common.{◌≡◌, ℕ, List, ◌++◌, get_or, map, subst, sym, arith}
use Rattle.std.proofs.lemmas.List.FromFn.{get_or-map-range_with_len}
use Rattle.std.specs.List.{range_with_len}
use Rattle.aes_ctr.proofs.transposition.lower.Goals as goal

pub returns : goal.returns
returns c = λ f e i lt.
    subst (λ (v : List ℕ). get_or (map (λ k. get_or (v ++ v) k 0) (range_with_len 0 16)) i 0 ≡ f i) (sym e)
    (get_or-map-range_with_len f 0 16 i i 0 lt (omega arith))
