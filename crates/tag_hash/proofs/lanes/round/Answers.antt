use Rattle.std.proofs.Common.{ℕ, List, get_or, slice_index, refl, ap}
use Rattle.sha2.specs.Sha256.{add32, big_sigma0, big_sigma1, ch, maj, temp1, temp2}
use Rattle.tag_hash.proofs.lanes.round.Goals as goal

pub returns : goal.returns
returns g c = λ vs x ev ex.
    let lane : ℕ → ℕ → ℕ = λ k j. slice_index (vs j) k in
    let v0 = (ap (λ (l : List g.row.L.Denot). get_or l 0 c.index-v-0.result) ev) in
    let v1 = (ap (λ (l : List g.row.L.Denot). get_or l 1 c.index-v-1.result) ev) in
    let v2 = (ap (λ (l : List g.row.L.Denot). get_or l 2 c.index-v-2.result) ev) in
    let v3 = (ap (λ (l : List g.row.L.Denot). get_or l 3 c.index-v-3.result) ev) in
    let v4 = (ap (λ (l : List g.row.L.Denot). get_or l 4 c.index-v-4.result) ev) in
    let v5 = (ap (λ (l : List g.row.L.Denot). get_or l 5 c.index-v-5.result) ev) in
    let v6 = (ap (λ (l : List g.row.L.Denot). get_or l 6 c.index-v-6.result) ev) in
    let v7 = (ap (λ (l : List g.row.L.Denot). get_or l 7 c.index-v-7.result) ev) in
    let sum1 = c.upper_sigma1.ensures (lane 4) v4 in
    let chosen = c.choice.ensures (lane 4) (lane 5) (lane 6) v4 v5 v6 in
    let sum0 = c.upper_sigma0.ensures (lane 0) v0 in
    let most = c.majority.ensures (lane 0) (lane 1) (lane 2) v0 v1 v2 in
    let one = c.plus.ensures (lane 7) (λ j. big_sigma1 (lane 4 j)) v7 sum1 in
    let two = c.plus-2.ensures (λ j. add32 (lane 7 j) (big_sigma1 (lane 4 j))) (λ j. ch (lane 4 j) (lane 5 j) (lane 6 j)) one chosen in
    let three = c.plus-3.ensures (λ j. add32 (add32 (lane 7 j) (big_sigma1 (lane 4 j))) (ch (lane 4 j) (lane 5 j) (lane 6 j))) (λ j. c.args.constant) two c.splat.ensures in
    let first = c.plus-first.ensures (λ j. add32 (add32 (add32 (lane 7 j) (big_sigma1 (lane 4 j))) (ch (lane 4 j) (lane 5 j) (lane 6 j))) c.args.constant) x three ex in
    let second = c.plus-second.ensures (λ j. big_sigma0 (lane 0 j)) (λ j. maj (lane 0 j) (lane 1 j) (lane 2 j)) sum0 most in
    let head = c.plus-4.ensures (λ j. temp1 (vs j) c.args.constant (x j)) (λ j. temp2 (vs j)) first second in
    let middle = c.plus-5.ensures (lane 3) (λ j. temp1 (vs j) c.args.constant (x j)) v3 first in
    rw (head, middle, ev) refl
