use Rattle.std.proofs.Common.{ℕ, List, get_or, slice_index, refl, ap}
use Rattle.tag_hash.proofs.lanes.sums.Goals as goal

pub returns : goal.returns
returns g c = λ hs vs eh ev.
    let lane : (ℕ → List ℕ) → ℕ → ℕ → ℕ = λ ls k j. slice_index (ls j) k in
    let e0 = c.plus.ensures (lane hs 0) (lane vs 0) (ap (λ (l : List g.row.L.Denot). get_or l 0 c.index-h-0.result) eh) (ap (λ (l : List g.row.L.Denot). get_or l 0 c.index-v-0.result) ev) in
    let e1 = c.plus-2.ensures (lane hs 1) (lane vs 1) (ap (λ (l : List g.row.L.Denot). get_or l 1 c.index-h-1.result) eh) (ap (λ (l : List g.row.L.Denot). get_or l 1 c.index-v-1.result) ev) in
    let e2 = c.plus-3.ensures (lane hs 2) (lane vs 2) (ap (λ (l : List g.row.L.Denot). get_or l 2 c.index-h-2.result) eh) (ap (λ (l : List g.row.L.Denot). get_or l 2 c.index-v-2.result) ev) in
    let e3 = c.plus-4.ensures (lane hs 3) (lane vs 3) (ap (λ (l : List g.row.L.Denot). get_or l 3 c.index-h-3.result) eh) (ap (λ (l : List g.row.L.Denot). get_or l 3 c.index-v-3.result) ev) in
    let e4 = c.plus-5.ensures (lane hs 4) (lane vs 4) (ap (λ (l : List g.row.L.Denot). get_or l 4 c.index-h-4.result) eh) (ap (λ (l : List g.row.L.Denot). get_or l 4 c.index-v-4.result) ev) in
    let e5 = c.plus-6.ensures (lane hs 5) (lane vs 5) (ap (λ (l : List g.row.L.Denot). get_or l 5 c.index-h-5.result) eh) (ap (λ (l : List g.row.L.Denot). get_or l 5 c.index-v-5.result) ev) in
    let e6 = c.plus-7.ensures (lane hs 6) (lane vs 6) (ap (λ (l : List g.row.L.Denot). get_or l 6 c.index-h-6.result) eh) (ap (λ (l : List g.row.L.Denot). get_or l 6 c.index-v-6.result) ev) in
    let e7 = c.plus-8.ensures (lane hs 7) (lane vs 7) (ap (λ (l : List g.row.L.Denot). get_or l 7 c.index-h-7.result) eh) (ap (λ (l : List g.row.L.Denot). get_or l 7 c.index-v-7.result) ev) in
    rw (e0, e1, e2, e3, e4, e5, e6, e7) refl
