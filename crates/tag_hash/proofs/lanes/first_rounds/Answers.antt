use Rattle.std.proofs.Common.{List, get_or, ap}
use Rattle.tag_hash.proofs.lanes.first_rounds.Goals as goal

pub returns : goal.returns
returns g c = λ b h ew ev.
    let s0 = c.numbered_round-v.ensures b h (ap (λ (l : List g.row.L.Denot). get_or l 0 c.index-w-0.result) ew) ev in
    let s1 = c.numbered_round-v-2.ensures b h (ap (λ (l : List g.row.L.Denot). get_or l 1 c.index-w-1.result) ew) s0 in
    let s2 = c.numbered_round-v-3.ensures b h (ap (λ (l : List g.row.L.Denot). get_or l 2 c.index-w-2.result) ew) s1 in
    let s3 = c.numbered_round-v-4.ensures b h (ap (λ (l : List g.row.L.Denot). get_or l 3 c.index-w-3.result) ew) s2 in
    let s4 = c.numbered_round-v-5.ensures b h (ap (λ (l : List g.row.L.Denot). get_or l 4 c.index-w-4.result) ew) s3 in
    let s5 = c.numbered_round-v-6.ensures b h (ap (λ (l : List g.row.L.Denot). get_or l 5 c.index-w-5.result) ew) s4 in
    let s6 = c.numbered_round-v-7.ensures b h (ap (λ (l : List g.row.L.Denot). get_or l 6 c.index-w-6.result) ew) s5 in
    let s7 = c.numbered_round-v-8.ensures b h (ap (λ (l : List g.row.L.Denot). get_or l 7 c.index-w-7.result) ew) s6 in
    let s8 = c.numbered_round-v-9.ensures b h (ap (λ (l : List g.row.L.Denot). get_or l 8 c.index-w-8.result) ew) s7 in
    let s9 = c.numbered_round-v-10.ensures b h (ap (λ (l : List g.row.L.Denot). get_or l 9 c.index-w-9.result) ew) s8 in
    let s10 = c.numbered_round-v-11.ensures b h (ap (λ (l : List g.row.L.Denot). get_or l 10 c.index-w-10.result) ew) s9 in
    let s11 = c.numbered_round-v-12.ensures b h (ap (λ (l : List g.row.L.Denot). get_or l 11 c.index-w-11.result) ew) s10 in
    let s12 = c.numbered_round-v-13.ensures b h (ap (λ (l : List g.row.L.Denot). get_or l 12 c.index-w-12.result) ew) s11 in
    let s13 = c.numbered_round-v-14.ensures b h (ap (λ (l : List g.row.L.Denot). get_or l 13 c.index-w-13.result) ew) s12 in
    let s14 = c.numbered_round-v-15.ensures b h (ap (λ (l : List g.row.L.Denot). get_or l 14 c.index-w-14.result) ew) s13 in
    c.numbered_round.ensures b h (ap (λ (l : List g.row.L.Denot). get_or l 15 c.index-w-15.result) ew) s14
