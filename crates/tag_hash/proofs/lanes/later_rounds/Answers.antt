use Rattle.std.proofs.Common.{◌≡◌, ℕ, ◌+◌, ◌-◌, ◌≤◌, List, get_or, refl, sym, ap, ◌∙◌, add-zero, lit<, arith}
use Rattle.tag_hash.specs.Lanes.{scheduled, variables_at}
use Rattle.tag_hash.proofs.LaneLemmas.{next_vector, scheduled_from}
use Rattle.tag_hash.proofs.lanes.later_rounds.Goals as goal

pub returns-clause-words : goal.returns-clause-words
returns-clause-words g c = λ b ew.
    let of = g.L.Words.of in
    let t : ℕ = c.args.from - 16 in
    let le : t + 24 ≤ 64 = omega (arith, c.requires.after, c.requires.within) in
    let same : t + 16 ≡ c.args.from = omega (arith, c.requires.after) in
    let there : (k : ℕ) → of (scheduled b (t + 16 + k)) ≡ of (scheduled b (c.args.from + k)) =
    λ k. ap (λ (i : ℕ). of (scheduled b (i + k))) same in
    let kept : (k : ℕ) → of (scheduled b (t + (8 + k))) ≡ of (scheduled b (c.args.from - 8 + k)) =
    λ k. let e : t + (8 + k) ≡ c.args.from - 8 + k = omega (arith, c.requires.after) in ap (λ (i : ℕ). of (scheduled b i)) e in
    let made : (k : ℕ) → of (scheduled b (t + 16 + k)) ≡ of (scheduled b (c.args.from - 8 + (8 + k))) =
    λ k. let e : t + 16 + k ≡ c.args.from - 8 + (8 + k) = omega (arith, c.requires.after) in ap (λ (i : ℕ). of (scheduled b i)) e in
    let s : ℕ → ℕ → ℕ = λ k. scheduled b (t + k) in
    let e0 = next_vector of b t 0 _ le (lit< tt) (c.next_word-w0.ensures (s 0) (s 1) (s 9) (s 14) (ap (λ (l : List g.row.L.Denot). get_or l 0 c.index-w-0.result) ew) (ap (λ (l : List g.row.L.Denot). get_or l 1 c.index-w-1.result) ew) (ap (λ (l : List g.row.L.Denot). get_or l 9 c.index-w-9.result) ew) (ap (λ (l : List g.row.L.Denot). get_or l 14 c.index-w-14.result) ew)) in
    let f0 = e0 ∙ scheduled_from of b t 0 in
    let g0 = e0 ∙ there 0 in
    let e1 = next_vector of b t 1 _ le (lit< tt) (c.next_word-w1.ensures (s 1) (s 2) (s 10) (s 15) (ap (λ (l : List g.row.L.Denot). get_or l 1 c.index-w-1-2.result) ew) (ap (λ (l : List g.row.L.Denot). get_or l 2 c.index-w-2.result) ew) (ap (λ (l : List g.row.L.Denot). get_or l 10 c.index-w-10.result) ew) (ap (λ (l : List g.row.L.Denot). get_or l 15 c.index-w-15.result) ew)) in
    let f1 = e1 ∙ scheduled_from of b t 1 in
    let g1 = e1 ∙ there 1 in
    let e2 = next_vector of b t 2 _ le (lit< tt) (c.next_word-w2.ensures (s 2) (s 3) (s 11) (s 16) (ap (λ (l : List g.row.L.Denot). get_or l 2 c.index-w-2-2.result) ew) (ap (λ (l : List g.row.L.Denot). get_or l 3 c.index-w-3.result) ew) (ap (λ (l : List g.row.L.Denot). get_or l 11 c.index-w-11.result) ew) f0) in
    let f2 = e2 ∙ scheduled_from of b t 2 in
    let g2 = e2 ∙ there 2 in
    let e3 = next_vector of b t 3 _ le (lit< tt) (c.next_word-w3.ensures (s 3) (s 4) (s 12) (s 17) (ap (λ (l : List g.row.L.Denot). get_or l 3 c.index-w-3-2.result) ew) (ap (λ (l : List g.row.L.Denot). get_or l 4 c.index-w-4.result) ew) (ap (λ (l : List g.row.L.Denot). get_or l 12 c.index-w-12.result) ew) f1) in
    let f3 = e3 ∙ scheduled_from of b t 3 in
    let g3 = e3 ∙ there 3 in
    let e4 = next_vector of b t 4 _ le (lit< tt) (c.next_word-w4.ensures (s 4) (s 5) (s 13) (s 18) (ap (λ (l : List g.row.L.Denot). get_or l 4 c.index-w-4-2.result) ew) (ap (λ (l : List g.row.L.Denot). get_or l 5 c.index-w-5.result) ew) (ap (λ (l : List g.row.L.Denot). get_or l 13 c.index-w-13.result) ew) f2) in
    let f4 = e4 ∙ scheduled_from of b t 4 in
    let g4 = e4 ∙ there 4 in
    let e5 = next_vector of b t 5 _ le (lit< tt) (c.next_word-w5.ensures (s 5) (s 6) (s 14) (s 19) (ap (λ (l : List g.row.L.Denot). get_or l 5 c.index-w-5-2.result) ew) (ap (λ (l : List g.row.L.Denot). get_or l 6 c.index-w-6.result) ew) (ap (λ (l : List g.row.L.Denot). get_or l 14 c.index-w-14-2.result) ew) f3) in
    let f5 = e5 ∙ scheduled_from of b t 5 in
    let g5 = e5 ∙ there 5 in
    let e6 = next_vector of b t 6 _ le (lit< tt) (c.next_word-w6.ensures (s 6) (s 7) (s 15) (s 20) (ap (λ (l : List g.row.L.Denot). get_or l 6 c.index-w-6-2.result) ew) (ap (λ (l : List g.row.L.Denot). get_or l 7 c.index-w-7.result) ew) (ap (λ (l : List g.row.L.Denot). get_or l 15 c.index-w-15-2.result) ew) f4) in
    let f6 = e6 ∙ scheduled_from of b t 6 in
    let g6 = e6 ∙ there 6 in
    let e7 = next_vector of b t 7 _ le (lit< tt) (c.next_word-w7.ensures (s 7) (s 8) (s 16) (s 21) (ap (λ (l : List g.row.L.Denot). get_or l 7 c.index-w-7-2.result) ew) (ap (λ (l : List g.row.L.Denot). get_or l 8 c.index-w-8.result) ew) f0 f5) in
    let f7 = e7 ∙ scheduled_from of b t 7 in
    let g7 = e7 ∙ there 7 in
    rw ((ap (λ (l : List g.row.L.Denot). get_or l 8 c.index-w-8-2.result) ew) ∙ kept 0, (ap (λ (l : List g.row.L.Denot). get_or l 9 c.index-w-9-2.result) ew) ∙ kept 1, (ap (λ (l : List g.row.L.Denot). get_or l 10 c.index-w-10-2.result) ew) ∙ kept 2, (ap (λ (l : List g.row.L.Denot). get_or l 11 c.index-w-11-2.result) ew) ∙ kept 3, (ap (λ (l : List g.row.L.Denot). get_or l 12 c.index-w-12-2.result) ew) ∙ kept 4, (ap (λ (l : List g.row.L.Denot). get_or l 13 c.index-w-13-2.result) ew) ∙ kept 5, (ap (λ (l : List g.row.L.Denot). get_or l 14 c.index-w-14-3.result) ew) ∙ kept 6, (ap (λ (l : List g.row.L.Denot). get_or l 15 c.index-w-15-3.result) ew) ∙ kept 7, e0 ∙ made 0, e1 ∙ made 1, e2 ∙ made 2, e3 ∙ made 3, e4 ∙ made 4, e5 ∙ made 5, e6 ∙ made 6, e7 ∙ made 7) refl

pub returns-clause-rounded : goal.returns-clause-rounded
returns-clause-rounded g c = λ b h ew ev.
    let of = g.L.Words.of in
    let t : ℕ = c.args.from - 16 in
    let le : t + 24 ≤ 64 = omega (arith, c.requires.after, c.requires.within) in
    let same : t + 16 ≡ c.args.from = omega (arith, c.requires.after) in
    let there : (k : ℕ) → of (scheduled b (t + 16 + k)) ≡ of (scheduled b (c.args.from + k)) =
    λ k. ap (λ (i : ℕ). of (scheduled b (i + k))) same in
    let kept : (k : ℕ) → of (scheduled b (t + (8 + k))) ≡ of (scheduled b (c.args.from - 8 + k)) =
    λ k. let e : t + (8 + k) ≡ c.args.from - 8 + k = omega (arith, c.requires.after) in ap (λ (i : ℕ). of (scheduled b i)) e in
    let made : (k : ℕ) → of (scheduled b (t + 16 + k)) ≡ of (scheduled b (c.args.from - 8 + (8 + k))) =
    λ k. let e : t + 16 + k ≡ c.args.from - 8 + (8 + k) = omega (arith, c.requires.after) in ap (λ (i : ℕ). of (scheduled b i)) e in
    let s : ℕ → ℕ → ℕ = λ k. scheduled b (t + k) in
    let e0 = next_vector of b t 0 _ le (lit< tt) (c.next_word-w0.ensures (s 0) (s 1) (s 9) (s 14) (ap (λ (l : List g.row.L.Denot). get_or l 0 c.index-w-0.result) ew) (ap (λ (l : List g.row.L.Denot). get_or l 1 c.index-w-1.result) ew) (ap (λ (l : List g.row.L.Denot). get_or l 9 c.index-w-9.result) ew) (ap (λ (l : List g.row.L.Denot). get_or l 14 c.index-w-14.result) ew)) in
    let f0 = e0 ∙ scheduled_from of b t 0 in
    let g0 = e0 ∙ there 0 in
    let e1 = next_vector of b t 1 _ le (lit< tt) (c.next_word-w1.ensures (s 1) (s 2) (s 10) (s 15) (ap (λ (l : List g.row.L.Denot). get_or l 1 c.index-w-1-2.result) ew) (ap (λ (l : List g.row.L.Denot). get_or l 2 c.index-w-2.result) ew) (ap (λ (l : List g.row.L.Denot). get_or l 10 c.index-w-10.result) ew) (ap (λ (l : List g.row.L.Denot). get_or l 15 c.index-w-15.result) ew)) in
    let f1 = e1 ∙ scheduled_from of b t 1 in
    let g1 = e1 ∙ there 1 in
    let e2 = next_vector of b t 2 _ le (lit< tt) (c.next_word-w2.ensures (s 2) (s 3) (s 11) (s 16) (ap (λ (l : List g.row.L.Denot). get_or l 2 c.index-w-2-2.result) ew) (ap (λ (l : List g.row.L.Denot). get_or l 3 c.index-w-3.result) ew) (ap (λ (l : List g.row.L.Denot). get_or l 11 c.index-w-11.result) ew) f0) in
    let f2 = e2 ∙ scheduled_from of b t 2 in
    let g2 = e2 ∙ there 2 in
    let e3 = next_vector of b t 3 _ le (lit< tt) (c.next_word-w3.ensures (s 3) (s 4) (s 12) (s 17) (ap (λ (l : List g.row.L.Denot). get_or l 3 c.index-w-3-2.result) ew) (ap (λ (l : List g.row.L.Denot). get_or l 4 c.index-w-4.result) ew) (ap (λ (l : List g.row.L.Denot). get_or l 12 c.index-w-12.result) ew) f1) in
    let f3 = e3 ∙ scheduled_from of b t 3 in
    let g3 = e3 ∙ there 3 in
    let e4 = next_vector of b t 4 _ le (lit< tt) (c.next_word-w4.ensures (s 4) (s 5) (s 13) (s 18) (ap (λ (l : List g.row.L.Denot). get_or l 4 c.index-w-4-2.result) ew) (ap (λ (l : List g.row.L.Denot). get_or l 5 c.index-w-5.result) ew) (ap (λ (l : List g.row.L.Denot). get_or l 13 c.index-w-13.result) ew) f2) in
    let f4 = e4 ∙ scheduled_from of b t 4 in
    let g4 = e4 ∙ there 4 in
    let e5 = next_vector of b t 5 _ le (lit< tt) (c.next_word-w5.ensures (s 5) (s 6) (s 14) (s 19) (ap (λ (l : List g.row.L.Denot). get_or l 5 c.index-w-5-2.result) ew) (ap (λ (l : List g.row.L.Denot). get_or l 6 c.index-w-6.result) ew) (ap (λ (l : List g.row.L.Denot). get_or l 14 c.index-w-14-2.result) ew) f3) in
    let f5 = e5 ∙ scheduled_from of b t 5 in
    let g5 = e5 ∙ there 5 in
    let e6 = next_vector of b t 6 _ le (lit< tt) (c.next_word-w6.ensures (s 6) (s 7) (s 15) (s 20) (ap (λ (l : List g.row.L.Denot). get_or l 6 c.index-w-6-2.result) ew) (ap (λ (l : List g.row.L.Denot). get_or l 7 c.index-w-7.result) ew) (ap (λ (l : List g.row.L.Denot). get_or l 15 c.index-w-15-2.result) ew) f4) in
    let f6 = e6 ∙ scheduled_from of b t 6 in
    let g6 = e6 ∙ there 6 in
    let e7 = next_vector of b t 7 _ le (lit< tt) (c.next_word-w7.ensures (s 7) (s 8) (s 16) (s 21) (ap (λ (l : List g.row.L.Denot). get_or l 7 c.index-w-7-2.result) ew) (ap (λ (l : List g.row.L.Denot). get_or l 8 c.index-w-8.result) ew) f0 f5) in
    let f7 = e7 ∙ scheduled_from of b t 7 in
    let g7 = e7 ∙ there 7 in
    let r0 = c.numbered_round-v.ensures b h g0 (ev ∙ ap (variables_at of b h) (sym (add-zero c.args.from))) in
    let r1 = c.numbered_round-v-2.ensures b h g1 r0 in
    let r2 = c.numbered_round-v-3.ensures b h g2 r1 in
    let r3 = c.numbered_round-v-4.ensures b h g3 r2 in
    let r4 = c.numbered_round-v-5.ensures b h g4 r3 in
    let r5 = c.numbered_round-v-6.ensures b h g5 r4 in
    let r6 = c.numbered_round-v-7.ensures b h g6 r5 in
    c.numbered_round-v-8.ensures b h g7 r6
