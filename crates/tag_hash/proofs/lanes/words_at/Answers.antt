use Rattle.std.proofs.Common.{◌≡◌, ℕ, ◌+◌, ◌*◌, ◌<◌, List, [], slice_index, get_or, refl, sym, ap, ◌∙◌, arith, zero-add}
use Rattle.sha2.specs.Sha256.{word_at}
use Rattle.sha2.proofs.Schedule256.{slice_index-schedule_first}
use Rattle.tag_hash.specs.Lanes.{lane_bytes, scheduled}
use Rattle.tag_hash.proofs.LaneLemmas.{bytes_at, each_lane, schedule_same}
use Rattle.tag_hash.proofs.lanes.words_at.Goals as goal

pub returns : goal.returns
returns g c = λ b are.
    let blocks = c.args.blocks.now in
    let at : ℕ = 4 * c.args.i in
    let there : (j : ℕ) → j < 8 → word_at (get_or blocks j (record { ref_ptr = (0, 0); now = [] })).now at ≡ scheduled b (0 + c.args.i) j =
    λ j lt. ap (λ (block : List ℕ). word_at block at) (sym (bytes_at blocks j (record { ref_ptr = (0, 0); now = [] }) refl))
    ∙ sym (slice_index-schedule_first (lane_bytes blocks j) 48 c.args.i c.requires)
    ∙ ap (λ (s : List ℕ). slice_index s c.args.i) (schedule_same (lane_bytes blocks j) (b j) (are j lt) 48)
    ∙ ap (λ (n : ℕ). scheduled b n j) (sym (zero-add c.args.i)) in
    c.gathered.ensures (scheduled b (0 + c.args.i))
    (each_lane _ (c.word.ensures ∙ there 0 (omega arith)) (c.word-2.ensures ∙ there 1 (omega arith)) (c.word-3.ensures ∙ there 2 (omega arith)) (c.word-4.ensures ∙ there 3 (omega arith))
    (c.word-5.ensures ∙ there 4 (omega arith)) (c.word-6.ensures ∙ there 5 (omega arith)) (c.word-7.ensures ∙ there 6 (omega arith)) (c.word-8.ensures ∙ there 7 (omega arith)))
