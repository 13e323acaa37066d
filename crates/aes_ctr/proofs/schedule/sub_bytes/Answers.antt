use Rattle.std.proofs.Common.{◌≡◌, ℕ, ◌%◌, ◌<◌, List, [], get_or, length, rules, ap, ◌∙◌, arith}
use Rattle.std.proofs.lemmas.List.{ext_get_or}
use Rattle.aes_ctr.specs.Planes.{byte_in}
use Rattle.aes_ctr.specs.Rounds.{sub_bytes}
use Rattle.aes_ctr.proofs.ByteLemmas.{sub_bytes_low}
use Rattle.aes_ctr.proofs.schedule.sub_bytes.Goals as goal

pub returns : goal.returns
unfolding sub_bytes
returns c =
    let s = c.args.state in
    let low : (i : ℕ) → get_or s i 0 < 256 = search rules in
    let planes = c.substituted-planes.ensures (λ j. s) (λ j. low) (c.planes_of.ensures (λ h. s) c.twice.ensures) in
    let blocks = c.blocks_of.ensures (λ j. sub_bytes s) (λ j. sub_bytes_low s) planes in
    let first = ap (λ (l : List (List ℕ)). get_or l 0 []) blocks in
    let long : length c.lower.result ≡ 16 = search rules in
    ext_get_or 0 c.lower.result (sub_bytes s) long (λ i h.
    let within : i < 16 = omega (arith, long) in
    let place : i % 16 ≡ i = omega arith in
    c.lower.ensures (λ k. byte_in (λ j. sub_bytes s) k 0) first i within ∙ ap (λ (k : ℕ). get_or (sub_bytes s) k 0) place)
