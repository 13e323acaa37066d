use Rattle.std.proofs.Common.{◌≡◌, ℕ, ◌++◌, ◌-◌, List, length, take, codes, ap, ◌∙◌}
use Rattle.std.specs.Prelude.{decimal}
use Rattle.client_tree.specs.Parts.{part_name}
use Rattle.client_tree.proofs.parts.part_name.Goals as goal

pub returns : goal.returns
unfolding part_name
returns c =
    let digits : c.as_bytes-digits.result.now ≡ decimal c.args.place = c.as_bytes-digits.ensures ∙ c.new-digits.ensures ∙ c.decimals_are_read_back.ensures.printed c.args.place c.ranges.place.fits in
    let zeros : c.saturating_sub.result ≡ 10 - length c.as_bytes-digits.result.now = c.saturating_sub.ensures in
    let front : c.extend_from_slice.new.self.items ≡ take (10 - length (decimal c.args.place)) (codes "0000000000") =
    c.in_ok-extend_from_slice.ensures.items ∙ ap (λ (l : List ℕ). l ++ take c.saturating_sub.result (codes "0000000000")) c.new-name.ensures.items
    ∙ ap (λ (n : ℕ). take n (codes "0000000000")) (zeros ∙ ap (λ (l : List ℕ). 10 - length l) digits) in
    c.in_ok-extend_from_slice-2.ensures.items ∙ ap (λ (l : List ℕ). l ++ c.as_bytes-digits.result.now) front
    ∙ ap (λ (l : List ℕ). take (10 - length (decimal c.args.place)) (codes "0000000000") ++ l) digits
