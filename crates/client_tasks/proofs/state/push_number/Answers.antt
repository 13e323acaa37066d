use Rattle.std.proofs.Common.{ℕ, List, ◌++◌, ap, ◌∙◌}
use Rattle.client_tasks.proofs.state.push_number.Goals as goal

pub returns : goal.returns
returns c =
    c.in_ok-extend_from_slice.ensures.items
    ∙ ap (λ (l : List ℕ). c.args.text.now.items ++ l) (c.as_bytes.ensures ∙ c.new-digits.ensures ∙ c.decimals_are_read_back.ensures.printed c.args.number c.ranges.number.fits)
