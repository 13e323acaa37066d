use Rattle.std.proofs.Common.{◌++◌, List, ℕ, [], drop, take, ap, sym, ◌∙◌, append_assoc}
use Rattle.std.specs.Prelude.{unwrap_or}
use Rattle.gate_base.proofs.Queues.{take_both, drop_both, at_hand, left_behind, none_kept}
use Rattle.gate_base.proofs.output.Output.take.Goals as goal

pub returns-clause-given : goal.returns-clause-given
returns-clause-given c =
    let front = rw c.as_slice.ensures at c.first-front.ensures in
    let ready = rw c.as_slice-2.ensures at c.first-ready.ensures in
    c.in_ok-given.ensures.text ∙ take_both c.args.max c.make_ready.new.front c.make_ready.new.ready _ _ front ready
    ∙ at_hand c.args.max c.make_ready.new.front c.make_ready.new.ready (unwrap_or c.make_ready.new.body []) (none_kept c.make_ready.new.body c.in_ok-make_ready.ensures.enough)
    ∙ ap (take c.args.max) (c.make_ready.ensures.same ∙ c.self.view_is)

pub returns-clause-rest : goal.returns-clause-rest
returns-clause-rest c =
    let front = rw c.as_slice.ensures at c.first-front.ensures in
    let ready = rw c.as_slice-2.ensures at c.first-ready.ensures in
    let both = drop_both c.args.max c.make_ready.new.front c.make_ready.new.ready _ _ front ready in
    rw (c.skip.ensures, c.skip-2.ensures) (sym (append_assoc _ _ (unwrap_or c.make_ready.new.body [])) ∙ ap (λ (l : List ℕ). l ++ (unwrap_or c.make_ready.new.body [])) both
    ∙ left_behind c.args.max c.make_ready.new.front c.make_ready.new.ready (unwrap_or c.make_ready.new.body []) (none_kept c.make_ready.new.body c.in_ok-make_ready.ensures.enough)
    ∙ ap (drop c.args.max) (c.make_ready.ensures.same ∙ c.self.view_is))
