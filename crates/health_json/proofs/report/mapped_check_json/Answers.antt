use Rattle.std.proofs.Common.{◌++◌, rules, ap, ◌∙◌}
use Rattle.health_json.specs.Checks.{counts_text}
use Rattle.health_json.proofs.Replies.{mapped_put}
use Rattle.health_json.proofs.report.mapped_check_json.Goals as goal

pub returns : goal.returns
returns c =
    let health = c.args.health.now in
    let index = c.in_ok-index.ensures in
    mapped_put c.args.index.now health _ _ _ _ _ _ _ _ _ _ _ _ (c.deref.ensures.value ∙ index) (search rules) (search rules) (search rules) (c.as_slice-3.ensures.value ∙ index)
    (c.in_ok-put_counts.ensures ∙ ap (λ t. t ++ counts_text health) c.new-out.ensures.items) c.in_ok-put_shares.ensures
    c.in_ok-extend_from_slice.ensures.items c.in_ok-extend_from_slice-2.ensures.items c.in_ok-extend_from_slice-3.ensures.items c.in_ok-put_sharemap.ensures c.in_ok-put_all.ensures
