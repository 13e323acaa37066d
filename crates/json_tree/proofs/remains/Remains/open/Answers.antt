use Rattle.std.proofs.Common.{◌≡◌, suc, sym, ap, ◌∙◌, arith}
use Rattle.serde_json.specs.View.{view}
use Rattle.serde_json.proofs.Views.{view-Array, view-Object}
use Rattle.json_tree.specs.Parts.{part_count}
use Rattle.json_tree.specs.Remains.{opened_part_count, opened_parts}
use Rattle.json_tree.proofs.Held.{opened_parts_more}
use Rattle.json_tree.proofs.remains.Remains.open.Goals.{in-Array, in-Object}
use Rattle.json_tree.proofs.remains.Remains.open.Goals as goal

pub returns-in-Ok-clause-ok : goal.returns-in-Ok-clause-ok
returns-in-Ok-clause-ok c =
    let opened : suc (opened_part_count c.match-value.opened) ≡ part_count (view c.args.value) =
    elim c.match-value.branch [
      | in-Array w ↦ ap (λ o. suc (opened_part_count o)) w.opened-is ∙ sym (ap (λ v. part_count (view v)) w.in-Array.is ∙ ap part_count (view-Array w.in-Array.items))
      | in-Object w ↦ ap (λ o. suc (opened_part_count o)) w.opened-is ∙ sym (ap (λ v. part_count (view v)) w.in-Object.is ∙ ap part_count (view-Object w.in-Object.members))
    ] in
    omega (arith, ap opened_parts c.in-Ok.ensures.items, opened_parts_more c.args.self.now.opened.items c.match-value.opened, opened)
