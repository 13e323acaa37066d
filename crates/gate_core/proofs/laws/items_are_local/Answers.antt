use Rattle.std.proofs.Common.{◌++◌}
use Rattle.chk_file.specs.Look.{by_fit, by_held}
use Rattle.gate_core.specs.Reach.{reach}
use Rattle.gate_core.proofs.Local.{by_fit-local, by_held-local, runs_agree, Agrees-refl, said-kept, reach-kept}
use Rattle.gate_core.proofs.laws.items_are_local.Goals as goal

pub returns : goal.returns
returns c =
    let marks = c.changes_are_local.ensures.upload in
    let files = c.changes_are_local.ensures.files in
    let replies = c.answers_agree_where_looks_do.ensures.reply in
    let meets = c.answers_agree_where_looks_do.ensures.met in
    record {
      before = λ s callers w before more. runs_agree marks files s callers (reach s callers w (before ++ more)) w w before (Agrees-refl marks files (reach s callers w (before ++ more)) w);
      said = said-kept marks files replies meets by_held by_held-local;
      verified = said-kept marks files replies meets by_fit by_fit-local;
      reached = reach-kept marks files replies meets by_held by_held-local;
      verified_reached = reach-kept marks files replies meets by_fit by_fit-local;
    }
