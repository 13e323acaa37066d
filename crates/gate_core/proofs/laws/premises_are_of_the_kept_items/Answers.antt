use Rattle.gate_core.proofs.Kept.{kept-kept, hashed-kept}
use Rattle.gate_core.proofs.Moments.{Apart-first}
use Rattle.gate_core.proofs.laws.premises_are_of_the_kept_items.Goals as goal

pub returns : goal.returns
returns c =
    let marks = c.changes_are_local.ensures.upload in
    let files = c.changes_are_local.ensures.files in
    let agree = c.answers_agree_where_looks_do.ensures in
    record {
      kept = kept-kept marks files agree.reply agree.met;
      hashed = hashed-kept marks files agree.reply agree.met;
      begun = Apart-first;
    }
