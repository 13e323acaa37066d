use Rattle.restarts.proofs.Lives.{left_by_all, told_all, told_verified, told_apart, told_last}
use Rattle.restarts.proofs.Runs.{said-append}
use Rattle.restarts.proofs.Tagged.{caller_number_one}
use Rattle.restarts.proofs.laws.callers_are_told_over_restarts.Goals as goal

pub returns : goal.returns
returns c =
    let whole = c.verified_isolation.ensures.whole in
    let answers = c.kept_answers_are_verified.ensures.kept in
    record {
      callers = λ run id other_run other_id same. caller_number_one run other_run id other_id same;
      left = left_by_all;
      verified_whole = λ settings w lives g events run id history. told_all whole settings id run w lives g events history;
      verified = λ settings w lives g events run id history. told_verified whole settings id c.items_are_local.ensures.verified run w lives g events history;
      apart = λ settings past w lives g events run id history left apart. told_apart whole settings id answers past w lives g events history left run apart;
      last = λ settings past w lives g events caller history left apart. told_last whole settings caller answers past w lives g events history left apart;
      said = said-append;
    }
