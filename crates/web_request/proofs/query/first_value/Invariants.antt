use Rattle.std.proofs.Common.{◌≡◌, map}
use Rattle.form_urlencoded.specs.Parse.{pairs_left}
use Rattle.web_request.specs.Queries.{pairs, texts_of, first_of_key}
use Rattle.web_request.proofs.query.first_value.Given as goal

-- the first value of the key is that of what is left
abbrev pub invariant-loop-pair : goal.invariant-loop-pair
invariant-loop-pair l = record {
  first : first_of_key l.key (pairs l.query) ≡ first_of_key l.key (map texts_of (pairs_left l.pair-iterator));
}
