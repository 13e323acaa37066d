use Rattle.std.proofs.Common.{◌≡◌, codes, map}
use Rattle.form_urlencoded.specs.Parse.{pairs_left}
use Rattle.web_request.specs.Queries.{pairs, texts_of, first_of_key, first_of_both}
use Rattle.web_request.proofs.query.read_query.Given as goal

abbrev pub invariant-loop-pair : goal.invariant-loop-pair
invariant-loop-pair l = record {
  t : first_of_key (codes "t") (pairs l.query) ≡ first_of_both l.read.t (first_of_key (codes "t") (map texts_of (pairs_left l.pair-iterator)));
  output : first_of_key (codes "output") (pairs l.query) ≡ first_of_both l.read.output (first_of_key (codes "output") (map texts_of (pairs_left l.pair-iterator)));
  verify : first_of_key (codes "verify") (pairs l.query) ≡ first_of_both l.read.verify (first_of_key (codes "verify") (map texts_of (pairs_left l.pair-iterator)));
}
