use Rattle.std.proofs.Common.{List, ℕ, rules, tests}
use Rattle.std.proofs.lemmas.Iterator.Search.{any_from_yields_List}
use Rattle.std.proofs.lemmas.Iterator.Splits.{YieldsList-from_slice_split}
use Rattle.httparse.specs.Grammar.{trim_ows}
use Rattle.octets.specs.Case.{eq_ignore_case}
use Rattle.http_edge.specs.Judge.{is_comma, lists_token}
use Rattle.http_edge.proofs.judge.lists_token.Goals as goal

pub returns : goal.returns
unfolding lists_token
returns c =
    any_from_yields_List (λ (piece : List ℕ). eq_ignore_case (trim_ows piece) c.args.token.now) _ _ _ c.any.ensures.ran
    (YieldsList-from_slice_split _ is_comma c.args.value.now c.split.ensures.rest c.split.ensures.done c.split.ensures.closure (λ x b q k. search (rules, tests)))
    (λ x b q k. search (rules, tests))
