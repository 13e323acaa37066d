use Rattle.std.proofs.Common.{◌≡◌, ◌-◌, length, sym, arith}
use Rattle.web_request.proofs.TargetLemmas.{cut_path, cut_query, whole_path, no_query}
use Rattle.web_request.proofs.target.cut_at_question.Goals as goal

pub returns-in-Some-clause-path : goal.returns-in-Some-clause-path
returns-in-Some-clause-path c = cut_path c.args.origin.now c.in-Some.path.now c.in-Some.query.now c.in-Some.ensures

pub returns-in-Some-clause-query : goal.returns-in-Some-clause-query
returns-in-Some-clause-query c = cut_query c.args.origin.now c.in-Some.path.now c.in-Some.query.now c.in-Some.ensures

pub returns-in-None-clause-path : goal.returns-in-None-clause-path
returns-in-None-clause-path c = whole_path c.args.origin.now c.in-None.ensures

pub returns-in-None-clause-query : goal.returns-in-None-clause-query
returns-in-None-clause-query c =
    let origin = c.args.origin.now in
    let none : length origin - length origin ≡ 0 = omega arith in
    rw none (sym (no_query origin c.in-None.ensures))
