use Rattle.std.proofs.Common.{◌∙◌, arith}
use Rattle.s3_requests.proofs.CodeLemmas.{Counted, begins, end_is, length_is}
use Rattle.s3_requests.proofs.error_codes.code_at.Goals as goal
use Rattle.s3_requests.proofs.error_codes.code_at.Goals.{then-count-eq0-via-then-count-eq0, then-count-eq0-via-else-count-eq0+then-count-gt64}

pub returns-then-count-eq0 : goal.returns-then-count-eq0
returns-then-count-eq0 c = λ code b.
    let n = c.count_letters-count.ensures in
    let known : Counted c.args.text.now c.in_ok-rest.rest.now c.count_letters-count.result = record { name = c.in_ok-rest.ensures; within = n.within; letters = n.letters; other = n.other } in
    let long = length_is c.args.text.now c.in_ok-rest.rest.now code c.count_letters-count.result known b in
    elim c.then-count-eq0.branch [
      | then-count-eq0-via-then-count-eq0 w ↦ omega (arith, long, b.code_is.least, w.if-count-eq0.true)
      | then-count-eq0-via-else-count-eq0+then-count-gt64 w ↦ omega (arith, long, b.code_is.most, w.if-count-gt64.true)
    ]

pub returns-in-Some : goal.returns-in-Some
returns-in-Some c =
    let n = c.count_letters-count.ensures in
    let known : Counted c.args.text.now c.in_ok-rest.rest.now c.count_letters-count.result = record { name = c.in_ok-rest.ensures; within = n.within; letters = n.letters; other = n.other } in
    begins c.args.text.now c.in_ok-rest.rest.now c.split_at.result.0.now c.split_at.result.1.now c.in-Some.field-0.now c.count_letters-count.result known
    c.if-count-eq0.false c.if-count-gt64.false c.split_at.ensures.front c.split_at.ensures.front_len c.split_at.ensures.by_index.0 c.in-Some.ensures

pub returns-in-None : goal.returns-in-None
returns-in-None c = λ code b.
    let n = c.count_letters-count.ensures in
    let known : Counted c.args.text.now c.in_ok-rest.rest.now c.count_letters-count.result = record { name = c.in_ok-rest.ensures; within = n.within; letters = n.letters; other = n.other } in
    c.in-None.ensures b.behind (c.split_at.ensures.back ∙ end_is c.args.text.now c.in_ok-rest.rest.now code c.count_letters-count.result known b)
