use Rattle.std.proofs.Common.{sym, arith, ◌≤◌, length}
use Rattle.http_edge.proofs.ReadLemmas.{refused_is, shorter_is, whole_is}
use Rattle.http_edge.proofs.head.read_head.Goals as goal

pub returns-then-spans-block : goal.returns-then-spans-block
returns-then-spans-block c =
    let within = rw c.in-Ok-Complete.field-0-is at c.in-Ok-Complete.ensures.within in
    let found = rw c.in-Ok-Complete.field-0-is at c.in-Ok-Complete.ensures.complete in
    sym (shorter_is c.args.block.now c.parse_request.new.headers c.in-Ok-Complete.spans within.section.len_fits c.if-spans-block.true found)

pub returns-in_ok-fields-in-Ok-Complete : goal.returns-in_ok-fields-in-Ok-Complete
returns-in_ok-fields-in-Ok-Complete c =
    let within = rw c.in-Ok-Complete.field-0-is at c.in-Ok-Complete.ensures.within in
    let found = rw c.in-Ok-Complete.field-0-is at c.in-Ok-Complete.ensures.complete in
    let room : length c.parse_request.new.headers ≤ 64 = omega arith in
    let is = whole_is c.args.block.now c.parse_request.new.headers c.in-Ok-Complete.spans within room c.if-spans-block.false found in
    rw (is, c.in_ok-method-in-Ok-Complete.ensures, c.in_ok-target-in-Ok-Complete.ensures, c.of.ensures, c.of-in-Ok-Complete.ensures, c.from_vec.ensures, c.in_ok-fields-in-Ok-Complete.ensures)

pub returns-in-Ok-Partial : goal.returns-in-Ok-Partial
returns-in-Ok-Partial c =
    let found = rw c.in-Ok-Partial.field-0-is at c.in-Ok-Partial.ensures.found in
    sym (refused_is c.args.block.now (λ h rest reads fits. found h rest reads (omega arith)))

pub returns-in-Err : goal.returns-in-Err
returns-in-Err c = sym (refused_is c.args.block.now (λ h rest reads fits. c.in-Err.ensures.found h rest reads (omega arith)))
