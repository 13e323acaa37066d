use Rattle.std.proofs.Common.{[]}
use Rattle.std.specs.Prelude.{unwrap_or}
use Rattle.gate_base.proofs.Queues.{nil_middle, nil_last, none_left}
use Rattle.gate_base.proofs.output.decode_next.Goals as goal

pub returns-in_err-merge_ready-clause-nothing : goal.returns-in_err-merge_ready-clause-nothing
returns-in_err-merge_ready-clause-nothing c none =
    let never = c.in_err-merge_ready.ensures.nothing (nil_middle c.args.front.now c.args.ready.now (unwrap_or c.args.body.now []) none) in
    cc

pub returns-in_err-bytes-clause-nothing : goal.returns-in_err-bytes-clause-nothing
returns-in_err-bytes-clause-nothing c none =
    let never = c.in_err-bytes.ensures.nothing (none_left c.args.body.now c.requires.some (nil_last c.args.front.now c.args.ready.now (unwrap_or c.args.body.now []) none)) in
    cc
