use Rattle.gate_flow.proofs.Moving.{end_gives}
use Rattle.gate_flow.proofs.calls.give_up.Goals as goal

pub returns : goal.returns
returns g c =
    end_gives c.args.id c.args.gateway.now c.bring_end.new.gateway c.bring_end.result c.bring_end.ensures.led c.bring_end.ensures.as_written c.bring_end.ensures.err c.bring_end.ensures.same c.bring_end.ensures.refused
    c.bring_end.ensures.over
