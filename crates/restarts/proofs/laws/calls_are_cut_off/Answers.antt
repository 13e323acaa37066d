use Rattle.http_edge.specs.FramingState.{frame_from}
use Rattle.gate_core.specs.ConnectionState.{secret_at}
use Rattle.restarts.proofs.MidCalls.{begun_cut, stopped_cut, lost_cut, spoiled_cut, all_proper}
use Rattle.restarts.proofs.laws.calls_are_cut_off.Goals as goal

pub returns : goal.returns
returns c =
    let laws = c.marks_follow_the_grid.ensures in
    record {
      received = λ old new id held piece d honest servers done left.
          begun_cut laws.put old.settings id (secret_at old.settings held) (frame_from held.conn piece) old.grid new.grid d servers (done.fed.served.begun honest) left;
      proper = λ old new id held piece sharing done. all_proper old.settings id (secret_at old.settings held) (frame_from held.conn piece) sharing done.fed.served.bytes;
      cut_short = λ old new id held piece d short honest servers left.
          stopped_cut laws.put old.settings id (secret_at old.settings held) (frame_from held.conn piece) old.grid new.grid d old.tally new.tally short.stopped honest servers left;
      lost = lost_cut laws.lost;
      spoiled = spoiled_cut laws.spoiled;
    }
