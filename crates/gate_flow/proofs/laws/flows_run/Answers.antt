use Rattle.gate_flow.proofs.Running.{run_begins, reads, writes, advances, run_advances, served, stops}
use Rattle.gate_flow.proofs.laws.flows_run.Goals as goal

pub returns : goal.returns
returns c = record {
  begun = run_begins;
  read = λ id secret g h old new read left before after left2. reads id secret g h old new read left before after left2;
  wrote = λ id secret g h old new read left before after after2. writes id secret g h old new read left before after after2;
  advanced = λ id secret g h k old new read left before after was now. advances id secret g h old new read left before after c.beginnings_have_room.ensures k was now;
  failed = λ id secret g h k old new read left before after run now. run_advances id secret g h old new read left before after k run now;
  served = λ id secret g h k f read left before after. served id secret g h k f read left before after c.beginnings_have_room.ensures;
  stopped = λ id secret g h k f read left before after fault. stops id secret g h k f read left before after fault;
}
