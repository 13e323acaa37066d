use Rattle.gate_core.specs.Settings.{under}
use Rattle.gate_core.specs.Events.{secret_of}
use Rattle.gate_core.specs.ConnectionState.{waiting}
use Rattle.gate_flow.proofs.Standing.{said_so, answered_so}
use Rattle.gate_flow.proofs.laws.what_is_written_was_said.Goals as goal

pub returns : goal.returns
returns c = record {
  brought = λ f events read written was. was.all_read;
  said = λ opening f g events read written came was. said_so f events read written (waiting g f.id) _ was (c.verified_isolation.ensures.whole opening g events f.id came);
  answered = λ f g events read written told was. answered_so f (under g.settings (secret_of f.id events)) events read written was (c.callers_are_told_what_they_asked.ensures.begun g events f.id told);
  kept = λ opening past f g events read written came was left apart. said_so f events read written (waiting g f.id) _ was (c.isolation.ensures.apart opening g events came past f.id left apart);
  verified = λ opening f g events read written came was. said_so f events read written (waiting g f.id) _ was (c.verified_isolation.ensures.apart opening g events came f.id);
}
