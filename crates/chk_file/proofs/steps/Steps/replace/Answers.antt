use Rattle.chk_file.specs.Seen.{step_entry}
use Rattle.chk_file.proofs.LookUps.{set_within_mapped}
use Rattle.chk_file.proofs.steps.Steps.replace.Goals as goal

pub returns : goal.returns
returns c = set_within_mapped step_entry c.args.steps.now.items c.args.at c.args.step
