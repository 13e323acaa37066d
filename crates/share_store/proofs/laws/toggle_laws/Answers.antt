use Rattle.share_store.proofs.Toggling.{toggled-toggled, toggled-commutes, length-toggled}
use Rattle.share_store.proofs.laws.toggle_laws.Goals as goal

pub returns : goal.returns
returns c = record { undoes = toggled-toggled; commutes = toggled-commutes; keeps_length = length-toggled }
