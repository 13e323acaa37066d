use Rattle.folder_shelf.proofs.Parts.{four_of_them, all_parts}
use Rattle.folder_shelf.proofs.laws.every_byte_is_sealed.Goals as goal

pub returns : goal.returns
returns c = record { four = four_of_them; all = all_parts }
