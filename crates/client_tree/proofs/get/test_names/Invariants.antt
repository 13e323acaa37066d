use Rattle.std.proofs.Common.{◌≡◌, true, take}
use Rattle.std.specs.List.{list_all}
use Rattle.dir_codec.specs.declared.entry.Entry.{Entry}
use Rattle.client_tree.specs.FileNames.{is_file_name}
use Rattle.client_tree.proofs.get.test_names.Given as goal

abbrev pub invariant-loop-entry : goal.invariant-loop-entry
invariant-loop-entry l = list_all (λ (entry : Entry). is_file_name entry.name) (take l.entry-index l.entry-items) ≡ true
