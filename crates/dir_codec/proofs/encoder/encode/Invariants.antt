use Rattle.std.proofs.Common.{◌≡◌, ◌++◌, drop}
use Rattle.dir_codec.specs.DirectoryText.{directory_text}
use Rattle.dir_codec.proofs.encoder.encode.Given as goal

abbrev pub invariant-loop-entry : goal.invariant-loop-entry
invariant-loop-entry l = directory_text l.directory ≡ l.text.items ++ directory_text (drop l.entry-index l.entry-items)
