use Rattle.std.proofs.Common.{◌≡◌, ◌-◌, ◌++◌, length}
use Rattle.dir_codec.specs.DirectoryText.{directory_text}
use Rattle.children_reader.specs.Named.{entries_of}
use Rattle.children_reader.proofs.text_maker.write_some.Given as goal

abbrev pub invariant-loop-i : goal.invariant-loop-i
invariant-loop-i l = record {
  fewer : length l.left.entries ≡ length l.fn.left.entries - l.i;
  written : l.text.items ++ directory_text (entries_of l.left.entries) ≡ l.fn.text.items ++ directory_text (entries_of l.fn.left.entries);
}
