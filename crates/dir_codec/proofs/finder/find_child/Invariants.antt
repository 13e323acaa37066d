use Rattle.std.proofs.Common.{◌-◌, length}
use Rattle.dir_codec.specs.Sought.{bytes_read, IsFinding}
use Rattle.dir_codec.proofs.finder.find_child.Given as goal

abbrev pub invariant-entries : goal.invariant-entries
invariant-entries l = IsFinding l.name l.text l.finder

abbrev pub decreases-entries : goal.decreases-entries
decreases-entries l = length l.text - bytes_read l.finder
