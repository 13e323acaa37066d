use Rattle.std.proofs.Common.{◌≡◌, string_bytes}
use Rattle.shared_folder.specs.Asked.{AreFilesFound}
use Rattle.shared_folder.proofs.shared_folder.SharedFolder.standing.Given as goal

abbrev pub invariant-loop-number : goal.invariant-loop-number
invariant-loop-number g l = record {
  found : AreFilesFound (string_bytes l.fn.self.top) l.index l.number l.numbers.items (g.D.Disk.steps l.fn.self.disk) (g.D.Disk.steps l.self.disk);
  top : l.self.top ≡ l.fn.self.top;
  tag : l.self.tag ≡ l.fn.self.tag;
  made : l.self.made ≡ l.fn.self.made;
  failures : l.self.failures ≡ l.fn.self.failures;
}
