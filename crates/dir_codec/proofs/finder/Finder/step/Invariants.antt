use Rattle.std.proofs.Common.{◌≡◌, ◌-◌, ◌<◌, ◌≤◌, ℕ, List}
use Rattle.dir_codec.specs.Sought.{bytes_read, IsFinding}
use Rattle.dir_codec.proofs.finder.Finder.step.Given as goal

abbrev pub invariant-loop-finder : goal.invariant-loop-finder
invariant-loop-finder l = record {
  start : l.start ≡ l.fn.self.at;
  behind : l.start ≤ l.finder.at;
  more : bytes_read l.fn.self ≤ bytes_read l.finder;
  ahead : l.start < l.finder.at → bytes_read l.fn.self < bytes_read l.finder;
  finding : (name : List ℕ) → IsFinding name l.text l.fn.self → IsFinding name l.text l.finder;
}

abbrev pub decreases-loop-finder : goal.decreases-loop-finder
decreases-loop-finder l = 65536 - (l.finder.at - l.start)
