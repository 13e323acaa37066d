use Rattle.std.proofs.Common.{◌≡◌, take}
use Rattle.json_seams.specs.Modes.{mode_after}
use Rattle.json_seams.specs.Cuts.{IsLastCut}
use Rattle.json_seams.proofs.scanner.Scanner.last_cut.Given as goal

abbrev pub invariant-loop-i : goal.invariant-loop-i
invariant-loop-i l = record {
  mode : l.self ≡ mode_after l.fn.self (take l.i l.bytes);
  cut : IsLastCut l.fn.self (take l.i l.bytes) l.last;
}
