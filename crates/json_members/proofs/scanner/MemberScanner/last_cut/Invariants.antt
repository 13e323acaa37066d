use Rattle.std.proofs.Common.{◌≡◌, take}
use Rattle.json_seams.specs.Modes.{mode_after}
use Rattle.json_members.specs.Brackets.{bracket_depth}
use Rattle.json_members.specs.MemberCuts.{IsLastMemberCut}
use Rattle.json_members.proofs.scanner.MemberScanner.last_cut.Given as goal

abbrev pub invariant-loop-i : goal.invariant-loop-i
invariant-loop-i l = record {
  mode : l.self-inside.scanner ≡ mode_after l.fn.self.mode (take l.i l.bytes);
  depth : l.self-inside.depth ≡ bracket_depth l.fn.self.mode l.fn.self.depth (take l.i l.bytes);
  cut : IsLastMemberCut l.fn.self.mode l.fn.self.depth (take l.i l.bytes) l.last;
}
