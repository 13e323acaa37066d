use Rattle.std.proofs.Common.{◌≡◌, ◌++◌, length}
use Rattle.std.specs.Option.{option_map}
use Rattle.gate_tasks.specs.Text.{unescaped}
use Rattle.gate_tasks.proofs.text.unescape.Given as goal

-- what was read, and then what is left to read
abbrev pub invariant-loop-plain : goal.invariant-loop-plain
invariant-loop-plain l = option_map (λ more. l.bytes.items ++ more) (unescaped l.rest) ≡ unescaped l.text

abbrev pub decreases-loop-plain : goal.decreases-loop-plain
decreases-loop-plain l = length l.rest
