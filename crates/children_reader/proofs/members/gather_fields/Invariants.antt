use Rattle.std.proofs.Common.{◌≡◌, ℕ, ◌≤◌, length}
use Rattle.json.specs.Json.{members, value}
use Rattle.serde_json.specs.Data.{Members, no_members}
use Rattle.serde_json.specs.Read.{of_members, converted}
use Rattle.children_reader.specs.Kept.{AreChildFields}
use Rattle.children_reader.proofs.members.gather_fields.Given as goal

-- the members that were read are those of the fields
abbrev pub invariant-members : goal.invariant-members
invariant-members l =
    (n : ℕ) × (length l.reader ≤ n)
    × (ms : Members)
    × (converted (λ j. of_members j no_members) (members (value l.depth) (length l.initial.reader) l.initial.reader) ≡ converted (λ j. of_members j ms) (members (value l.depth) n l.reader))
    × AreChildFields l.fields ms
    × (length l.reader ≤ length l.initial.reader)

abbrev pub decreases-members : goal.decreases-members
decreases-members l = length l.reader
