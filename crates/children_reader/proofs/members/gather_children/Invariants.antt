use Rattle.std.proofs.Common.{◌≡◌, ℕ, ◌≤◌, length}
use Rattle.json.specs.Json.{members, value}
use Rattle.serde_json.specs.Data.{Members}
use Rattle.serde_json.specs.Read.{of_members, converted}
use Rattle.children_reader.specs.Collected.{AreEntered}
use Rattle.children_reader.proofs.members.gather_children.Given as goal

-- the members that were read are those that something was made of, whatever members were there before
abbrev pub invariant-members : goal.invariant-members
invariant-members l =
    (n : ℕ) × (length l.reader ≤ n)
    × ((before : Members) → (after : Members)
    × (converted (λ j. of_members j before) (members (value l.depth) (length l.initial.reader) l.initial.reader) ≡ converted (λ j. of_members j after) (members (value l.depth) n l.reader))
    × AreEntered l.found.items before after)
    × (length l.reader ≤ length l.initial.reader)

abbrev pub decreases-members : goal.decreases-members
decreases-members l = length l.reader
