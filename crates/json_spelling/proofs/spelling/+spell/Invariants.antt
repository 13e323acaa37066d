use Rattle.std.proofs.Common.{◌≡◌, ℕ, ◌+◌, ◌*◌, ◌≤◌, max, ◌∷◌, ◌++◌, length, ◌||◌, false, true, List, option_map, is_some}
use Rattle.std.specs.Str.{IsUtf8}
use Rattle.json.specs.Json.{items, members, value, parse_map}
use Rattle.serde_json.specs.Data.{Data, Items, Members, no_members, put, items_depth, members_depth}
use Rattle.serde_json.specs.Read.{of_items, of_members, converted}
use Rattle.serde_json.specs.Written.{items_have_float, members_have_float, items_text, members_text}
use Rattle.json_spelling.specs.Spelled.{AreSpelled, rises, entries_levels}
use Rattle.json_spelling.proofs.spelling.+spell.Given as goal

abbrev pub decreases-spell_token : goal.decreases-spell_token
decreases-spell_token l = 4 * l.depth

abbrev pub decreases-spell_value : goal.decreases-spell_value
decreases-spell_value l = 4 * l.depth + 1

abbrev pub decreases-spell_items : goal.decreases-spell_items
decreases-spell_items l = 4 * l.depth + 2

abbrev pub decreases-gather_members : goal.decreases-gather_members
decreases-gather_members l = 4 * l.depth + 2

abbrev pub decreases-spell_rising : goal.decreases-spell_rising
decreases-spell_rising l = 4 * l.depth + 2

abbrev pub decreases-spell_members : goal.decreases-spell_members
decreases-spell_members l = 4 * l.depth + 3

-- whatever items follow, those that were read stand before them, in the value, its extent and the text
abbrev pub invariant-spell_items-items : goal.invariant-spell_items-items
invariant-spell_items-items l =
    (n : ℕ) × (length l.reader ≤ n)
    × (f : Items → Items)
    × (converted of_items (items (value l.depth) (length l.initial.reader) l.initial.reader) ≡ parse_map f (converted of_items (items (value l.depth) n l.reader)))
    × ((rest : Items) → l.fn.out.items ++ 91 ∷ items_text false (f rest) ≡ l.out.items ++ items_text l.later rest)
    × ((rest : Items) → (items_depth (f rest) ≡ max l.extent.levels (items_depth rest)) × (items_have_float (f rest) ≡ (l.extent.fractional || items_have_float rest)))
    × ((rest : Items) → IsUtf8 (items_text l.later rest) → IsUtf8 (items_text false (f rest)))
    × (length l.reader ≤ length l.initial.reader) × (l.extent.levels ≤ l.depth)

abbrev pub decreases-spell_items-items : goal.decreases-spell_items-items
decreases-spell_items-items l = length l.reader

abbrev pub invariant-gather_members-members : goal.invariant-gather_members-members
invariant-gather_members-members l =
    (n : ℕ) × (length l.reader ≤ n)
    × (ms : Members)
    × (converted (λ j. of_members j no_members) (members (value l.depth) (length l.initial.reader) l.initial.reader) ≡ converted (λ j. of_members j ms) (members (value l.depth) n l.reader))
    × AreSpelled l.found.entries ms
    × (length l.reader ≤ length l.initial.reader) × (entries_levels l.found.entries ≤ l.depth)

abbrev pub decreases-gather_members-members : goal.decreases-gather_members-members
decreases-gather_members-members l = length l.reader

-- the same of members, among which a key that is above the last one goes last
abbrev pub invariant-spell_rising-members : goal.invariant-spell_rising-members
invariant-spell_rising-members l =
    let last = option_map (λ name. name.now) l.last in
    (n : ℕ) × (length l.reader ≤ n)
    × (f : Members → Members)
    × (converted (λ j. of_members j no_members) (members (value l.depth) (length l.initial.reader) l.initial.reader) ≡ converted (λ j. of_members j (f no_members)) (members (value l.depth) n l.reader))
    × ((rest : Members) → l.fn.out.items ++ 123 ∷ members_text false (f rest) ≡ l.out.items ++ members_text (is_some l.last) rest)
    × ((rest : Members) → (members_depth (f rest) ≡ max l.extent.levels (members_depth rest)) × (members_have_float (f rest) ≡ (l.extent.fractional || members_have_float rest)))
    × ((rest : Members) → IsUtf8 (members_text (is_some l.last) rest) → IsUtf8 (members_text false (f rest)))
    × ((k : List ℕ) (d : Data) (rest : Members) → rises last k ≡ true → put k d (f rest) ≡ f (put k d rest))
    × (length l.reader ≤ length l.initial.reader) × (l.extent.levels ≤ l.depth)

abbrev pub decreases-spell_rising-members : goal.decreases-spell_rising-members
decreases-spell_rising-members l = length l.reader
