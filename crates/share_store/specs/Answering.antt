-- What a store answers that was told what to give.
use Rattle.std.specs.Prelude.{ℕ, List, map, length, nat_lt, if◌then◌else◌}
use Rattle.std.specs.Rc.{rc_slice_items}
use Rattle.share_store.specs.declared.liar.Liar.{Liar}

-- what it gives in turn
abbrev pub answers_of : Liar → List (List ℕ)
answers_of liar = map rc_slice_items liar.answers.items

-- a place in a list, and the first one past its end
abbrev pub turn_in : List (List ℕ) → ℕ → ℕ
turn_in answers at = if nat_lt at (length answers) then at else 0

-- the place of what it gives next
abbrev pub turn_of : Liar → ℕ
turn_of liar = turn_in (answers_of liar) liar.next
