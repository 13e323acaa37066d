-- Which bytes of a file a Range field's value asks for (RFC 9110, sections 14.1.2, 14.2 and 15.5.17).
use Rattle.std.specs.Prelude.{ℕ, ◌-◌, ◌==◌, nat_lt, nat_le, List, min, if◌then◌else◌, Option, Some, None}
use Rattle.range_view.specs.Asked.{Asked, FromTo, From, Last, asked}
use Rattle.range_view.specs.declared.range.Resolved.{Resolved}
use Rattle.range_view.specs.declared.range.Resolved.TheVariants.{Whole, Part, Unsatisfiable}

-- of a file of this size: a last place below the first, and what isn't known, is ignored
abbrev pub resolved_range : Option Asked → ℕ → Resolved
resolved_range None size = Whole
resolved_range (Some (FromTo first last)) size =
    if nat_lt last first then Whole
    else (if nat_le size first then Unsatisfiable else Part first (min last (size - 1)))
resolved_range (Some (From first)) size = if nat_le size first then Unsatisfiable else Part first (size - 1)
resolved_range (Some (Last count)) size =
    if count == 0 then Unsatisfiable
    else (if size == 0 then Whole else Part (size - min count size) (size - 1))

-- what the value says of a file of this size
abbrev pub resolved : List ℕ → ℕ → Resolved
resolved text size = resolved_range (asked text) size
