-- The range that a head asks for (RFC 9110, sections 13.1.5 and 14.2).
use Rattle.std.specs.Prelude.{ℕ, Bool, List, [], ◌∷◌, filter, codes, if◌then◌else◌, Option, Some, None, option_map}
use Rattle.std.specs.List.{list_any}
use Rattle.octets.specs.Case.{eq_ignore_case}
use Rattle.web_request.specs.declared.head.Field.{Field}

unfoldable pub is_range : Field → Bool
is_range field = eq_ignore_case field.name (codes "range")

unfoldable pub is_if_range : Field → Bool
is_if_range field = eq_ignore_case field.name (codes "if-range")

-- the one element of a list that has just one
abbrev pub only_element : {X : Type 0} → List X → Option X
only_element [] = None
only_element (x ∷ []) = Some x
only_element (x ∷ y ∷ more) = None

-- the one Range field
abbrev pub one_range : List Field → Option Field
one_range fields = only_element (filter is_range fields)

-- its value, where no If-Range field stands
abbrev pub range_of : List Field → Option (List ℕ)
range_of fields = if list_any is_if_range fields then None else option_map (λ (field : Field). field.value) (one_range fields)
