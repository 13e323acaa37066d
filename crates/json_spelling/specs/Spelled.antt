-- What one pass over the tokens of JSON writes; for private clauses.
use Rattle.std.specs.Prelude.{◌≡◌, ℕ, max, List, [], ◌∷◌, ◌++◌, length, Bool, true, false, ◌||◌, ⊤, Option, Some, None, option_and_then, String, string_bytes}
use Rattle.std.specs.Cmp.Lexicographic.{slice_cmp}
use Rattle.std.specs.Ordering.{nat_cmp, is_lt}
use Rattle.std.specs.Str.{IsUtf8}
use Rattle.std.specs.declared.alloc.Global.{Global}
use Rattle.json.specs.Token.{Token}
use Rattle.json.specs.Print.{quoted}
use Rattle.json.specs.Json.{value, items, members, if_last}
use Rattle.serde_json.specs.Data.{Data, Items, Members, no_members, member, depth, items_depth, members_depth}
use Rattle.serde_json.specs.Read.{of_json, of_items, of_members, converted, max_depth}
use Rattle.serde_json.specs.Written.{has_float, items_have_float, members_have_float, comma_if, compact_text, items_text, members_text}
use Rattle.json_spelling.specs.Metadata.{is_metadata}
use Rattle.json_spelling.specs.declared.extent.Extent.{Extent}
use Rattle.json_spelling.specs.declared.spelling.Spelled.{Spelled}

-- a value's extent: how many levels of arrays and objects it has, and whether a number in it is not a whole one
abbrev pub IsExtent : Extent → ℕ → Bool → Type 0
IsExtent extent levels fractional = (extent.levels ≡ levels) × (extent.fractional ≡ fractional)

-- the first of the tokens `old` are a value and `new` the rest; its spelling went behind `before`
abbrev pub SpellsValue : ℕ → List Token → List Token → List ℕ → List ℕ → Extent → Type 0
SpellsValue most old new before after extent =
    (d : Data) × (converted of_json (value most old) ≡ Some (d, new)) × (after ≡ before ++ compact_text d) × IsExtent extent (depth d) (has_float d) × IsUtf8 (compact_text d)

-- the same of an array's items
abbrev pub SpellsItems : ℕ → List Token → List Token → List ℕ → List ℕ → Extent → Type 0
SpellsItems most old new before after extent =
    (ds : Items) × (converted of_items (items (value most) (length old) old) ≡ Some (ds, new)) × (after ≡ before ++ 91 ∷ items_text false ds) × IsExtent extent (items_depth ds) (items_have_float ds)
    × IsUtf8 (items_text false ds)

-- the same of an object's members
abbrev pub SpellsMembers : ℕ → List Token → List Token → List ℕ → List ℕ → Extent → Type 0
SpellsMembers most old new before after extent =
    (ms : Members) × (converted (λ j. of_members j no_members) (members (value most) (length old) old) ≡ Some (ms, new)) × (after ≡ before ++ 123 ∷ members_text false ms)
    × IsExtent extent (members_depth ms) (members_have_float ms) × IsUtf8 (members_text false ms)

-- the data that the tokens of a whole text are, as `read` of `serde_json` has it
abbrev pub data_of : List Token → Option Data
data_of ts = option_and_then of_json (option_and_then (λ p. if_last p.0 p.1) (value max_depth ts))

-- the tokens are those of metadata, whose spelling went behind `before`
abbrev pub SpellsMetadata : List Token → List ℕ → List ℕ → Type 0
SpellsMetadata ts before after = (d : Data) × (data_of ts ≡ Some d) × (is_metadata d ≡ true) × (after ≡ before ++ compact_text d) × IsUtf8 (compact_text d)

abbrev pub AreNoMetadata : List Token → Type 0
AreNoMetadata ts = (d : Data) → data_of ts ≡ Some d → is_metadata d ≡ false

abbrev pub begins_object : Token → Bool
begins_object Token.begin_object = true
begins_object _ = false

abbrev pub begins_text : Token → Bool
begins_text (Token.string s) = true
begins_text _ = false

abbrev pub begins_array : Token → Bool
begins_array Token.begin_array = true
begins_array _ = false

-- values, each at its key, are of these members
abbrev pub AreAt : {V : Type 0} → (List ℕ → Data → V → Type 0) → List (String Global × V) → Members → Type 0
AreAt Is [] no_members = ⊤
AreAt Is [] (member k d ms) = ⊥
AreAt Is (e ∷ es) no_members = ⊥
AreAt Is (e ∷ es) (member k d ms) = (string_bytes e.0 ≡ k) × Is k d e.1 × AreAt Is es ms

-- a value, spelled
abbrev pub IsSpelled : Spelled → Data → Type 0
IsSpelled spelled d = (spelled.text.items ≡ compact_text d) × IsExtent spelled.extent (depth d) (has_float d) × IsUtf8 spelled.text.items

-- spelled members, each at its key, are these members
abbrev pub AreSpelled : List (String Global × Spelled) → Members → Type 0
AreSpelled es ms = AreAt (λ k d spelled. IsSpelled spelled d) es ms

-- the text of spelled members, with the closing brace
abbrev pub spelled_text : Bool → List (String Global × Spelled) → List ℕ
spelled_text later [] = 125 ∷ []
spelled_text later (e ∷ es) = comma_if later ++ (quoted (string_bytes e.0) ++ 58 ∷ (e.1.text.items ++ spelled_text true es))

-- the extent of spelled members, beside each other
abbrev pub entries_levels : List (String Global × Spelled) → ℕ
entries_levels [] = 0
entries_levels (e ∷ es) = max e.1.extent.levels (entries_levels es)

abbrev pub entries_fractional : List (String Global × Spelled) → Bool
entries_fractional [] = false
entries_fractional (e ∷ es) = e.1.extent.fractional || entries_fractional es

-- the key is above the last one, where there is one
abbrev pub rises : Option (List ℕ) → List ℕ → Bool
rises None key = true
rises (Some last) key = is_lt (slice_cmp nat_cmp last key)
