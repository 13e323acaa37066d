-- The text that a value is written as is UTF-8.
use Rattle.std.proofs.Common.{List, [], ◌∷◌, map, pos, negsuc, String, Global, string_bytes, Bool, true, false, IsUtf8, refl, sym, subst, arith}
use Rattle.std.proofs.lemmas.Fmt.{IsAscii-decimal}
use Rattle.std.proofs.lemmas.Str.{IsUtf8-from_ascii, IsUtf8-nil, IsUtf8-string_bytes}
use Rattle.itoa.proofs.Decimal.{IsAscii-signed_decimal}
use Rattle.json.proofs.Printed.Utf8.{IsUtf8-are_ascii, IsUtf8-quoted, IsUtf8-boolean}
use Rattle.serde_json.specs.Data.{Num, unsigned, negative, float, Data, Members}
use Rattle.serde_json.specs.View.{view, view_step, items_of, members_of, number_view}
use Rattle.serde_json.specs.Written.{number_text, compact_text, items_text, members_text}
use Rattle.serde_json.specs.declared.value.Value.{Value, ind-Value, Value-F, map-Value, roll-Value, fold-roll-Value}
use Rattle.json_spelling.proofs.OnePass.{item_utf8, member_utf8, opened_utf8}
use Rattle.json_spelling.specs.Sound.{IsSoundNum, IsSound, ItemsAreSound, MembersAreSound}

number_utf8 : (n : Num) → IsSoundNum n → IsUtf8 (number_text n)
number_utf8 (unsigned n) is = IsUtf8-from_ascii _ (IsAscii-decimal n is)
number_utf8 (negative (pos n)) is = absurd is
number_utf8 (negative (negsuc n)) is = IsUtf8-from_ascii _ (IsAscii-signed_decimal (negsuc n) (omega (arith, is)))
number_utf8 (float x) is = IsUtf8-nil

-- what is sound has a text
abbrev pub IsText : Data → Type 0
IsText d = IsSound d → IsUtf8 (compact_text d)

abbrev pub HasText : Value → Type 0
HasText v = IsText (view v)

module _ {S : Type 0} (value : S → Value) (holds : (s : S) → HasText (value s)) where
  items_utf8 : (later : Bool) (xs : List S) → ItemsAreSound (items_of (map view (map value xs))) → IsUtf8 (items_text later (items_of (map view (map value xs))))
  items_utf8 later [] all = IsUtf8-are_ascii (93 ∷ []) refl
  items_utf8 later (x ∷ xs) all = item_utf8 later (view (value x)) (items_of (map view (map value xs))) (holds x all.0) (items_utf8 true xs all.1)

  abbrev seen : List (String Global × S) → Members
  seen es = members_of (map (λ (m : String Global × Value). (m.0, view m.1)) (map (λ (m : String Global × S). (m.0, value m.1)) es))

  members_utf8 : (later : Bool) (es : List (String Global × S)) → MembersAreSound (seen es) → IsUtf8 (members_text later (seen es))
  members_utf8 later [] all = IsUtf8-are_ascii (125 ∷ []) refl
  members_utf8 later (e ∷ es) all = member_utf8 later e.0 (string_bytes e.0) (view (value e.1)) (seen es) refl (holds e.1 all.0) (members_utf8 true es all.2)

  level_utf8 : (y : Value-F S) → IsText (view_step (map-Value Value Data view (map-Value S Value value y)))
  level_utf8 Value-F.Null all = IsUtf8-are_ascii _ refl
  level_utf8 (Value-F.Bool b) all = IsUtf8-boolean b
  level_utf8 (Value-F.Number x) all = number_utf8 (number_view x) all
  level_utf8 (Value-F.String s) all = IsUtf8-quoted (string_bytes s) (IsUtf8-string_bytes s)
  level_utf8 (Value-F.Array v) all = opened_utf8 91 _ refl (items_utf8 false v.items all)
  level_utf8 (Value-F.Object m) all = opened_utf8 123 _ refl (members_utf8 false m.entries all)

  step_utf8 : (y : Value-F S) → HasText (roll-Value (map-Value S Value value y))
  step_utf8 y = subst IsText (sym (fold-roll-Value Data view_step (map-Value S Value value y))) (level_utf8 y)

pub value_utf8 : (v : Value) → HasText v
value_utf8 = ind-Value HasText (λ x y e. subst (λ z. HasText (roll-Value z)) e (step_utf8 (λ s. s.0) (λ s. s.1) y))
