-- The bytes of a reply field's value.
use Rattle.std.specs.Prelude.{ℕ, List}
use Rattle.http_edge.specs.declared.reply_field.FieldValue.{FieldValue}
use Rattle.http_edge.specs.declared.reply_field.FieldValue.TheVariants.{Constant, Made}

abbrev pub field_value : FieldValue → List ℕ
field_value (Constant text) = text.now
field_value (Made bytes) = bytes
