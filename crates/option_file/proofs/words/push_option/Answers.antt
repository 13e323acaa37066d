use Rattle.toml.proofs.Views.{view-Array, view-Integer, view-String}
use Rattle.option_file.proofs.words.push_option.Goals as goal

pub returns-in-Array : goal.returns-in-Array
returns-in-Array c = λ key same. rw (c.in-Array.is, view-Array c.in-Array.values) (c.push_values.ensures key same)

pub returns-in-String : goal.returns-in-String
returns-in-String c = λ key same.
    rw (c.in-String.is, view-String c.in-String.field-0) (rw (c.in-String.is, view-String c.in-String.field-0) at (c.push_value.ensures key same))

pub returns-in-Integer : goal.returns-in-Integer
returns-in-Integer c = λ key same.
    rw (c.in-Integer.is, view-Integer c.in-Integer.field-0)
    (rw (c.in-Integer.is, view-Integer c.in-Integer.field-0) at (c.push_value-in-Integer.ensures key same))
