use Rattle.std.proofs.Common.{◌≡◌, ◌<◌, take}
use Rattle.std.specs.Str.Parse.{digits_value}
use Rattle.range_view.specs.Asked.{past}
use Rattle.range_view.proofs.number.number_in_u64.Given as goal

abbrev pub invariant-loop-digit : goal.invariant-loop-digit
invariant-loop-digit l = record {
  read : l.number ≡ digits_value 10 (take l.digit-index l.digits);
  fits : l.number < past;
}
