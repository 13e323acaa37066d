use Rattle.std.proofs.Common.{None, refl}
use Rattle.children_reader.specs.declared.collecting.Collecting.{Collecting}
use Rattle.children_reader.proofs.PartsRead.{none_before}
use Rattle.children_reader.proofs.collecting.Collecting.new.Goals as goal

pub returns : goal.returns
returns c json start =
    let new : Collecting = record { at = c.args.at; outcomes = c.new.result; reading = None } in
    none_before json new c.new.ensures.empty refl start
