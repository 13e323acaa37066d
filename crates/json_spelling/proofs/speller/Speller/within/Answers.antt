use Rattle.std.proofs.Common.{false, refl}
use Rattle.json_spelling.specs.declared.speller.Speller.{Speller}
use Rattle.json_spelling.proofs.Following.{none_yet}
use Rattle.json_spelling.proofs.speller.Speller.within.Goals as goal

pub returns : goal.returns
returns c =
    let speller : Speller = record { out = c.new.result; opened = c.new-2.result; ended = false; extent = c.flat.result; levels = c.args.levels } in
    none_yet speller c.new.ensures.items c.new-2.ensures.items refl c.flat.ensures
