use Rattle.std.proofs.Common.{arith}
use Rattle.std.specs.Prelude.{Some}
use Rattle.std.proofs.lemmas.Fmt.{parse-decimal}
use Rattle.folder_shelf.proofs.Spelled.{parted}
use Rattle.folder_shelf.proofs.names.parts_of.Goals as goal

pub returns-in_default : goal.returns-in_default
returns-in_default c = λ index number place e.
    let cut = parted c.args.name.now index number c.split_once.result
    (c.spelling_spells.ensures index place.octets) e c.split_once.ensures.cases in
    absurd (rw c.in_default.is at cut)

pub returns-in_default-2 : goal.returns-in_default-2
returns-in_default-2 c = λ index number place e.
    let cut = parted c.args.name.now index number
    (Some (c.in-Some.letters, c.in-Some.digits))
    (c.spelling_spells.ensures index place.octets) e c.in-Some.ensures.cases in
    absurd (c.in_default-2.not-Some index
    (c.in_ok-index.ensures index place.long place.octets cut.0))

pub returns-in-Ok : goal.returns-in-Ok
returns-in-Ok c = λ index number place e.
    let cut = parted c.args.name.now index number
    (Some (c.in-Some.letters, c.in-Some.digits))
    (c.spelling_spells.ensures index place.octets) e c.in-Some.ensures.cases in
    let found = c.in_ok-index.ensures index place.long place.octets cut.0 in
    let read = parse-decimal 16 number c.in-Some.digits.now c.parse.result
    place.small (omega (arith, place.small)) cut.1 c.parse.ensures.value.0 in
    cc (found, c.in-Some-2.is, read, c.in-Ok.is)

pub returns-in-Err : goal.returns-in-Err
returns-in-Err c = λ index number place e.
    let cut = parted c.args.name.now index number
    (Some (c.in-Some.letters, c.in-Some.digits))
    (c.spelling_spells.ensures index place.octets) e c.in-Some.ensures.cases in
    let read = parse-decimal 16 number c.in-Some.digits.now c.parse.result
    place.small (omega (arith, place.small)) cut.1 c.parse.ensures.value.0 in
    cc (read, c.in-Err.is)
