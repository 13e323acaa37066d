use Rattle.std.proofs.Common.{◌<◌, subst, arith}
use Rattle.dir_codec.specs.Sought.{bytes_read, IsFinding, IsFoundOn, IsAhead}
use Rattle.dir_codec.proofs.finder.find_child.Goals as goal

pub entries-smaller : goal.entries-smaller
entries-smaller c =
    let next : IsFinding c.args.name.now c.args.text.now c.in-Going.next =
    subst (IsFoundOn c.args.name.now c.args.text.now) c.in-Going.is (c.in_ok-next.ensures.found c.args.name.now c.entries.invariant) in
    let ahead : bytes_read c.entries.finder < bytes_read c.in-Going.next = subst (IsAhead c.entries.finder) c.in-Going.is c.in_ok-next.ensures.ahead in
    let within = next.within in
    omega (arith, ahead, within)

pub returns-in-Done : goal.returns-in-Done
returns-in-Done c =
    subst (IsFoundOn c.args.name.now c.args.text.now) c.in-Done.is (c.in_ok-next.ensures.found c.args.name.now c.entries.invariant)
