use Rattle.std.proofs.Common.{◌≡◌, ◌<◌, ◌-◌, ◌++◌, length, take, min, arith, ap, sym, subst, ◌∙◌, length-take}
use Rattle.std.specs.Prelude.{MatchOption}
use Rattle.file_shares.specs.Downloads.{IsDone, IsGiven}
use Rattle.web_replies.proofs.Parts.{found, part_given, some_given}
use Rattle.web_replies.proofs.part.Part.next.Goals as goal

pub returns-clause-given : goal.returns-clause-given
returns-clause-given c =
    let count = c.self.inside.count in
    let skip = c.self.inside.skip in
    let left = c.self.inside.download.left in
    let each = c.self.inside.download.each in
    let segment = c.in-Some.segment in
    let rest = c.next.new.self.left in
    let many = c.min-many.result in
    let given : IsGiven segment.items c.self.inside.download c.next.new.self =
    subst (λ given. MatchOption given (IsDone c.self.inside.download c.next.new.self) (λ bytes. IsGiven bytes.items c.self.inside.download c.next.new.self)) c.in-Some.is c.in_ok-segment.ensures.given in
    let some : 0 < count = omega (arith, c.if-self-eq0.false) in
    let inside : skip < length segment.items = omega (arith, c.self.invariant.0, c.self.invariant.1.0 some, some, ap length given.is ∙ length-take each left) in
    let is = found left segment.items rest each skip given.is given.left in
    let counted : many ≡ min count (length segment.items - skip) = (let a = segment.ok.0 in omega arith) in (
      subst (λ l. 0 < length l) (sym c.cut.ensures) (some_given count skip skip many left segment.items rest is inside counted some),
      sym c.self.view_is ∙ part_given count skip skip many left segment.items rest is inside counted ∙ ap (λ l. l ++ take (count - many) rest) (sym c.cut.ensures),
    )
