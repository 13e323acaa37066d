use Rattle.std.proofs.Common.{None, subst, sym, arith}
use Rattle.json.specs.Reads.{token_of}
use Rattle.children_reader.specs.MemberReader.{IsBegunValue, IsOn}
use Rattle.children_reader.proofs.MemberStages.{first_refused, scalar_read, value_begun}
use Rattle.children_reader.proofs.member_reader.begin_in.Goals as goal

pub returns-in_err-field-clause-err : goal.returns-in_err-field-clause-err
returns-in_err-field-clause-err c not_json = λ frames at. first_refused c.args.outcomes.now.items c.args.stage (token_of c.args.token) c.requires.fits c.args.levels frames at (c.begin.ensures.err (grind arith))

pub returns-in_err-stage_after-in-Scalar-clause-err : goal.returns-in_err-stage_after-in-Scalar-clause-err
returns-in_err-stage_after-in-Scalar-clause-err c not_json =
    let t = token_of c.args.token in
    let begun = subst (IsBegunValue c.args.levels t) c.in-Scalar.is c.in_ok-field.ensures.ok in
    λ frames at. (let read = scalar_read c.args.outcomes.now.items c.args.stage t c.requires.fits c.args.levels frames at c.in-Scalar.field begun in
    absurd (c.stage_after.ensures.err (grind arith) read.1 read.5))

pub returns-in_ok-stage_after-in-Scalar-clause-ok : goal.returns-in_ok-stage_after-in-Scalar-clause-ok
returns-in_ok-stage_after-in-Scalar-clause-ok c =
    let t = token_of c.args.token in
    let next = c.in_ok-stage_after-in-Scalar.field-0 in
    let begun = subst (IsBegunValue c.args.levels t) c.in-Scalar.is c.in_ok-field.ensures.ok in
    λ frames at. (let read = scalar_read c.args.outcomes.now.items c.args.stage t c.requires.fits c.args.levels frames at c.in-Scalar.field begun in
    subst (λ s. IsOn s c.stage_after.new.outcomes.items next None) (sym read.2) (c.in_ok-stage_after-in-Scalar.ensures.ok c.args.levels frames read.0 read.1 at read.3 read.4 read.5))

pub returns-in-Open-clause-ok : goal.returns-in-Open-clause-ok
returns-in-Open-clause-ok c =
    let t = token_of c.args.token in
    let begun = subst (IsBegunValue c.args.levels t) c.in-Open.is c.in_ok-field.ensures.ok in
    λ frames at. value_begun c.args.outcomes.now.items c.args.stage t c.requires.fits c.args.levels frames at c.in-Open.value begun
