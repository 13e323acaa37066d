use Rattle.std.proofs.Common.{◌++◌, refl, ap, ◌∙◌, subst, arith}
use Rattle.std.specs.Str.{IsUtf8}
use Rattle.json.specs.Reads.{token_of}
use Rattle.json_spelling.proofs.Following.{plain_value, plain_extent, value_gone_over, value_refused}
use Rattle.json_spelling.proofs.speller.Speller.push_plain.Goals as goal

pub returns-in_err-begin_value-clause-err : goal.returns-in_err-begin_value-clause-err
returns-in_err-begin_value-clause-err c not_json =
    let plain = plain_value (token_of c.args.token) c.requires.plain in
    value_refused (token_of c.args.token) plain.0 plain.2 c.args.self.now (c.begin_value.ensures.err (grind arith))

pub returns-clause-ok : goal.returns-clause-ok
returns-clause-ok c =
    let t = token_of c.args.token in
    let begun = c.begin_value.new.self in
    let plain = plain_value t c.requires.plain in
    let written = c.in_ok-put.ensures.written ∙ ap (λ s. begun.out.items ++ s) plain.5 in
    value_gone_over t plain.0 plain.1 plain.2 plain.3 plain.4 c.args.self.now begun _ c.end_value.new.self c.in_ok-begin_value.ensures.ok written (subst IsUtf8 plain.5 c.in_ok-put.ensures.utf8) refl refl refl (plain_extent begun.extent plain.1 plain.6) c.in_ok-end_value.ensures
