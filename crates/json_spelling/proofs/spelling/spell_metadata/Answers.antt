use Rattle.std.proofs.Common.{◌≡◌, [], ◌∷◌, sym, ◌∙◌, arith}
use Rattle.json.specs.Reads.{token_of}
use Rattle.json_spelling.proofs.ReadData.{object_first}
use Rattle.json_spelling.proofs.OnePass.{none_there, other_there, refused_there, more_there, object_fits, metadata_there}
use Rattle.json_spelling.proofs.spelling.spell_metadata.Goals as goal

pub returns-in_default-clause-ok : goal.returns-in_default-clause-ok
returns-in_default-clause-ok c = none_there c.args.reader.now (grind arith)

pub returns-then-not-opens_object-clause-ok : goal.returns-then-not-opens_object-clause-ok
returns-then-not-opens_object-clause-ok c =
    let first : c.args.reader.now ≡ token_of c.in-Some.token ∷ c.next.new.self = grind arith in
    other_there c.args.reader.now (token_of c.in-Some.token) c.next.new.self first (sym c.opens_object.ensures ∙ c.if-not-opens_object.true)

pub returns-in-Err-NotJson-clause-ok : goal.returns-in-Err-NotJson-clause-ok
returns-in-Err-NotJson-clause-ok c =
    let first : c.args.reader.now ≡ token_of c.in-Some.token ∷ c.next.new.self = grind arith in
    let opened = object_first c.args.reader.now (token_of c.in-Some.token) c.next.new.self first (sym c.opens_object.ensures ∙ c.if-not-opens_object.false) in
    refused_there c.args.reader.now c.next.new.self opened (c.spell_members.ensures.err (grind arith))

pub returns-in-Some-next-clause-ok : goal.returns-in-Some-next-clause-ok
returns-in-Some-next-clause-ok c =
    let first : c.args.reader.now ≡ token_of c.in-Some.token ∷ c.next.new.self = grind arith in
    let opened = object_first c.args.reader.now (token_of c.in-Some.token) c.next.new.self first (sym c.opens_object.ensures ∙ c.if-not-opens_object.false) in
    let got = c.in-Ok.ensures.ok in
    let more : c.spell_members.new.reader ≡ token_of c.in-Some-next.field-0 ∷ c.next-in-Ok.new.self = grind arith in
    more_there c.args.reader.now c.next.new.self c.spell_members.new.reader got.0 opened got.1 _ _ more

pub returns-in-None-clause-ok : goal.returns-in-None-clause-ok
returns-in-None-clause-ok c =
    let first : c.args.reader.now ≡ token_of c.in-Some.token ∷ c.next.new.self = grind arith in
    let opened = object_first c.args.reader.now (token_of c.in-Some.token) c.next.new.self first (sym c.opens_object.ensures ∙ c.if-not-opens_object.false) in
    let got = c.in-Ok.ensures.ok in
    let over : c.spell_members.new.reader ≡ [] = grind arith in
    let fits = object_fits _ _ got.0 _ got.3 c.opened.ensures c.fits.ensures in
    metadata_there c.args.reader.now c.next.new.self c.spell_members.new.reader got.0 opened got.1 c.args.out.now.items c.spell_members.new.out.items c.fits.result over fits got.2 got.4
