use Rattle.std.proofs.Common.{true, false, Ok, option_map, string_bytes, sym, ap, ◌∙◌}
use Rattle.std.proofs.lemmas.Result.{err_from_is_err_and}
use Rattle.serde_json.specs.Data.{object}
use Rattle.dir_codec.specs.Reading.{child_reading}
use Rattle.children_reader.proofs.Making.{fields_none, fields_some, cap_fault, cap_known, write_known, metadata_known}
use Rattle.children_reader.proofs.child.read_fields.Goals as goal

pub returns-in_default-clause-err : goal.returns-in_default-clause-err
returns-in_default-clause-err c other ms all = fields_none c.args.name.now (object ms) (sym (c.text_of.ensures _ all.ro_uri) ∙ ap (option_map string_bytes) c.in_default.is)

pub returns-then-is_empty-clause-err : goal.returns-then-is_empty-clause-err
returns-then-is_empty-clause-err c other ms all =
    let uri = sym (c.text_of.ensures _ all.ro_uri) ∙ ap (option_map string_bytes) c.in-Some.is in
    fields_some c.args.name.now (object ms) (string_bytes c.in-Some.uri) true uri (sym c.is_empty.ensures ∙ c.if-is_empty.true)

pub returns-in_err-cap-clause-err : goal.returns-in_err-cap-clause-err
returns-in_err-cap-clause-err c =
    let p = err_from_is_err_and c.from_residual.result c.from_residual.ensures.1 in
    rw (p.1, p.2) (λ other ms all.
    let uri = sym (c.text_of.ensures _ all.ro_uri) ∙ ap (option_map string_bytes) c.in-Some.is in
    let named = fields_some c.args.name.now (object ms) (string_bytes c.in-Some.uri) false uri (sym c.is_empty.ensures ∙ c.if-is_empty.false) in
    named ∙ cap_fault c.args.name.now (object ms) (string_bytes c.in-Some.uri) _ (ap child_reading (sym c.as_bytes.ensures.value) ∙ c.in_err-cap.ensures.err other))

pub returns-then-has_write-clause-err : goal.returns-then-has_write-clause-err
returns-then-has_write-clause-err c other ms all =
    let uri = sym (c.text_of.ensures _ all.ro_uri) ∙ ap (option_map string_bytes) c.in-Some.is in
    let named = fields_some c.args.name.now (object ms) (string_bytes c.in-Some.uri) false uri (sym c.is_empty.ensures ∙ c.if-is_empty.false) in
    let cap = ap child_reading (sym c.as_bytes.ensures.value) ∙ c.in_ok-cap.ensures.ok in
    named ∙ cap_known c.args.name.now (object ms) (string_bytes c.in-Some.uri) c.in_ok-cap.cap cap ∙ write_known c.args.name.now (object ms) c.in_ok-cap.cap (sym (c.has_write.ensures _ all.rw_uri) ∙ c.if-has_write.true)

pub returns-in_err-metadata-clause-err : goal.returns-in_err-metadata-clause-err
returns-in_err-metadata-clause-err c =
    let p = err_from_is_err_and c.from_residual-in_err-metadata.result c.from_residual-in_err-metadata.ensures.1 in
    rw (p.1, p.2) (λ other ms all.
    let uri = sym (c.text_of.ensures _ all.ro_uri) ∙ ap (option_map string_bytes) c.in-Some.is in
    let named = fields_some c.args.name.now (object ms) (string_bytes c.in-Some.uri) false uri (sym c.is_empty.ensures ∙ c.if-is_empty.false) in
    let cap = ap child_reading (sym c.as_bytes.ensures.value) ∙ c.in_ok-cap.ensures.ok in
    let known = named ∙ cap_known c.args.name.now (object ms) (string_bytes c.in-Some.uri) c.in_ok-cap.cap cap in
    known ∙ metadata_known c.args.name.now (object ms) c.in_ok-cap.cap _ (sym (c.has_write.ensures _ all.rw_uri) ∙ c.if-has_write.false) (c.in_err-metadata.ensures.err other _ all.metadata))

pub returns-clause-ok : goal.returns-clause-ok
returns-clause-ok c ms all =
    let uri = sym (c.text_of.ensures _ all.ro_uri) ∙ ap (option_map string_bytes) c.in-Some.is in
    let named = fields_some c.args.name.now (object ms) (string_bytes c.in-Some.uri) false uri (sym c.is_empty.ensures ∙ c.if-is_empty.false) in
    let cap = ap child_reading (sym c.as_bytes.ensures.value) ∙ c.in_ok-cap.ensures.ok in
    let known = named ∙ cap_known c.args.name.now (object ms) (string_bytes c.in-Some.uri) c.in_ok-cap.cap cap in
    known ∙ metadata_known c.args.name.now (object ms) c.in_ok-cap.cap (Ok c.in_ok-metadata.metadata) (sym (c.has_write.ensures _ all.rw_uri) ∙ c.if-has_write.false) (c.in_ok-metadata.ensures.ok _ all.metadata)
