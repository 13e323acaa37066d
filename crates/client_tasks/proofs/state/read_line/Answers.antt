use Rattle.std.proofs.Common.{rules, ◌≡◌, ℕ, List, refl, ap, ◌∙◌}
use Rattle.percent_encoding.specs.Percent.{percent_decode}
use Rattle.caps.specs.declared.cap.Cap.{Cap}
use Rattle.client_tasks.specs.State.{state_line}
use Rattle.client_tasks.specs.declared.state.Stamp.{Stamp}
use Rattle.client_tasks.proofs.Lines.{not_without_fields, not_without_cap, same_line, that_file, none_of, some_of}
use Rattle.client_tasks.proofs.state.read_line.Goals as goal

pub returns-in_default-clause-none : goal.returns-in_default-clause-none
returns-in_default-clause-none c path stamp cap is e = not_without_fields c.args.line.now path stamp cap c.in_default.ensures is e

pub returns-in_default-2-clause-none : goal.returns-in_default-2-clause-none
returns-in_default-2-clause-none c path stamp cap is e =
    not_without_cap c.args.line.now c.in-Some.fields.path.now c.in-Some.fields.cap.now path c.in-Some.fields.size c.in-Some.fields.time stamp cap
    c.caps_have_one_text.ensures.some c.in-Some.ensures (none_of c.in_ok-cap.field-0 _ _ c.in_default-2.is c.in_ok-cap.ensures) is e

pub returns-then-not-are_same_bytes-clause-none : goal.returns-then-not-are_same_bytes-clause-none
returns-then-not-are_same_bytes-clause-none c path stamp cap is e =
    let fields = c.in-Some.fields in
    let own : Stamp = record { size = fields.size; time = fields.time } in
    let read : Cap = c.in-Some-2.cap in
    let of_text = some_of c.in_ok-cap.field-0 _ _ read c.in-Some-2.is c.in_ok-cap.ensures in
    let place : c.deref.result.now ≡ percent_decode fields.path.now =
    rw (c.deref.ensures.value, c.in_ok-append_to.ensures.ok, c.new-path.ensures.items, c.percent_decode.ensures.bytes) refl in
    let again : c.deref-2.result.now ≡ c.args.line.now =
    c.deref-2.ensures.value ∙ c.in_ok-again.ensures ∙ ap (λ (p : List ℕ). state_line p own read) place
    ∙ same_line c.args.line.now fields.path.now fields.cap.now path fields.size fields.time stamp read cap c.caps_have_one_text.ensures.some c.texts_have_one_cap.ensures c.in-Some.ensures of_text.0 is e in
    let same = c.are_same_bytes.ensures.1 again in
    let other = c.if-not-are_same_bytes.true in
    search rules

pub returns-clause-same : goal.returns-clause-same
returns-clause-same c path stamp cap is e =
    let fields = c.in-Some.fields in
    let read : Cap = c.in-Some-2.cap in
    let of_text = some_of c.in_ok-cap.field-0 _ _ read c.in-Some-2.is c.in_ok-cap.ensures in
    let place : c.append_to.new.out.items ≡ percent_decode fields.path.now = rw (c.in_ok-append_to.ensures.ok, c.new-path.ensures.items, c.percent_decode.ensures.bytes) refl in
    let that = that_file c.args.line.now fields.path.now fields.cap.now path fields.size fields.time stamp read cap c.caps_have_one_text.ensures.some c.texts_have_one_cap.ensures c.in-Some.ensures of_text.0 is e in
    (place ∙ that.path_is, (that.stamp_is, that.cap_is))
