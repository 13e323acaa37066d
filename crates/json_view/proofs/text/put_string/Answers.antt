use Rattle.std.proofs.Common.{◌++◌, sym, ap, ◌∙◌}
use Rattle.std.proofs.lemmas.Result.{on_ok_weaker}
use Rattle.std.specs.List.{list_all}
use Rattle.json_view.specs.Strings.{needs_no_escape}
use Rattle.serde_json.specs.View.{view}
use Rattle.json_view.proofs.Plain.{plain_quoted, written_quoted}
use Rattle.json_view.proofs.text.put_string.Goals as goal

pub returns-then-needs_no_escape : goal.returns-then-needs_no_escape
returns-then-needs_no_escape c =
    let text = c.args.text.now in
    let plain = ap (list_all needs_no_escape) (sym c.as_bytes.ensures.value) ∙ sym c.needs_no_escape.ensures ∙ c.if-needs_no_escape.true in
    on_ok_weaker c.put_all.result (λ put. put ∙ ap (λ t. c.args.out.now.items ++ t) (plain_quoted text c.as_bytes-then-needs_no_escape.result.now plain c.as_bytes-then-needs_no_escape.ensures.value)) c.put_all.ensures

pub returns : goal.returns
returns c =
    c.in_ok-extend_from_slice.ensures.items
    ∙ ap (λ t. c.args.out.now.items ++ t) (written_quoted (view c.in_ok-value.value) c.args.text.now _ _ c.in_ok-value.ensures c.in_ok-written.ensures.text c.as_bytes-2.ensures.value)
