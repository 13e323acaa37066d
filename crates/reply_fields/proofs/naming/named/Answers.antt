use Rattle.std.proofs.Common.{◌≡◌, ◌++◌, List, ℕ, map, codes, refl, ap, subst, sym, ◌∙◌}
use Rattle.percent_encoding.specs.Percent.{percent_encode}
use Rattle.reply_fields.specs.Names.{escaped_in_names, plain_byte, named_disposition}
use Rattle.reply_fields.proofs.Plain.{IsPlainText, named_plain, in_five}
use Rattle.reply_fields.proofs.naming.named.Goals as goal

value_is : (c : goal.After-drop-escaped-2) → c.from_vec.result ≡ named_disposition c.args.kind.now c.args.name.now
value_is c =
    let escaped : c.as_bytes-3.result.now ≡ percent_encode escaped_in_names c.args.name.now =
    rw (c.as_bytes-3.ensures.value, c.in_ok-append_to.ensures.ok, c.new-escaped.ensures.bytes, c.percent_encode.ensures.text, c.as_bytes.ensures.value) refl in
    c.from_vec.ensures
    ∙ in_five c.args.kind.now (codes "; filename=\"") (map plain_byte c.args.name.now) (codes "\"; filename*=UTF-8''") (percent_encode escaped_in_names c.args.name.now) _ _ _ _ _
    c.in_ok-value.ensures.items c.in_ok-extend_from_slice.ensures.items (rw c.as_bytes-2.ensures.value at c.in_ok-put_plain.ensures) c.in_ok-extend_from_slice-2.ensures.items
    (c.in_ok-extend_from_slice-3.ensures.items ∙ ap (λ (l : List ℕ). c.extend_from_slice-2.new.self.items ++ l) escaped)

pub returns-clause-value : goal.returns-clause-value
returns-clause-value c = value_is c

pub returns-clause-plain : goal.returns-clause-plain
returns-clause-plain c = subst IsPlainText (sym (value_is c)) (named_plain c.args.kind.now c.args.name.now c.requires.plain)
