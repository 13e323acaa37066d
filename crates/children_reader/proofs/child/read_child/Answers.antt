use Rattle.std.proofs.Common.{◌≡◌, ◌==◌, ℕ, List, length, Ok, string_bytes, subst, sym, ap, ◌∙◌}
use Rattle.std.proofs.lemmas.Result.{err_from_is_err_and}
use Rattle.std.proofs.lemmas.Str.{IsUtf8-string_bytes}
use Rattle.serde_json.specs.Data.{object}
use Rattle.dir_codec.specs.Names.{nfc_text}
use Rattle.children_reader.specs.Kept.{IsChildNode}
use Rattle.dir_codec.specs.declared.entry.Entry.{Entry}
use Rattle.children_reader.proofs.Making.{made_none, made_some}
use Rattle.dir_codec.proofs.Names.{nfc_is_name}
use Rattle.children_reader.proofs.child.read_child.Goals as goal

pub returns-in_default-clause-err : goal.returns-in_default-clause-err
returns-in_default-clause-err c other d node = made_none c.args.key.now d (subst (λ n. IsChildNode n d) c.in_default.is node)

pub returns-in_err-child-clause-err : goal.returns-in_err-child-clause-err
unfolding nfc_text
returns-in_err-child-clause-err c =
    let name : c.as_str.result.now ≡ nfc_text c.args.key.now = c.as_str.ensures.value ∙ c.in_ok-name.ensures in
    let p = err_from_is_err_and c.from_residual-in_err-child.result c.from_residual-in_err-child.ensures.1 in
    rw (p.1, p.2) (λ other d node.
    let kept = subst (λ n. IsChildNode n d) c.in-Some.is node in
    made_some c.args.key.now d (object kept.0) c.as_str.result.now kept.1 name ∙ c.in_err-child.ensures.err other kept.0 kept.2)

pub returns-clause-ok : goal.returns-clause-ok
unfolding nfc_text
returns-clause-ok c d node =
    let kept = subst (λ n. IsChildNode n d) c.in-Some.is node in
    let name : c.as_str.result.now ≡ nfc_text c.args.key.now = c.as_str.ensures.value ∙ c.in_ok-name.ensures in
    let child = c.in_ok-child.child in
    let named : List ℕ → Entry = λ n. record { name = n; cap = child.cap; metadata = child.metadata } in
    made_some c.args.key.now d (object kept.0) c.as_str.result.now kept.1 name ∙ c.in_ok-child.ensures.ok kept.0 kept.2 ∙ ap (λ n. Ok (named n)) c.as_str.ensures.value

pub returns-clause-kept : goal.returns-clause-kept
unfolding nfc_text
returns-clause-kept c d node =
    let kept = subst (λ n. IsChildNode n d) c.in-Some.is node in
    record {
      name = nfc_is_name c.args.key.now (string_bytes c.in_ok-name.name) (IsUtf8-string_bytes c.in_ok-name.name) c.in_ok-name.ensures (ap (λ t. length t == 0) (sym c.as_str.ensures.value) ∙ c.in_ok-child.ensures.some);
      child = c.in_ok-child.ensures.child;
      cap = c.in_ok-child.ensures.cap;
      metadata = c.in_ok-child.ensures.metadata kept.0 kept.2;
    }
