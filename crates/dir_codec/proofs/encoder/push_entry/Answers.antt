use Rattle.std.proofs.Common.{◌++◌, string_bytes, refl, ap, ◌∙◌}
use Rattle.std.proofs.lemmas.Result.{on_ok_weaker}
use Rattle.tag_hash.specs.Netstring.{netstring}
use Rattle.dir_codec.proofs.Written.{entry_is}
use Rattle.dir_codec.proofs.encoder.push_entry.Goals as goal

pub returns : goal.returns
returns c =
    let entry = c.args.entry.now in
    let name = c.as_bytes.ensures.value ∙ c.as_str.ensures in
    let cap = c.as_bytes-2.ensures.value ∙ c.caps_have_one_text.ensures.one entry.cap (string_bytes c.in_ok-cap.cap) c.in_ok-cap.ensures in
    let metadata = c.as_bytes-3.ensures.value ∙ c.as_str-2.ensures in
    let one = c.in_ok-push_netstring.ensures.ok ∙ ap (λ t. t ++ netstring c.as_bytes.result.now) c.clear.ensures.items in
    let two = c.in_ok-push_netstring-2.ensures.ok ∙ ap (λ t. t ++ netstring c.as_bytes-2.result.now) one in
    let three = c.in_ok-push_netstring-3.ensures.ok ∙ ap (λ t. t ++ netstring _) two in
    let four = c.in_ok-push_netstring-4.ensures.ok ∙ ap (λ t. t ++ netstring c.as_bytes-3.result.now) three in
    on_ok_weaker c.push_netstring-5.result (λ pushed. pushed ∙ ap (λ t. c.args.text.now.items ++ t) (entry_is entry _ _ _ _ _ name cap refl metadata (c.deref.ensures.value ∙ four))) c.push_netstring-5.ensures.ok
