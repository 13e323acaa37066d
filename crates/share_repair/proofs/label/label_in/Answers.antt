use Rattle.std.proofs.Common.{◌≡◌, Some, ap, ◌∙◌}
use Rattle.tag_hash.specs.Tagged.{tagged}
use Rattle.share_codec.specs.Tags.{extension_tag}
use Rattle.share_repair.proofs.label.label_in.Goals as goal

pub returns : goal.returns
unfolding extension_tag
returns c number p ueb small meets =
    let by = meets.2 in
    let e1 : c.in_ok-extension.extension.now ≡ meets.0.extension = c.in_ok-extension.ensures meets.0 by.six.text in
    let e2 = c.in_ok-params.ensures p meets.1 by.extension.sharing small (e1 ∙ by.extension.text) in
    let e3 : c.in_ok-params.params ≡ p = cc in
    let e4 : c.tagged-ueb.result ≡ ueb = c.tagged-ueb.ensures ∙ ap (tagged extension_tag) e1 ∙ by.hash in
    λ i. Some (record { params = e3 i; ueb = e4 i })
