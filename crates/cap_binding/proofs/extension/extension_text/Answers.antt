use Rattle.std.proofs.Common.{◌++◌, codes, ap, sym, ◌∙◌}
use Rattle.share_codec.specs.Params.{ParamsValue}
use Rattle.share_codec.specs.Segments.{segment_size, segment_count}
use Rattle.share_codec.specs.Ueb.{entry, ueb_text}
use Rattle.cap_binding.proofs.ExtensionEntries.{extension_written}
use Rattle.cap_binding.proofs.extension.extension_text.Goals as goal

pub returns : goal.returns
returns c =
    let p : ParamsValue = record { k = c.params.inside.k; n = c.params.inside.n; size = c.params.inside.size } in
    extension_written p c.args.roots.now _ _ _ _ _ _ _ _ _ (c.segment_count.ensures.count ∙ ap segment_count (sym c.params.view_is)) (c.segment_size.ensures.size ∙ ap segment_size (sym c.params.view_is))
    (c.in_ok-push_entry.ensures ∙ ap (λ t. t ++ entry (codes "crypttext_root_hash") c.args.roots.now.crypttext_root) c.new-text.ensures.items)
    c.in_ok-push_number.ensures c.in_ok-push_number-2.ensures c.in_ok-push_number-3.ensures
    c.in_ok-push_entry-2.ensures c.in_ok-push_number-4.ensures c.in_ok-push_number-5.ensures
    ∙ ap (λ (v : ParamsValue). ueb_text v c.args.roots.now) c.params.view_is
