use Rattle.cap_binding.proofs.ExtensionEntries.{on_ok, entry_pushed}
use Rattle.cap_binding.proofs.extension.push_entry.Goals as goal

pub returns : goal.returns
returns c =
    on_ok c.push_netstring.result _ _
    (λ e. entry_pushed c.args.text.now.items c.args.key.now c.args.value.now _ _ _ c.in_ok-extend_from_slice.ensures.items c.in_ok-extend_from_slice-2.ensures.items e)
    c.push_netstring.ensures.ok
