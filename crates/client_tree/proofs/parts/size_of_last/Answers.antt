use Rattle.std.proofs.Common.{◌-◌, length, sym, ap, ◌∙◌, arith}
use Rattle.dir_codec.specs.declared.entry.Entry.{Entry}
use Rattle.client_tree.specs.Parts.{size_of_file}
use Rattle.client_tree.proofs.PartSizes.{size_at_end}
use Rattle.client_tree.proofs.parts.size_of_last.Goals as goal

pub returns : goal.returns
returns c =
    let last : Entry = c.in_ok-last.field-0.now in
    c.size_of_file.ensures ∙ ap (λ (e : Entry). size_of_file e.cap) (c.in_ok-last.ensures.item.3.1 last) ∙ sym (size_at_end c.args.entries.now last (length c.args.entries.now - 1) (omega (arith, c.in_ok-last.ensures.item.3.0)))
