use Rattle.std.proofs.Common.{◌≢◌, ◌++◌, sym, ap, subst, ◌∙◌}
use Rattle.std.proofs.lemmas.Bool.{false≢true}
use Rattle.dir_codec.specs.DirectoryText.{directory_text}
use Rattle.children_reader.specs.Named.{entries_of}
use Rattle.children_reader.specs.TextMakers.{IsTextMadeOn}
use Rattle.dir_codec.specs.declared.fault.DirFault.TheVariants.{NoMemory}
use Rattle.children_reader.proofs.Stages.{all_named, fault_named}
use Rattle.children_reader.proofs.text_maker.name_next.Goals as goal

pub returns-in-Ok-clause-made : goal.returns-in-Ok-clause-made
returns-in-Ok-clause-made c =
    let so = c.requires in
    let children = c.name_some.new.children.entries in
    let left = c.name_some.new.left.entries in
    subst (IsTextMadeOn c.args.json.now) (sym c.going.ensures)
    (entries_of children, so.1 ∙ all_named children left so.0 (c.is_empty.ensures.0 c.if-is_empty.true) (c.in-Ok.ensures.ok so.0 so.2), ap (λ t. t ++ directory_text (entries_of children)) c.new.ensures.items)

pub returns-in-Err-2-clause-made : goal.returns-in-Err-2-clause-made
returns-in-Err-2-clause-made c =
    let so = c.requires in
    let fault = c.in-Err.fault in
    let other : fault ≢ NoMemory = λ none. false≢true (sym c.if-is_memory.false ∙ c.is_memory.ensures.1 none) in
    subst (IsTextMadeOn c.args.json.now) (sym c.going-in-Err-2.ensures) (fault_named c.args.json.now fault (so.1 ∙ c.in-Err.ensures.err other so.0 so.2))
