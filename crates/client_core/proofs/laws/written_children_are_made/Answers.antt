use Rattle.client_core.proofs.ChildrenMade.{are_made}
use Rattle.client_core.specs.ChildrenJson.{children_text}
use Rattle.client_core.proofs.laws.written_children_are_made.Goals as goal

pub returns : goal.returns
returns c = λ entries all utf8.
    let made = are_made c.whole_values_are_read_back.ensures c.reading_is_decided.ensures.read entries all utf8 in
    (c.made_children_are_named.ensures entries (children_text entries)).0 ((c.children_are_the_members_entries.ensures.made entries (children_text entries)).1 made)
