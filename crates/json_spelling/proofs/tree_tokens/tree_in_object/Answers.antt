use Rattle.std.proofs.Common.{[]}
use Rattle.json.specs.Token.{begin_object}
use Rattle.serde_json.specs.Read.{max_depth}
use Rattle.json_spelling.proofs.tree_tokens.tree_in_object.Goals as goal

pub returns-in-Ok : goal.returns-in-Ok
returns-in-Ok c =
    let law = c.builders_read_the_grammar.ensures in
    law.goes_on max_depth [] begin_object c.within-tree.result c.push.new.self (law.begins max_depth c.within-tree.result c.within-tree.ensures) c.in-Ok.ensures.ok
