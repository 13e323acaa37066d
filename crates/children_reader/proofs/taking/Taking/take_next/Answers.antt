use Rattle.std.proofs.Common.{ap, subst}
use Rattle.std.proofs.lemmas.List.{nil_from_length}
use Rattle.serde_json.specs.View.{members_view}
use Rattle.children_reader.specs.Taking.{AreTakenBefore}
use Rattle.children_reader.proofs.TakenMembers.{left_none, all_taken}
use Rattle.children_reader.proofs.taking.Taking.take_next.Goals as goal

pub returns-then-is_empty-clause-taken : goal.returns-then-is_empty-clause-taken
returns-then-is_empty-clause-taken c ts from =
    let self = c.args.self in
    all_taken ts self.found.items (subst (AreTakenBefore ts self.found.items) (ap members_view (nil_from_length self.left.entries (c.is_empty.ensures.0 c.if-is_empty.true))) (left_none ts self c.requires from))
