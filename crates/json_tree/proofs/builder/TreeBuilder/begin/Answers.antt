use Rattle.std.proofs.Common.{◌≤◌, ◌<◌, length, refl, arith}
use Rattle.json_tree.proofs.Frames.{frame_begun, too_deep}
use Rattle.json_tree.proofs.builder.TreeBuilder.begin.Goals as goal

pub returns-then-len-self-clause-err : goal.returns-then-len-self-clause-err
returns-then-len-self-clause-err c not_json =
    let deep : c.args.self.now.levels ≤ length c.args.self.now.opened.items = grind arith in
    too_deep c.args.self.now deep

pub returns-clause-ok : goal.returns-clause-ok
returns-clause-ok c =
    let less : length c.args.self.now.opened.items < c.args.self.now.levels = grind arith in
    frame_begun c.args.self.now _ c.args.opened c.if-not-awaits_value.ensures less c.in_ok-push.ensures.items refl refl
