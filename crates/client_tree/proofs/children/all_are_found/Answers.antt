use Rattle.std.proofs.Common.{◌≡◌, Some, take, sym, subst, arith, rules}
use Rattle.std.proofs.lemmas.List.{take_all}
use Rattle.std.proofs.lemmas.List.Elements.{All-more, All-same}
use Rattle.path_walk.specs.Walk.{cap_named}
use Rattle.client_tree.specs.declared.children.Child.{Child}
use Rattle.client_tree.proofs.children.all_are_found.Goals as goal

pub loop-child-preserved : goal.loop-child-preserved
loop-child-preserved c =
    let P : Child → Type 0 = λ child. cap_named child.stored c.args.directory.now ≡ Some child.cap in
    All-more P c.args.children.now c.loop-child.child-index c.child-item.result c.loop-child-test.true c.loop-child.invariant
    (subst P c.child-item.is (c.if-not-is_found.ensures (search rules)))

pub returns : goal.returns
returns c =
    let P : Child → Type 0 = λ child. cap_named child.stored c.args.directory.now ≡ Some child.cap in
    All-same P c.args.children.now (take c.loop-child.child-index c.args.children.now)
    (sym (take_all c.loop-child.child-index c.args.children.now (omega arith))) c.loop-child.invariant
