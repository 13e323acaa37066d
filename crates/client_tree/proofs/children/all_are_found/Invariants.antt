use Rattle.std.proofs.Common.{◌≡◌, Some, take}
use Rattle.std.specs.Prelude.{All}
use Rattle.path_walk.specs.Walk.{cap_named}
use Rattle.client_tree.specs.declared.children.Child.{Child}
use Rattle.client_tree.proofs.children.all_are_found.Given as goal

abbrev pub invariant-loop-child : goal.invariant-loop-child
invariant-loop-child l = All (λ (child : Child). cap_named child.stored l.directory ≡ Some child.cap) (take l.child-index l.children)
