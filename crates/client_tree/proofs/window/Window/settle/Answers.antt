use Rattle.std.proofs.Common.{◌≡◌, List, ap, ◌∙◌, sym, subst}
use Rattle.cap_binding.specs.Binds.{AreFileOf}
use Rattle.client_tree.specs.UnderWay.{StaysInHand}
use Rattle.client_tree.specs.Stored.{stored_name}
use Rattle.client_tree.specs.declared.children.Child.{Child}
use Rattle.client_tree.specs.declared.window.Waiting.{Waiting}
use Rattle.client_tree.proofs.UnderWay.{stays_settled}
use Rattle.client_tree.proofs.window.Window.settle.Goals as goal

pub returns-clause-stays : goal.returns-clause-stays
returns-clause-stays g c =
    let file : Waiting = c.in-Some.file in
    let child : Child = c.in_ok-child_of.field-0 in
    let before : List Child = c.args.self.now.children.items in
    let left : List Waiting = c.pop_front.new.self.items in
    let named : child.name ≡ file.name = c.in_ok-child_of.ensures.name in
    let stored : child.stored ≡ stored_name child.name = c.in_ok-child_of.ensures.stored ∙ ap stored_name (sym named) in
    let is : AreFileOf child.cap file.bytes =
    subst (λ bs. AreFileOf child.cap bs) c.as_slice.ensures (subst (λ k. AreFileOf k c.as_slice.result.now) (sym c.in_ok-child_of.ensures.cap) c.in_ok-cap.ensures.bound) in
    subst (λ (cs : List Child). StaysInHand before c.args.self.now.waiting.items cs left) (sym c.in_ok-push.ensures.items)
    (stays_settled before child c.args.self.now.waiting.items left file (rw c.in-Some.is at c.pop_front.ensures.items) named stored is)
