use Rattle.std.proofs.Common.{List, [], ◌∷◌, ◌++◌, sym, subst}
use Rattle.client_tree.specs.UnderWay.{StaysInHand}
use Rattle.client_tree.specs.declared.children.Child.{Child}
use Rattle.client_tree.specs.declared.window.Waiting.{Waiting}
use Rattle.client_tree.proofs.UnderWay.{stays_waiting}
use Rattle.client_tree.proofs.window.Window.send.Goals as goal

pub returns : goal.returns
returns g c =
    let children : List Child = c.args.self.now.children.items in
    let waiting : List Waiting = c.args.self.now.waiting.items in
    let more : List Child = c.send_bytes.new.self.children.items in
    let left : List Waiting = c.send_bytes.new.self.waiting.items in
    subst (λ (ws : List Waiting). StaysInHand children (waiting ++ c.args.file ∷ []) more ws) (sym c.in_ok-push_back.ensures.items)
    (stays_waiting children more waiting left c.args.file c.in_ok-send_bytes.ensures)
