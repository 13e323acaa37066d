use Rattle.std.proofs.Common.{◌≡◌, ℕ, List, Option, [], ◌∷◌, ◌++◌, sym, ap, ◌∙◌, subst}
use Rattle.std.specs.Prelude.{IfNone, IfSome}
use Rattle.client_tree.specs.Runs.{Passes, AreGroups}
use Rattle.client_tree.specs.Stored.{IsStoredBelow}
use Rattle.client_tree.specs.Known.{IsIdle, IsKnownBelow, IsKnownChild}
use Rattle.client_tree.specs.UnderWay.{IsInHand}
use Rattle.client_tree.specs.declared.children.Child.{Child}
use Rattle.client_tree.specs.declared.window.Waiting.{Waiting}
use Rattle.client_tree.proofs.Running.{none_passed}
use Rattle.client_tree.proofs.Below.{no_groups}
use Rattle.client_tree.proofs.UnderWay.{all_put, one_more_known, one_more_put, put_moved}
use Rattle.client_tree.proofs.put.put_files.Goals as goal
use Rattle.client_tree.proofs.put.put_files.Goals.{in-Some+in_ok-push-in-Some, in-None+in_ok-put_unknown-in-None}

pub loop-item-init : goal.loop-item-init
loop-item-init g c =
    let P = IsInHand c.new-window.result.children.items c.new-window.result.waiting.items c.args.path.now in
    none_passed g.S.Source.gave (IsIdle g.S.Source.kept g.S.Source.knew (IsKnownBelow c.new-known.result.items c.args.path.now)) (AreGroups P) c.args.source.now (no_groups P)

pub loop-item-preserved : goal.loop-item-preserved
loop-item-preserved g c =
    let gave = g.S.Source.gave in
    let kept = g.S.Source.kept in
    let knew = g.S.Source.knew in
    let path : List (List ℕ) = c.args.path.now in
    let children : List Child = c.loop-item.window.children.items in
    let waiting : List Waiting = c.loop-item.window.waiting.items in
    let known : List Child = c.loop-item.known.items in
    let below : List (List ℕ) = c.deref.result.now in
    let name : List ℕ = c.item-item.result.name in
    let place : below ≡ path ++ name ∷ [] = c.deref.ensures.value ∙ c.in_ok-below.ensures ∙ ap (λ (n : List ℕ). path ++ n ∷ []) c.as_str.ensures in
    elim c.match-branch-4.branch [
      | in-Some+in_ok-push-in-Some w ↦
          let child : Child = w.in-Some.child in
          let is : IsKnownChild knew below name child c.loop-item.source c.known_child.new.source =
          subst (λ (o : Option Child). IfSome o (λ (k : Child). IsKnownChild knew below name k c.loop-item.source c.known_child.new.source)) w.in-Some.is c.in_ok-child.ensures.some in
          put_moved gave kept knew (known ++ child ∷ []) c.match-branch-4.known.items children c.match-branch-4.window.children.items waiting c.match-branch-4.window.waiting.items path
          c.args.source.now c.known_child.new.source c.match-branch-4.source
          (ap (λ v. v.items) w.known-is ∙ w.in_ok-push-in-Some.ensures.items) (ap (λ v. v.children.items) w.window-is) (ap (λ v. v.waiting.items) w.window-is) w.source-is
          (one_more_known gave kept knew known children child waiting path below name c.args.source.now c.loop-item.source c.known_child.new.source place c.loop-item.invariant is)
      | in-None+in_ok-put_unknown-in-None w ↦
          let more : List Child = w.put_unknown.new.window.children.items in
          let left : List Waiting = w.put_unknown.new.window.waiting.items in
          let idle : kept c.loop-item.source c.known_child.new.source =
          subst (λ (o : Option Child). IfNone o (kept c.loop-item.source c.known_child.new.source)) w.in-None.is c.in_ok-child.ensures.none in
          put_moved gave kept knew known c.match-branch-4.known.items more c.match-branch-4.window.children.items left c.match-branch-4.window.waiting.items path
          c.args.source.now w.put_unknown.new.source c.match-branch-4.source
          (ap (λ v. v.items) w.known-is) (ap (λ v. v.children.items) w.window-is) (ap (λ v. v.waiting.items) w.window-is) w.source-is
          (one_more_put gave kept knew known children more waiting left path c.args.source.now c.loop-item.source c.known_child.new.source w.put_unknown.new.source
          w.in_ok-put_unknown-in-None.ensures.stays c.loop-item.invariant idle w.in_ok-put_unknown-in-None.ensures.passed)
    ]

pub returns : goal.returns
returns g c =
    let gave = g.S.Source.gave in
    let kept = g.S.Source.kept in
    let knew = g.S.Source.knew in
    let path : List (List ℕ) = c.args.path.now in
    let children : List Child = c.loop-item.window.children.items in
    let waiting : List Waiting = c.loop-item.window.waiting.items in
    let known : List Child = c.loop-item.known.items in
    let done : List Child = c.in_ok-children.children.items in
    subst (λ (cs : List Child). Passes gave (IsIdle kept knew (IsKnownBelow cs path)) (AreGroups (IsStoredBelow cs path)) c.args.source.now c.stored.new.self) (sym c.in_ok-append.ensures.items)
    (all_put gave kept knew known done children waiting path c.args.source.now c.loop-item.source c.stored.new.self
    (λ fs hand. c.in_ok-children.ensures path fs hand) c.loop-item.invariant c.stored.ensures)
