use Rattle.std.proofs.Common.{◌≡◌, ℕ, ◌<◌, List, [], ◌∷◌, ◌++◌, length, sym, ap, ◌∙◌, subst, inl, arith}
use Rattle.client_tree.specs.Runs.{Passes}
use Rattle.client_tree.specs.Parts.{part_bytes}
use Rattle.client_tree.specs.Stored.{stored_name, IsStoredAt, IsStoredFrom}
use Rattle.client_tree.specs.UnderWay.{IsInHand, StaysInHand}
use Rattle.client_tree.specs.declared.children.Child.{Child}
use Rattle.client_tree.specs.declared.window.Waiting.{Waiting}
use Rattle.client_tree.proofs.Running.{one_passed, passed_behind}
use Rattle.client_tree.proofs.UnderWay.{last_below, last_kept, stays_below, stays_on, waits_beside, on_ok_more}
use Rattle.client_tree.proofs.put.put_unknown.Goals as goal

pub returns-then-size-gt-MOST_BESIDE-clause-passed : goal.returns-then-size-gt-MOST_BESIDE-clause-passed
returns-then-size-gt-MOST_BESIDE-clause-passed g c =
    let path : List (List ℕ) = c.args.path.now in
    let below : List (List ℕ) = c.args.below.now in
    let first : List ℕ = c.in_ok-first.first.items in
    let child : Child = c.in_ok-child_of.field-0 in
    let before : List Child = c.settle_all.new.self.children.items in
    let left : List Waiting = c.settle_all.new.self.waiting.items in
    let stored : child.stored ≡ stored_name child.name = c.in_ok-child_of.ensures.stored ∙ ap stored_name (sym c.in_ok-child_of.ensures.name) in
    let place : below ≡ path ++ child.name ∷ [] = c.requires ∙ ap (λ (n : List ℕ). path ++ n ∷ []) (sym c.in_ok-child_of.ensures.name) in
    subst (λ (cs : List Child). Passes g.S.Source.gave g.S.Source.kept (IsInHand cs left path) c.args.source.now c.put_rest.new.source) (sym c.in_ok-push.ensures.items)
    (passed_behind g.S.Source.gave g.S.Source.kept (IsStoredFrom c.in_ok-cap.cap below first) (IsInHand (before ++ child ∷ []) left path)
    c.args.source.now c.read_piece.new.self c.put_rest.new.source (record { path = below; bytes = first })
    (λ fs at. inl (last_below before child path (record { path = below; bytes = first } ∷ fs) stored
    (subst (λ (p : List (List ℕ)). IsStoredAt child.cap p (record { path = below; bytes = first } ∷ fs)) place
    (subst (λ k. IsStoredAt k below (record { path = below; bytes = first } ∷ fs)) (sym c.in_ok-child_of.ensures.cap) at))))
    c.in_ok-first.ensures.ok
    c.in_ok-cap.ensures)

pub returns-then-size-gt-MOST_BESIDE-clause-stays : goal.returns-then-size-gt-MOST_BESIDE-clause-stays
returns-then-size-gt-MOST_BESIDE-clause-stays g c =
    let child : Child = c.in_ok-child_of.field-0 in
    let children : List Child = c.args.window.now.children.items in
    let waiting : List Waiting = c.args.window.now.waiting.items in
    let before : List Child = c.settle_all.new.self.children.items in
    let left : List Waiting = c.settle_all.new.self.waiting.items in
    subst (λ (cs : List Child). StaysInHand children waiting cs left) (sym c.in_ok-push.ensures.items)
    (stays_on children before (before ++ child ∷ []) waiting left left c.in_ok-settle_all.ensures.stays (stays_below before child left))

pub returns-clause-passed : goal.returns-clause-passed
returns-clause-passed g c =
    let path : List (List ℕ) = c.args.path.now in
    let below : List (List ℕ) = c.args.below.now in
    let first : List ℕ = c.in_ok-first.first.items in
    let children : List Child = c.args.window.now.children.items in
    let waiting : List Waiting = c.args.window.now.waiting.items in
    let file : Waiting = record { name = c.in_ok-text_of.field-0; bytes = c.from_vec.result } in
    let short_first : length first < part_bytes = omega arith in
    let short : length file.bytes < part_bytes = subst (λ (bs : List ℕ). length bs < part_bytes) (sym c.from_vec.ensures) short_first in
    let place : below ≡ path ++ file.name ∷ [] = c.requires ∙ ap (λ (n : List ℕ). path ++ n ∷ []) (sym (c.in_ok-text_of.ensures ∙ c.as_str.ensures)) in
    on_ok_more c.send.result _ _
    (λ stays. one_passed g.S.Source.gave g.S.Source.kept (IsInHand c.send.new.self.children.items c.send.new.self.waiting.items path) c.args.source.now c.read_piece.new.self
    (record { path = below; bytes = first }) c.in_ok-first.ensures.ok
    (stays path (record { path = below; bytes = first } ∷ [])
    (subst (λ (bs : List ℕ). IsInHand children (waiting ++ file ∷ []) path (record { path = below; bytes = bs } ∷ [])) c.from_vec.ensures
    (last_kept children waiting file path below short place))))
    c.send.ensures

pub returns-clause-stays : goal.returns-clause-stays
returns-clause-stays g c =
    let children : List Child = c.args.window.now.children.items in
    let waiting : List Waiting = c.args.window.now.waiting.items in
    let file : Waiting = record { name = c.in_ok-text_of.field-0; bytes = c.from_vec.result } in
    on_ok_more c.send.result _ _ (λ stays path files kept. stays path files (waits_beside children waiting file path files kept)) c.send.ensures
