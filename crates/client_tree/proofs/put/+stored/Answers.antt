use Rattle.std.proofs.Common.{◌≡◌, ℕ, List, [], ◌∷◌, ◌++◌, sym, ap, ◌∙◌, subst, inl}
use Rattle.caps.specs.declared.cap.Cap.{Cap}
use Rattle.client_tree.specs.Runs.{Passes, AreGroups}
use Rattle.client_tree.specs.Stored.{stored_name, IsStoredFile, IsStoredBelow, HasChildren}
use Rattle.client_tree.specs.Known.{IsIdle, IsKnownFile, IsKnownBelow}
use Rattle.client_tree.specs.declared.children.Child.{Child}
use Rattle.client_tree.proofs.Running.{none_passed, passed_after, ok_more}
use Rattle.client_tree.proofs.Below.{no_groups}
use Rattle.client_tree.proofs.UnderWay.{both_put, one_more_folder}
use Rattle.client_tree.proofs.put.+stored.Goals as goal

pub put_folders-loop-item-init : goal.put_folders-loop-item-init
put_folders-loop-item-init g t c =
    let children : List Child = c.new-children.result.items in
    let path : List (List ℕ) = c.args.path.now in
    none_passed g.S.Source.gave (IsIdle g.S.Source.kept g.S.Source.knew (IsKnownBelow children path)) (AreGroups (IsStoredBelow children path)) c.args.source.now
    (no_groups (IsStoredBelow children path))

pub put_folders-loop-item-preserved : goal.put_folders-loop-item-preserved
put_folders-loop-item-preserved g t c =
    let gave = g.S.Source.gave in
    let kept = g.S.Source.kept in
    let knew = g.S.Source.knew in
    let path : List (List ℕ) = c.args.path.now in
    let before : List Child = c.loop-item.children.items in
    let child : Child = c.in_ok-child_of.field-0 in
    let below : List (List ℕ) = c.deref.result.now in
    let place : below ≡ path ++ child.name ∷ [] =
    c.deref.ensures.value ∙ c.in_ok-below.ensures ∙ ap (λ (n : List ℕ). path ++ n ∷ []) (c.as_str.ensures ∙ sym c.in_ok-child_of.ensures.name) in
    let stored : child.stored ≡ stored_name child.name = c.in_ok-child_of.ensures.stored ∙ ap stored_name (sym c.in_ok-child_of.ensures.name) in
    let after : Passes gave (IsIdle kept knew (IsKnownFile child.cap (path ++ child.name ∷ []))) (AreGroups (IsStoredFile child.cap (path ++ child.name ∷ []))) c.loop-item.source c.put_folder.new.source =
    subst (λ (p : List (List ℕ)). Passes gave (IsIdle kept knew (IsKnownFile child.cap p)) (AreGroups (IsStoredFile child.cap p)) c.loop-item.source c.put_folder.new.source) place
    (subst (λ (k : Cap). Passes gave (IsIdle kept knew (IsKnownFile k below)) (AreGroups (IsStoredFile k below)) c.loop-item.source c.put_folder.new.source)
    (sym c.in_ok-child_of.ensures.cap) c.in_ok-cap.ensures.files) in
    subst (λ (cs : List Child). Passes gave (IsIdle kept knew (IsKnownBelow cs path)) (AreGroups (IsStoredBelow cs path)) c.args.source.now c.put_folder.new.source)
    (sym c.in_ok-push.ensures.items)
    (one_more_folder gave kept knew before child path c.args.source.now c.loop-item.source c.put_folder.new.source stored c.loop-item.invariant after)

pub put_folder-returns-clause-files : goal.put_folder-returns-clause-files
put_folder-returns-clause-files g t c =
    let gave = g.S.Source.gave in
    let kept = g.S.Source.kept in
    let knew = g.S.Source.knew in
    let path : List (List ℕ) = c.args.path.now in
    let files : List Child = c.in_ok-children.children.items in
    let folders : List Child = c.in_ok-folders.folders.items in
    ok_more c.directory_of.result _ _
    (λ cap has. both_put gave kept knew cap files folders c.append.new.self.items path c.args.source.now c.put_files.new.source c.put_folders.new.source c.in_ok-append.ensures.items
    (subst (λ (cs : List Child). HasChildren cs cap) c.deref-3.ensures.value has)
    (passed_after gave (IsIdle kept knew (IsKnownBelow files path)) (AreGroups (IsStoredBelow files path)) (AreGroups (IsStoredBelow files path)) c.args.source.now c.items.new.self c.put_files.new.source
    (inl c.items.ensures) (λ fs are. are) c.in_ok-children.ensures)
    c.in_ok-folders.ensures)
    c.directory_of.ensures

pub put_folder-returns-clause-directory : goal.put_folder-returns-clause-directory
put_folder-returns-clause-directory g t c =
    ok_more c.directory_of.result _ _ (λ cap has. record { entries = has.entries; of_cap = has.of_cap }) c.directory_of.ensures
