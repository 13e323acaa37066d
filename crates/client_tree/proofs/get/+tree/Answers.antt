use Rattle.std.proofs.Common.{◌≡◌, ℕ, ◌+◌, List, [], ◌∷◌, ◌++◌, refl, sym, ap, ◌∙◌, subst, inl, inr, take}
use Rattle.std.specs.Prelude.{All, Contains}
use Rattle.std.proofs.lemmas.List.{take_more}
use Rattle.std.proofs.lemmas.List.Elements.{All-nil, All-append, All-weaker}
use Rattle.std.proofs.lemmas.Result.{err_from_is_err_and}
use Rattle.caps.specs.declared.cap.Cap.{Cap}
use Rattle.dir_codec.specs.declared.entry.Entry.{Entry}
use Rattle.cap_binding.specs.Binds.{AreFileOf}
use Rattle.client_tree.specs.Parts.{AreParts}
use Rattle.client_tree.specs.Joined.{ArePiecesAt, AreFirstPiecesAt}
use Rattle.client_tree.specs.Trees.{IsBoundFile, IsBoundBelow, AreTreesOf, none as no_trees, IsTreeOf}
use Rattle.client_tree.proofs.Running.{none_passed, rested, one_passed, passed_more, both_passed, passed_after, outcome_more}
use Rattle.client_tree.proofs.Bound.{trees_bound_in, one_more_tree, bound_above, first_bound}
use Rattle.client_tree.proofs.Joined.{whole_file}
use Rattle.client_tree.proofs.get.+tree.Goals as goal

pub get_children-loop-entry-init : goal.get_children-loop-entry-init
get_children-loop-entry-init g t c =
    none_passed g.F.Folder.wrote g.F.Folder.kept (AreTreesOf c.args.path.now []) c.args.folder.now (no_trees c.args.path.now)

pub get_children-returns-in_err-below : goal.get_children-returns-in_err-below
get_children-returns-in_err-below g t c =
    let p = err_from_is_err_and c.from_residual.result c.from_residual.ensures.1 in
    let path : List (List ℕ) = c.args.path.now in
    let entries : List Entry = c.entries-entry-items.result.now in
    rw p.1 (passed_more g.F.Folder.wrote g.F.Folder.kept (AreTreesOf path (take c.loop-entry.entry-index entries)) (All (IsBoundBelow c.args.directory.now path))
    c.args.folder.now c.loop-entry.folder
    (λ fs trees. trees_bound_in c.children_are_found.ensures path entries c.args.directory.now c.loop-entry.entry-index fs c.entries-entry-items.ensures.same trees)
    c.loop-entry.invariant)

pub get_children-returns-in_err-get_entry : goal.get_children-returns-in_err-get_entry
get_children-returns-in_err-get_entry g t c =
    let p = err_from_is_err_and c.from_residual-in_err-get_entry.result c.from_residual-in_err-get_entry.ensures.1 in
    let path : List (List ℕ) = c.args.path.now in
    let all : List Entry = c.args.directory.now in
    let entries : List Entry = c.entries-entry-items.result.now in
    let entry : Entry = c.entry-item.result in
    let below : List (List ℕ) = c.deref.result.now in
    let place : below ≡ path ++ entry.name ∷ [] =
    c.deref.ensures.value ∙ c.in_ok-below.ensures ∙ ap (λ (n : List ℕ). path ++ n ∷ []) c.as_str.ensures in
    let among : Contains all entry =
    subst (λ (es : List Entry). Contains es entry) c.entries-entry-items.ensures.same (c.loop-entry.entry-index, c.loop-entry-test.true, sym c.entry-item.is) in
    rw p.1 (both_passed g.F.Folder.wrote g.F.Folder.kept (AreTreesOf path (take c.loop-entry.entry-index entries)) (All (IsBoundFile entry.cap below))
    (All (IsBoundBelow all path)) c.args.folder.now c.loop-entry.folder c.get_entry.new.folder
    (λ fs more trees bound. All-append (IsBoundBelow all path) fs more
    (trees_bound_in c.children_are_found.ensures path entries all c.loop-entry.entry-index fs c.entries-entry-items.ensures.same trees)
    (All-weaker (IsBoundFile entry.cap below) (IsBoundBelow all path)
    (λ f known. record { entry = entry; among = among; bound = subst (λ (q : List (List ℕ)). IsBoundFile entry.cap q f) place known }) more bound))
    c.loop-entry.invariant c.in_err-get_entry.ensures)

pub get_children-loop-entry-preserved : goal.get_children-loop-entry-preserved
get_children-loop-entry-preserved g t c =
    let path : List (List ℕ) = c.args.path.now in
    let entries : List Entry = c.entries-entry-items.result.now in
    let i : ℕ = c.loop-entry.entry-index in
    let entry : Entry = c.entry-item.result in
    let below : List (List ℕ) = c.deref.result.now in
    let place : below ≡ path ++ entry.name ∷ [] =
    c.deref.ensures.value ∙ c.in_ok-below.ensures ∙ ap (λ (n : List ℕ). path ++ n ∷ []) c.as_str.ensures in
    let more_of : take i entries ++ entry ∷ [] ≡ take (i + 1) entries =
    ap (λ (e : Entry). take i entries ++ e ∷ []) c.entry-item.is ∙ sym (take_more entries i entry c.loop-entry-test.true) in
    both_passed g.F.Folder.wrote g.F.Folder.kept (AreTreesOf path (take i entries)) (IsTreeOf entry.cap below) (AreTreesOf path (take (i + 1) entries))
    c.args.folder.now c.loop-entry.folder c.get_entry.new.folder
    (λ fs more trees tree. subst (λ (es : List Entry). AreTreesOf path es (fs ++ more)) more_of
    (one_more_tree path (take i entries) fs more entry trees (subst (λ (q : List (List ℕ)). IsTreeOf entry.cap q more) place tree)))
    c.loop-entry.invariant c.in_ok-get_entry.ensures

pub get_node-returns-then-left-eq0 : goal.get_node-returns-then-left-eq0
get_node-returns-then-left-eq0 g t c =
    let P = IsBoundFile c.args.cap.now c.args.path.now in
    none_passed g.F.Folder.wrote g.F.Folder.kept (All P) c.args.folder.now (All-nil P)

pub get_node-returns-in_err-bytes-in_default : goal.get_node-returns-in_err-bytes-in_default
get_node-returns-in_err-bytes-in_default g t c =
    let p = err_from_is_err_and c.from_residual.result c.from_residual.ensures.1 in
    let P = IsBoundFile c.args.cap.now c.args.path.now in
    rw p.1 (none_passed g.F.Folder.wrote g.F.Folder.kept (All P) c.args.folder.now (All-nil P))

pub get_node-returns-in_err-write_file-in_default : goal.get_node-returns-in_err-write_file-in_default
get_node-returns-in_err-write_file-in_default g t c =
    let p = err_from_is_err_and c.from_residual-in_err-write_file-in_default.result c.from_residual-in_err-write_file-in_default.ensures.1 in
    let P = IsBoundFile c.args.cap.now c.args.path.now in
    rw p.1 (rested g.F.Folder.wrote g.F.Folder.kept (All P) c.args.folder.now c.write_file.new.self c.in_err-write_file-in_default.ensures.err (All-nil P))

pub get_node-returns-then-depth-eq0 : goal.get_node-returns-then-depth-eq0
get_node-returns-then-depth-eq0 g t c =
    let P = IsBoundFile c.args.cap.now c.args.path.now in
    none_passed g.F.Folder.wrote g.F.Folder.kept (All P) c.args.folder.now (All-nil P)

pub get_node-returns-in_err-directory-in-DirChk : goal.get_node-returns-in_err-directory-in-DirChk
get_node-returns-in_err-directory-in-DirChk g t c =
    let p = err_from_is_err_and c.from_residual-in_err-directory-in-DirChk.result c.from_residual-in_err-directory-in-DirChk.ensures.1 in
    let P = IsBoundFile c.args.cap.now c.args.path.now in
    rw p.1 (none_passed g.F.Folder.wrote g.F.Folder.kept (All P) c.args.folder.now (All-nil P))

pub get_node-returns-in_err-test_names-in-None : goal.get_node-returns-in_err-test_names-in-None
get_node-returns-in_err-test_names-in-None g t c =
    let p = err_from_is_err_and c.from_residual-in_err-test_names-in-None.result c.from_residual-in_err-test_names-in-None.ensures.1 in
    let P = IsBoundFile c.args.cap.now c.args.path.now in
    rw p.1 (none_passed g.F.Folder.wrote g.F.Folder.kept (All P) c.args.folder.now (All-nil P))

pub get_node-returns-in_err-make_folder-in-None : goal.get_node-returns-in_err-make_folder-in-None
get_node-returns-in_err-make_folder-in-None g t c =
    let p = err_from_is_err_and c.from_residual-in_err-make_folder-in-None.result c.from_residual-in_err-make_folder-in-None.ensures.1 in
    let P = IsBoundFile c.args.cap.now c.args.path.now in
    rw p.1 (rested g.F.Folder.wrote g.F.Folder.kept (All P) c.args.folder.now c.make_folder.new.self c.make_folder.ensures (All-nil P))

pub get_node-returns : goal.get_node-returns
get_node-returns g t c =
    let cap : Cap = c.args.cap.now in
    let path : List (List ℕ) = c.args.path.now in
    let bytes : List ℕ = c.deref.result.now in
    let of_cap : AreFileOf cap bytes = subst (λ (bs : List ℕ). AreFileOf cap bs) (sym c.deref.ensures.value) c.in_ok-bytes-in_default.ensures in
    one_passed g.F.Folder.wrote g.F.Folder.kept (IsTreeOf cap path) c.args.folder.now c.write_file.new.self
    (record { path = path; bytes = bytes }) c.in_ok-write_file-in_default.ensures.ok
    (inl (record { bytes = bytes; of_cap = of_cap; one = refl }))

pub get_node-returns-in-DirChk : goal.get_node-returns-in-DirChk
get_node-returns-in-DirChk g t c =
    let cap : Cap = c.args.cap.now in
    let path : List (List ℕ) = c.args.path.now in
    let entries : List Entry = c.in_ok-directory-in-DirChk.directory in
    let no_parts : (size : ℕ) → AreParts size entries → ⊥ = rw c.in-None.is at c.in_ok-parts_size-in-DirChk.ensures in
    outcome_more c.get_children.result _ _ _ _
    (λ x done. passed_after g.F.Folder.wrote g.F.Folder.kept (AreTreesOf path entries) (IsTreeOf cap path)
    c.args.folder.now c.make_folder.new.self c.get_children.new.folder c.make_folder.ensures
    (λ fs trees. inr (inr (record { entries = entries; of_cap = c.in_ok-directory-in-DirChk.ensures; no_parts = no_parts; all = trees }))) done)
    (λ e fault. passed_after g.F.Folder.wrote g.F.Folder.kept (All (IsBoundBelow entries path)) (All (IsBoundFile cap path))
    c.args.folder.now c.make_folder.new.self c.get_children.new.folder c.make_folder.ensures
    (λ fs below. All-weaker (IsBoundBelow entries path) (IsBoundFile cap path)
    (λ f known. bound_above c.children_are_found.ensures cap entries path f c.in_ok-directory-in-DirChk.ensures known) fs below) fault)
    c.get_children.ensures

pub get_node-returns-in_err-parts_size-in-DirChk : goal.get_node-returns-in_err-parts_size-in-DirChk
get_node-returns-in_err-parts_size-in-DirChk g t c =
    let p = err_from_is_err_and c.from_residual-in_err-parts_size-in-DirChk.result c.from_residual-in_err-parts_size-in-DirChk.ensures.1 in
    let P = IsBoundFile c.args.cap.now c.args.path.now in
    rw p.1 (none_passed g.F.Folder.wrote g.F.Folder.kept (All P) c.args.folder.now (All-nil P))

pub get_node-returns-in-Some : goal.get_node-returns-in-Some
get_node-returns-in-Some g t c =
    let cap : Cap = c.args.cap.now in
    let path : List (List ℕ) = c.args.path.now in
    let entries : List Entry = c.in_ok-directory-in-DirChk.directory in
    let size : ℕ = c.in-Some.field-0 in
    let parts : AreParts size entries = rw c.in-Some.is at c.in_ok-parts_size-in-DirChk.ensures in
    outcome_more c.get_pieces.result _ _ _ _
    (λ x done. passed_more g.F.Folder.wrote g.F.Folder.kept (ArePiecesAt path entries) (IsTreeOf cap path) c.args.folder.now c.get_pieces.new.folder
    (λ fs all. inr (inl (whole_file cap path size entries fs c.in_ok-directory-in-DirChk.ensures parts all))) done)
    (λ e fault. passed_more g.F.Folder.wrote g.F.Folder.kept (AreFirstPiecesAt path entries) (All (IsBoundFile cap path)) c.args.folder.now c.get_pieces.new.folder
    (λ fs first. first_bound cap path size entries fs c.in_ok-directory-in-DirChk.ensures parts first) fault)
    c.get_pieces.ensures
