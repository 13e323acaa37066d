use Rattle.std.proofs.Common.{ℕ, List, refl, inl, inr}
use Rattle.std.proofs.lemmas.Result.{err_from_is_err_and}
use Rattle.caps.specs.declared.cap.Cap.{Cap}
use Rattle.dir_codec.specs.declared.entry.Entry.{Entry}
use Rattle.client_tree.specs.Joined.{ArePiecesAt, AreFirstPiecesAt, IsJoinedFile, IsUnfinishedAt}
use Rattle.client_tree.specs.Parts.{AreParts}
use Rattle.client_tree.proofs.Running.{none_passed, passed_more, outcome_more}
use Rattle.client_tree.proofs.Joined.{whole_file}
use Rattle.client_tree.proofs.get.get_parts.Goals as goal

pub returns-in_err-directory : goal.returns-in_err-directory
returns-in_err-directory g c =
    let p = err_from_is_err_and c.from_residual.result c.from_residual.ensures.1 in
    rw p.1 (none_passed g.F.Folder.wrote g.F.Folder.kept (IsUnfinishedAt c.args.cap.now c.args.path.now) c.args.folder.now (inl refl))

pub returns-in_err-parts_size : goal.returns-in_err-parts_size
returns-in_err-parts_size g c =
    let p = err_from_is_err_and c.from_residual-in_err-parts_size.result c.from_residual-in_err-parts_size.ensures.1 in
    rw p.1 (none_passed g.F.Folder.wrote g.F.Folder.kept (IsUnfinishedAt c.args.cap.now c.args.path.now) c.args.folder.now (inl refl))

pub returns-in_default : goal.returns-in_default
returns-in_default g c = none_passed g.F.Folder.wrote g.F.Folder.kept (IsUnfinishedAt c.args.cap.now c.args.path.now) c.args.folder.now (inl refl)

pub returns : goal.returns
returns g c =
    let cap : Cap = c.args.cap.now in
    let path : List (List ℕ) = c.args.path.now in
    let entries : List Entry = c.in_ok-directory.directory in
    let size : ℕ = c.in-Some.field-0 in
    let parts : AreParts size entries = rw c.in-Some.is at c.in_ok-parts_size.ensures in
    outcome_more c.get_pieces.result _ _ _ _
    (λ x done. passed_more g.F.Folder.wrote g.F.Folder.kept (ArePiecesAt path entries) (IsJoinedFile cap path) c.args.folder.now c.get_pieces.new.folder
    (λ fs all. whole_file cap path size entries fs c.in_ok-directory.ensures parts all) done)
    (λ e fault. passed_more g.F.Folder.wrote g.F.Folder.kept (AreFirstPiecesAt path entries) (IsUnfinishedAt cap path) c.args.folder.now c.get_pieces.new.folder
    (λ fs first. inr (record { entries = entries; size = size; directory = c.in_ok-directory.ensures; parts = parts; first = first })) fault)
    c.get_pieces.ensures
