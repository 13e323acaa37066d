use Rattle.std.proofs.Common.{refl, inl}
use Rattle.std.proofs.lemmas.Result.{err_from_is_err_and}
use Rattle.client_tree.specs.Placed.{IsUnfinished}
use Rattle.client_tree.proofs.Running.{none_passed}
use Rattle.client_tree.proofs.get.get_file.Goals as goal

pub returns-in_err-end : goal.returns-in_err-end
returns-in_err-end g c =
    let p = err_from_is_err_and c.from_residual.result c.from_residual.ensures.1 in
    rw p.1 (none_passed g.F.Folder.wrote g.F.Folder.kept (IsUnfinished c.args.cap.now c.args.names.now c.args.path.now) c.args.folder.now (inl refl))
