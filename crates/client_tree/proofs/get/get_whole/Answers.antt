use Rattle.std.proofs.Common.{ℕ, List, refl, sym, subst}
use Rattle.std.proofs.lemmas.Result.{err_from_is_err_and}
use Rattle.caps.specs.declared.cap.Cap.{Cap}
use Rattle.cap_binding.specs.Binds.{AreFileOf}
use Rattle.client_tree.specs.Runs.{none, rests}
use Rattle.client_tree.specs.Trees.{IsFileOf}
use Rattle.client_tree.proofs.Running.{one_passed}
use Rattle.client_tree.proofs.get.get_whole.Goals as goal

pub returns-in_err-bytes : goal.returns-in_err-bytes
returns-in_err-bytes g c =
    let p = err_from_is_err_and c.from_residual.result c.from_residual.ensures.1 in rw p.1 none

pub returns-in_err-write_file : goal.returns-in_err-write_file
returns-in_err-write_file g c =
    let p = err_from_is_err_and c.from_residual-in_err-write_file.result c.from_residual-in_err-write_file.ensures.1 in
    rw p.1 (rests none c.in_err-write_file.ensures.err)

pub returns : goal.returns
returns g c =
    let cap : Cap = c.args.cap.now in
    let path : List (List ℕ) = c.args.path.now in
    let bytes : List ℕ = c.deref.result.now in
    let of_cap : AreFileOf cap bytes = subst (λ (bs : List ℕ). AreFileOf cap bs) (sym c.deref.ensures.value) c.in_ok-bytes.ensures in
    one_passed g.F.Folder.wrote g.F.Folder.kept (IsFileOf cap path) c.args.folder.now c.write_file.new.self
    (record { path = path; bytes = bytes }) c.in_ok-write_file.ensures.ok
    (record { bytes = bytes; of_cap = of_cap; one = refl })
