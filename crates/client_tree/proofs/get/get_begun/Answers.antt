use Rattle.std.proofs.Common.{ℕ, List, refl, sym, subst, inl}
use Rattle.std.specs.Prelude.{All}
use Rattle.std.proofs.lemmas.List.Elements.{All-nil}
use Rattle.std.proofs.lemmas.Result.{err_from_is_err_and}
use Rattle.caps.specs.declared.cap.Cap.{Cap}
use Rattle.cap_binding.specs.Binds.{AreFileOf}
use Rattle.client_tree.specs.Trees.{IsBoundFile, IsTreeOf}
use Rattle.client_tree.proofs.Running.{none_passed, rested, one_passed}
use Rattle.client_tree.proofs.get.get_begun.Goals as goal

pub returns-then-left-eq0 : goal.returns-then-left-eq0
returns-then-left-eq0 g c =
    let P = IsBoundFile c.args.cap.now c.args.path.now in
    none_passed g.F.Folder.wrote g.F.Folder.kept (All P) c.args.folder.now (All-nil P)

pub returns-in_err-bytes : goal.returns-in_err-bytes
returns-in_err-bytes g c =
    let p = err_from_is_err_and c.from_residual.result c.from_residual.ensures.1 in
    let P = IsBoundFile c.args.cap.now c.args.path.now in
    rw p.1 (none_passed g.F.Folder.wrote g.F.Folder.kept (All P) c.args.folder.now (All-nil P))

pub returns-in_err-write_file : goal.returns-in_err-write_file
returns-in_err-write_file g c =
    let p = err_from_is_err_and c.from_residual-in_err-write_file.result c.from_residual-in_err-write_file.ensures.1 in
    let P = IsBoundFile c.args.cap.now c.args.path.now in
    rw p.1 (rested g.F.Folder.wrote g.F.Folder.kept (All P) c.args.folder.now c.write_file.new.self c.in_err-write_file.ensures.err (All-nil P))

pub returns : goal.returns
returns g c =
    let cap : Cap = c.args.cap.now in
    let path : List (List ℕ) = c.args.path.now in
    let bytes : List ℕ = c.deref.result.now in
    let of_cap : AreFileOf cap bytes = subst (λ (bs : List ℕ). AreFileOf cap bs) (sym c.deref.ensures.value) c.in_ok-bytes.ensures in
    one_passed g.F.Folder.wrote g.F.Folder.kept (IsTreeOf cap path) c.args.folder.now c.write_file.new.self
    (record { path = path; bytes = bytes }) c.in_ok-write_file.ensures.ok
    (inl (record { bytes = bytes; of_cap = of_cap; one = refl }))
