use Rattle.std.proofs.Common.{◌≡◌, ℕ, ◌+◌, List, [], ◌∷◌, ◌++◌, take, sym, ap, ◌∙◌, subst}
use Rattle.std.proofs.lemmas.List.{take_more}
use Rattle.std.proofs.lemmas.Result.{err_from_is_err_and}
use Rattle.dir_codec.specs.declared.entry.Entry.{Entry}
use Rattle.cap_binding.specs.Binds.{AreFileOf}
use Rattle.client_tree.specs.Joined.{ArePiecesAt, AreFirstPiecesAt}
use Rattle.client_tree.proofs.Running.{none_passed, passed_more, passed_then_rested, one_more_passed}
use Rattle.client_tree.proofs.Joined.{no_pieces, one_more_piece, first_pieces}
use Rattle.client_tree.proofs.get.get_pieces.Goals as goal

pub loop-place-init : goal.loop-place-init
loop-place-init g c = none_passed g.F.Folder.wrote g.F.Folder.kept (ArePiecesAt c.args.path.now []) c.args.folder.now (no_pieces c.args.path.now)

pub returns-in_err-bytes : goal.returns-in_err-bytes
returns-in_err-bytes g c =
    let p = err_from_is_err_and c.from_residual.result c.from_residual.ensures.1 in
    let path : List (List ℕ) = c.args.path.now in
    let entries : List Entry = c.entries-entry-items.result.now in
    let i : ℕ = c.loop-place.place in
    rw p.1 (passed_more g.F.Folder.wrote g.F.Folder.kept (ArePiecesAt path (take i entries)) (AreFirstPiecesAt path c.args.directory.now)
    c.args.folder.now c.loop-place.folder
    (λ fs all. first_pieces path entries c.args.directory.now i fs c.entries-entry-items.ensures.same all) c.loop-place.invariant)

pub returns-in_err-put_piece : goal.returns-in_err-put_piece
returns-in_err-put_piece g c =
    let p = err_from_is_err_and c.from_residual-in_err-put_piece.result c.from_residual-in_err-put_piece.ensures.1 in
    let path : List (List ℕ) = c.args.path.now in
    let entries : List Entry = c.entries-entry-items.result.now in
    let i : ℕ = c.loop-place.place in
    rw p.1 (passed_then_rested g.F.Folder.wrote g.F.Folder.kept (ArePiecesAt path (take i entries)) (AreFirstPiecesAt path c.args.directory.now)
    c.args.folder.now c.loop-place.folder c.put_piece.new.folder
    (λ fs all. first_pieces path entries c.args.directory.now i fs c.entries-entry-items.ensures.same all) c.loop-place.invariant c.in_err-put_piece.ensures.err)

pub loop-place-preserved : goal.loop-place-preserved
loop-place-preserved g c =
    let path : List (List ℕ) = c.args.path.now in
    let entries : List Entry = c.entries-entry-items.result.now in
    let i : ℕ = c.loop-place.place in
    let entry : Entry = c.entry-item.result in
    let bytes : List ℕ = c.deref.result.now in
    let of_cap : AreFileOf entry.cap bytes = subst (λ (bs : List ℕ). AreFileOf entry.cap bs) (sym c.deref.ensures.value) c.in_ok-bytes.ensures in
    let more_of : take i entries ++ entry ∷ [] ≡ take (i + 1) entries =
    ap (λ (e : Entry). take i entries ++ e ∷ []) c.entry-item.is ∙ sym (take_more entries i entry c.loop-place-test.true) in
    one_more_passed g.F.Folder.wrote g.F.Folder.kept (ArePiecesAt path (take i entries)) (ArePiecesAt path (take (i + 1) entries))
    c.args.folder.now c.loop-place.folder c.put_piece.new.folder (record { path = path; bytes = bytes })
    (λ fs all. subst (λ (es : List Entry). ArePiecesAt path es (fs ++ record { path = path; bytes = bytes } ∷ [])) more_of
    (one_more_piece path (take i entries) entry fs bytes all of_cap))
    c.loop-place.invariant c.in_ok-put_piece.ensures.ok
