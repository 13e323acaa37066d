use Rattle.std.proofs.Common.{◌≡◌, map, ap, sym, ◌∙◌}
use Rattle.std.proofs.lemmas.List.{take_all}
use Rattle.std.proofs.lemmas.Result.{err_from_is_err_and}
use Rattle.std.specs.Str.{is_utf8}
use Rattle.percent_encoding.specs.Percent.{percent_decode}
use Rattle.path_names.specs.Names.{segment_texts}
use Rattle.path_names.proofs.PathLemmas.{texts_from_pieces, length-texts, list_all_fails}
use Rattle.path_names.proofs.path.decoded.Goals as goal

pub returns-in_err-decoded_piece-clause-other : goal.returns-in_err-decoded_piece-clause-other
returns-in_err-decoded_piece-clause-other c =
    let p = err_from_is_err_and c.from_residual-in_err-decoded_piece.result c.from_residual-in_err-decoded_piece.ensures.1 in
    let all = texts_from_pieces c.args.path.now _ _ _ c.without_end_slash.ensures c.in_ok-pieces.ensures c.deref-piece-items.ensures.value in
    rw (p.1, p.2) (λ other. rw (sym all) (list_all_fails is_utf8 _ _ c.loop-piece.piece-index _ c.loop-piece-test.true (c.in_err-decoded_piece.ensures.other other)))

read : (c : goal.After-drop-pieces-2) → c.loop-piece.found.items ≡ segment_texts c.args.path.now
read c =
    c.loop-piece.invariant.read ∙ ap (map (λ piece. percent_decode piece.now)) (take_all _ _ c.loop-piece-test.false)
    ∙ texts_from_pieces c.args.path.now _ _ _ c.without_end_slash.ensures c.in_ok-pieces.ensures c.deref-piece-items.ensures.value

pub returns-clause-ok : goal.returns-clause-ok
returns-clause-ok c = read c

pub returns-clause-some : goal.returns-clause-some
returns-clause-some c = rw (read c) (length-texts c.args.path.now)

pub returns-clause-utf8 : goal.returns-clause-utf8
returns-clause-utf8 c = rw (sym (read c)) c.loop-piece.invariant.utf8
