use Rattle.std.proofs.Common.{◌<◌, [], length, take, get_or, arith}
use Rattle.std.specs.List.{concat}
use Rattle.std.proofs.lemmas.List.{take_more}
use Rattle.folder_shelf.proofs.Parts.{concat_push}
use Rattle.folder_shelf.proofs.file_text.digest_of_all.Goals as goal

pub loop-piece-preserved : goal.loop-piece-preserved
loop-piece-preserved c =
    let pieces = c.args.pieces.now in
    let i = c.loop-piece.piece-index in
    let within : i < length pieces = omega arith in
    rw (take_more pieces i [] within, concat_push (take i pieces) (get_or pieces i []))
    (c.update.ensures (concat (take i pieces)) c.loop-piece.invariant)
