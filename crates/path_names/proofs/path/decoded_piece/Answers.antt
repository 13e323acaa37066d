use Rattle.std.proofs.Common.{IsUtf8, subst, sym}
use Rattle.std.proofs.lemmas.Str.{is_utf8-from_IsUtf8}
use Rattle.path_names.proofs.PathLemmas.{not_utf8}
use Rattle.path_names.proofs.path.decoded_piece.Goals as goal

pub returns-in_ok-into_owned-in-Ok-clause-utf8 : goal.returns-in_ok-into_owned-in-Ok-clause-utf8
returns-in_ok-into_owned-in-Ok-clause-utf8 c = is_utf8-from_IsUtf8 _ (subst IsUtf8 c.percent_decode.ensures.bytes c.in-Ok.ensures.ok_only_if_utf8)

pub returns-in-Err-Utf8-clause-other : goal.returns-in-Err-Utf8-clause-other
returns-in-Err-Utf8-clause-other c other =
    not_utf8 _ (λ is.
    let memory = c.in-Err-Utf8.ensures.utf8 (subst IsUtf8 (sym c.percent_decode.ensures.bytes) is) in
    let kind = c.in-Err-Utf8.field-0-is in
    cc)
