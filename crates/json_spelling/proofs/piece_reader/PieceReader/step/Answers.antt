use Rattle.std.proofs.Common.{nat_lt, None, Some, Err, is_some, IsUtf8, refl, sym, ap, ◌∙◌, subst}
use Rattle.json_spelling.specs.TokenPieces.{IsPiecePushed, IsPieceRefused}
use Rattle.json_spelling.proofs.PiecesTaken.{EndsAt, step_ends, no_piece_text, piece_refused, more_taken, all_taken}
use Rattle.json_spelling.proofs.piece_reader.PieceReader.step.Goals as goal

pub returns-in_default-clause-read : goal.returns-in_default-clause-read
returns-in_default-clause-read g c before =
    let took = g.T.TakesTokens.took in
    let text = c.args.text.now in
    let cut = c.step-cut.result in
    let ends = step_ends took text c.args.self _ _ cut c.unwrap_or-end.result before c.step-cut.ensures.cut c.unwrap_or-end.ensures refl in
    no_piece_text took text c.args.self c.a_cut_text_is_joined.ensures _ cut before ends c.in_default.ensures.cases.0

pub returns-in-Some-clause-read : goal.returns-in-Some-clause-read
returns-in-Some-clause-read g c before =
    let took = g.T.TakesTokens.took in
    let text = c.args.text.now in
    let self = c.args.self in
    let piece = c.in-Ok.piece.now in
    let is = c.in-Some.is in
    let found = c.in-Ok.ensures.cases in
    let ends : EndsAt text self.at (Some c.in-Some.cut) piece =
    subst (λ o. EndsAt text self.at o piece) is (step_ends took text self piece _ c.step-cut.result c.unwrap_or-end.result before c.step-cut.ensures.cut c.unwrap_or-end.ensures found.0) in
    let pushed = subst (λ b. IsPiecePushed took (nat_lt 0 self.at) b piece self.taker c.push_tokens.new.taker) (c.is_some.ensures ∙ ap is_some is) c.in-Ok-push_tokens.ensures.ok in
    more_taken took text self c.a_cut_text_is_joined.ensures piece before _ c.in-Some.cut ends (subst IsUtf8 (sym found.0) found.1) refl (c.new.ensures.searched text) pushed

pub returns-in-None-clause-read : goal.returns-in-None-clause-read
returns-in-None-clause-read g c before =
    let took = g.T.TakesTokens.took in
    let text = c.args.text.now in
    let self = c.args.self in
    let piece = c.in-Ok.piece.now in
    let is = c.in-None.is in
    let found = c.in-Ok.ensures.cases in
    let ends : EndsAt text self.at None piece =
    subst (λ o. EndsAt text self.at o piece) is (step_ends took text self piece _ c.step-cut.result c.unwrap_or-end.result before c.step-cut.ensures.cut c.unwrap_or-end.ensures found.0) in
    let pushed = subst (λ b. IsPiecePushed took (nat_lt 0 self.at) b piece self.taker c.push_tokens.new.taker) (c.is_some.ensures ∙ ap is_some is) c.in-Ok-push_tokens.ensures.ok in
    all_taken took text self c.a_cut_text_is_joined.ensures piece before c.push_tokens.new.taker ends (subst IsUtf8 (sym found.0) found.1) pushed

pub returns-in-Err-NotJson-clause-read : goal.returns-in-Err-NotJson-clause-read
returns-in-Err-NotJson-clause-read g c before =
    let took = g.T.TakesTokens.took in
    let text = c.args.text.now in
    let self = c.args.self in
    let piece = c.in-Ok.piece.now in
    let cut = c.step-cut.result in
    let ends = step_ends took text self piece _ cut c.unwrap_or-end.result before c.step-cut.ensures.cut c.unwrap_or-end.ensures c.in-Ok.ensures.cases.0 in
    let refused = subst (λ b. IsPieceRefused took (nat_lt 0 self.at) b piece self.taker) c.is_some.ensures (c.in-Err-NotJson.ensures.err (ap (λ f. Err f) c.in-Err-NotJson.field-0-is)) in
    piece_refused took text self c.a_cut_text_is_joined.ensures piece cut before ends refused
