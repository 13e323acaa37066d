use Rattle.std.proofs.Common.{nat_lt, Err, IsUtf8, sym, ap, ◌∙◌, subst}
use Rattle.serde_json.specs.Read.{max_depth}
use Rattle.children_reader.specs.Piecewise.{IsPieceTo, is_inner_comma}
use Rattle.json_spelling.specs.TokenPieces.{IsPiecePushed, IsPieceRefused}
use Rattle.children_reader.proofs.PartsRead.{CutLaws}
use Rattle.children_reader.proofs.Pieces.{piece_read, piece_no_text, piece_refused, all_taken}
use Rattle.children_reader.proofs.part_reader.PartReader.push_on.Goals as goal

pub returns-in_default-clause-read : goal.returns-in_default-clause-read
returns-in_default-clause-read g c =
    let laws : CutLaws = record { first = c.objects_begin_with_a_brace.ensures.first; turn = c.objects_are_joined_in_turn.ensures; value = c.a_cut_object_is_joined.ensures.value max_depth } in
    let json = c.args.json.now in
    let self = c.args.self in
    let behind = c.args.behind in
    let to = subst (λ t. IsPieceTo json self.looked t behind) (sym c.as_slice.ensures.value) c.requires.piece in
    piece_no_text g.T.TakesTokens.took c.a_cut_text_is_joined.ensures laws json c.as_slice.result.now self.looked.at self c.requires.read behind to c.in_default.ensures.cases.0

pub returns-in-Comma-clause-read : goal.returns-in-Comma-clause-read
returns-in-Comma-clause-read g c =
    let took = g.T.TakesTokens.took in
    let json = c.args.json.now in
    let self = c.args.self in
    let text = c.in-Ok.text.now in
    let behind = c.args.behind in
    let found = c.in-Ok.ensures.cases in
    let piece : IsPieceTo json self.looked text behind = subst (λ t. IsPieceTo json self.looked t behind) (sym (found.0 ∙ c.as_slice.ensures.value)) c.requires.piece in
    let utf8 : IsUtf8 text = subst IsUtf8 (sym found.0) found.1 in
    let next = c.in-Comma.looked in
    let to = subst (IsPieceTo json self.looked text) c.in-Comma.is piece in
    let comma = c.is_inner_comma-comma.ensures ∙ ap is_inner_comma c.in-Comma.is in
    let pushed = subst (λ b. IsPiecePushed took (nat_lt self.looked.at self.looked.end) b text self.taker c.push_tokens.new.taker) comma c.in-Ok-push_tokens.ensures.ok in
    (piece_read took c.a_cut_text_is_joined.ensures json text self.looked.at self next c.requires.read to c.push_tokens.new.taker utf8 pushed, to.further)

pub returns-in-Ok-push_tokens-clause-read : goal.returns-in-Ok-push_tokens-clause-read
returns-in-Ok-push_tokens-clause-read g c =
    let took = g.T.TakesTokens.took in
    let json = c.args.json.now in
    let self = c.args.self in
    let text = c.in-Ok.text.now in
    let behind = c.args.behind in
    let found = c.in-Ok.ensures.cases in
    let piece : IsPieceTo json self.looked text behind = subst (λ t. IsPieceTo json self.looked t behind) (sym (found.0 ∙ c.as_slice.ensures.value)) c.requires.piece in
    let utf8 : IsUtf8 text = subst IsUtf8 (sym found.0) found.1 in
    let next = c.in-End.next in
    let to = subst (IsPieceTo json self.looked text) c.in-End.is piece in
    let comma = c.is_inner_comma-comma.ensures ∙ ap is_inner_comma c.in-End.is in
    let pushed = subst (λ b. IsPiecePushed took (nat_lt self.looked.at self.looked.end) b text self.taker c.push_tokens.new.taker) comma c.in-Ok-push_tokens.ensures.ok in
    all_taken took json text self.looked.at self c.requires.read next to c.push_tokens.new.taker pushed utf8

pub returns-in-Err-NotJson-clause-read : goal.returns-in-Err-NotJson-clause-read
returns-in-Err-NotJson-clause-read g c =
    let took = g.T.TakesTokens.took in
    let laws : CutLaws = record { first = c.objects_begin_with_a_brace.ensures.first; turn = c.objects_are_joined_in_turn.ensures; value = c.a_cut_object_is_joined.ensures.value max_depth } in
    let json = c.args.json.now in
    let self = c.args.self in
    let text = c.in-Ok.text.now in
    let behind = c.args.behind in
    let found = c.in-Ok.ensures.cases in
    let piece : IsPieceTo json self.looked text behind = subst (λ t. IsPieceTo json self.looked t behind) (sym (found.0 ∙ c.as_slice.ensures.value)) c.requires.piece in
    let refused = subst (λ b. IsPieceRefused took (nat_lt self.looked.at self.looked.end) b text self.taker) c.is_inner_comma-comma.ensures (c.in-Err-NotJson.ensures.err (ap (λ f. Err f) c.in-Err-NotJson.field-0-is)) in
    piece_refused took c.a_cut_text_is_joined.ensures laws json text self.looked.at self c.requires.read behind piece refused
