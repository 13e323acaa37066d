use Rattle.std.proofs.Common.{◌≡◌, [], ◌∷◌, true, false, sym, ◌∙◌, arith}
use Rattle.std.proofs.lemmas.Bool.{false≢true}
use Rattle.std.proofs.lemmas.Grind.{common_steps}
use Rattle.json.specs.Print.{begins}
use Rattle.json.specs.Reads.{token_of}
use Rattle.json_spelling.proofs.TokenPieces.{none_pushed, one_pushed, one_refused, none_begins, none_there, none_ends}
use Rattle.json_spelling.proofs.token_pieces.push_tokens.Goals as goal
use Rattle.json_spelling.proofs.token_pieces.push_tokens.Goals.{else-not-begun-via-then-not-begun+else-not-begins_value, else-not-begun-via-else-not-begun, then-not-begun-2-via-then-not-begun-2, then-not-begun-2-via-else-not-begun-2+then-not-ended}

pub tokens-init : goal.tokens-init
tokens-init g c = none_pushed g.T.TakesTokens.took c.args.behind c.args.text.now c.args.taker.now _ c.in_ok-reader.ensures.ok

pub returns-then-not-begins_value-clause-err : goal.returns-then-not-begins_value-clause-err
returns-then-not-begins_value-clause-err g c _ =
    let l = c.tokens in
    let first : l.reader ≡ token_of c.in-Some.token ∷ c.next.new.self = grind arith in
    none_begins g.T.TakesTokens.took c.args.behind c.args.text.now c.args.taker.now l.taker l.reader l.begun l.ended (token_of c.in-Some.token) c.next.new.self l.invariant first
    c.args.before c.if-not-begun.true (sym c.begins_value.ensures ∙ c.if-not-begins_value.true)

pub tokens-preserved : goal.tokens-preserved
tokens-preserved g c =
    let l = c.tokens in
    let t = token_of c.in-Some.token in
    let first : l.reader ≡ t ∷ c.next.new.self = grind arith in
    let well : l.begun ≡ false → begins t ≡ true =
    λ none. elim c.else-not-begun.branch [
      | else-not-begun-via-then-not-begun+else-not-begins_value w ↦ sym w.begins_value.ensures ∙ w.if-not-begins_value.false
      | else-not-begun-via-else-not-begun w ↦ absurd (false≢true (sym none ∙ w.if-not-begun.false))
    ] in
    rw c.ends_value-ended.ensures
    (one_pushed g.T.TakesTokens.took c.args.behind c.args.text.now c.args.taker.now l.taker l.reader l.begun l.ended t c.next.new.self l.invariant first c.push.new.self well c.in_ok-push.ensures.ok)

pub returns-in_err-push-clause-err : goal.returns-in_err-push-clause-err
returns-in_err-push-clause-err g c =
    let l = c.tokens in
    let t = token_of c.in-Some.token in
    let first : l.reader ≡ t ∷ c.next.new.self = grind arith in
    let well : l.begun ≡ false → begins t ≡ true =
    λ none. elim c.else-not-begun.branch [
      | else-not-begun-via-then-not-begun+else-not-begins_value w ↦ sym w.begins_value.ensures ∙ w.if-not-begins_value.false
      | else-not-begun-via-else-not-begun w ↦ absurd (false≢true (sym none ∙ w.if-not-begun.false))
    ] in
    λ stop. one_refused g.T.TakesTokens.took c.args.behind c.args.text.now c.args.taker.now l.taker l.reader l.begun l.ended t c.next.new.self l.invariant first c.args.before well (c.in_err-push.ensures.err (grind (arith, common_steps)))

pub returns-then-not-begun-2-clause-err : goal.returns-then-not-begun-2-clause-err
returns-then-not-begun-2-clause-err g c _ =
    let l = c.tokens in
    let over : l.reader ≡ [] = grind arith in
    elim c.then-not-begun-2.branch [
      | then-not-begun-2-via-then-not-begun-2 w ↦ none_there g.T.TakesTokens.took c.args.behind c.args.text.now c.args.taker.now l.taker l.reader l.begun l.ended l.invariant over c.args.before w.if-not-begun-2.true
      | then-not-begun-2-via-else-not-begun-2+then-not-ended w ↦ none_ends g.T.TakesTokens.took c.args.behind c.args.text.now c.args.taker.now l.taker l.reader l.begun l.ended l.invariant over c.args.before w.if-not-ended.true.0 w.if-not-begun-2.false w.if-not-ended.true.1
    ]
